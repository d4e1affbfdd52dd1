-- A good word is the same word where a comma and more follow: no part of it looks beyond the comma.
use Rattle.std.proofs.Common.{◌≡◌, ℕ, ◌+◌, ◌-◌, ◌≤◌, Bool, true, false, ◌||◌, ◌==◌, cond, List, [], ◌∷◌, ◌++◌, length, take, drop, Option, Some, None, option_map, option_and_then, refl, ap, ◌∙◌, arith, length-append, length-take}
use Rattle.std.proofs.lemmas.Bool.{false≢true, and_parts}
use Rattle.std.proofs.lemmas.List.{take-append-le, drop-append-le}
use Rattle.std.proofs.lemmas.List.Sums.{prefix_len-le-length}
use Rattle.std.proofs.lemmas.Slice.Eq.{bytes_eq-Decides}
use Rattle.std.specs.List.{prefix_len}
use Rattle.std.specs.Char.{is_ascii_digit}
use Rattle.json.specs.Token.{Token, bad, boolean, null}
use Rattle.json.specs.Word.{ends_word, after_digits, after_minus, after_sign, after_whole, after_fraction, after_exponent, after_number, number_before, literal, word}
use Rattle.json.specs.Align.{is_good}

kept_cond : (c : Bool) (x y z w : Token) → (is_good x ≡ true → z ≡ x) → (is_good y ≡ true → w ≡ y) → is_good (cond c x y) ≡ true → cond c z w ≡ cond c x y
kept_cond true x y z w f g h = f h
kept_cond false x y z w f g h = g h

passed : (c : Bool) (t : Token) → is_good (cond c t bad) ≡ true → c ≡ true
passed true t h = refl
passed false t h = absurd (false≢true h)

module _ (b : List ℕ) where
  abbrev longer : Option (List ℕ) → Option (List ℕ)
  longer o = option_map (λ r. r ++ 44 ∷ b) o

  cond_longer : (c : Bool) (x y z w : Option (List ℕ)) → z ≡ longer x → w ≡ longer y → cond c z w ≡ longer (cond c x y)
  cond_longer true x y z w e f = e
  cond_longer false x y z w e f = f

  cond_list : (c : Bool) (x y : List ℕ) → cond c (x ++ 44 ∷ b) (y ++ 44 ∷ b) ≡ cond c x y ++ 44 ∷ b
  cond_list true x y = refl
  cond_list false x y = refl

  digits : (t : List ℕ) → prefix_len is_ascii_digit (t ++ 44 ∷ b) ≡ prefix_len is_ascii_digit t
  digits [] = refl
  digits (x ∷ xs) = ap (λ n. cond (is_ascii_digit x) (1 + n) 0) (digits xs)

  digits-after : (t : List ℕ) → after_digits (t ++ 44 ∷ b) ≡ longer (after_digits t)
  digits-after t =
      let n = prefix_len is_ascii_digit t in
      ap (λ k. cond (k == 0) None (Some (drop k (t ++ 44 ∷ b)))) (digits t)
      ∙ cond_longer (n == 0) None (Some (drop n t)) None (Some (drop n (t ++ 44 ∷ b))) refl (ap Some (drop-append-le n t (44 ∷ b) (prefix_len-le-length is_ascii_digit t)))

  minus-after : (t : List ℕ) → after_minus (t ++ 44 ∷ b) ≡ after_minus t ++ 44 ∷ b
  minus-after [] = refl
  minus-after (x ∷ xs) = cond_list (x == 45) xs (x ∷ xs)

  sign-after : (t : List ℕ) → after_sign (t ++ 44 ∷ b) ≡ after_sign t ++ 44 ∷ b
  sign-after [] = refl
  sign-after (x ∷ xs) = cond_list ((x == 45) || (x == 43)) xs (x ∷ xs)

  whole-after : (t : List ℕ) → after_whole (t ++ 44 ∷ b) ≡ longer (after_whole t)
  whole-after [] = refl
  whole-after (x ∷ xs) = cond_longer (x == 48) (Some xs) (after_digits (x ∷ xs)) (Some (xs ++ 44 ∷ b)) (after_digits (x ∷ xs ++ 44 ∷ b)) refl (digits-after (x ∷ xs))

  fraction-after : (t : List ℕ) → after_fraction (t ++ 44 ∷ b) ≡ longer (after_fraction t)
  fraction-after [] = refl
  fraction-after (x ∷ xs) = cond_longer (x == 46) (after_digits xs) (Some (x ∷ xs)) (after_digits (xs ++ 44 ∷ b)) (Some (x ∷ xs ++ 44 ∷ b)) (digits-after xs) refl

  exponent-after : (t : List ℕ) → after_exponent (t ++ 44 ∷ b) ≡ longer (after_exponent t)
  exponent-after [] = refl
  exponent-after (x ∷ xs) =
      cond_longer ((x == 101) || (x == 69)) (after_digits (after_sign xs)) (Some (x ∷ xs)) (after_digits (after_sign (xs ++ 44 ∷ b))) (Some (x ∷ xs ++ 44 ∷ b))
      (ap after_digits (sign-after xs) ∙ digits-after (after_sign xs)) refl

  then-after : (f : List ℕ → Option (List ℕ)) → ((t : List ℕ) → f (t ++ 44 ∷ b) ≡ longer (f t)) → (o : Option (List ℕ)) → option_and_then f (longer o) ≡ longer (option_and_then f o)
  then-after f h None = refl
  then-after f h (Some t) = h t

  number-after : (t : List ℕ) → after_number (t ++ 44 ∷ b) ≡ longer (after_number t)
  unfolding after_number
  number-after t =
      ap (λ o. option_and_then after_exponent (option_and_then after_fraction o)) (ap after_whole (minus-after t) ∙ whole-after (after_minus t))
      ∙ ap (option_and_then after_exponent) (then-after after_fraction fraction-after (after_whole (after_minus t)))
      ∙ then-after after_exponent exponent-after (option_and_then after_fraction (after_whole (after_minus t)))

  ends : (t : List ℕ) → ends_word (t ++ 44 ∷ b) ≡ ends_word t
  ends [] = refl
  ends (x ∷ xs) = refl

  number_same : (t : List ℕ) (o : Option (List ℕ)) → number_before (t ++ 44 ∷ b) (longer o) ≡ number_before t o
  number_same t None = refl
  number_same t (Some rest) =
      let n = length t - length rest in
      let le : n ≤ length t = omega arith in
      let e : length (t ++ 44 ∷ b) - length (rest ++ 44 ∷ b) ≡ n = omega (arith, length-append t (44 ∷ b), length-append rest (44 ∷ b)) in
      ap (λ w. cond w (Token.number (take (length (t ++ 44 ∷ b) - length (rest ++ 44 ∷ b)) (t ++ 44 ∷ b))) bad) (ends rest)
      ∙ ap (λ text. cond (ends_word rest) (Token.number text) bad) (ap (λ k. take k (t ++ 44 ∷ b)) e ∙ take-append-le n t (44 ∷ b) le)

  literal_same : (name : List ℕ) (k : Token) (t : List ℕ) → is_good (literal name k t) ≡ true → literal name k (t ++ 44 ∷ b) ≡ literal name k t
  literal_same name k t good =
      let n = length name in
      let both = and_parts _ _ (passed _ k good) in
      let front : name ≡ take n t = (bytes_eq-Decides name (take n t)).0 both.0 in
      let le : n ≤ length t = omega (arith, ap length front, length-take n t) in
      rw (take-append-le n t (44 ∷ b) le, drop-append-le n t (44 ∷ b) le, ends (drop n t))

  number_word : (t : List ℕ) → number_before (t ++ 44 ∷ b) (after_number (t ++ 44 ∷ b)) ≡ number_before t (after_number t)
  number_word t = ap (number_before (t ++ 44 ∷ b)) (number-after t) ∙ number_same t (after_number t)

  pub word_same : (t : List ℕ) → is_good (word t) ≡ true → word (t ++ 44 ∷ b) ≡ word t
  unfolding word
  word_same [] good = number_word []
  word_same (x ∷ xs) good =
      let t = x ∷ xs in
      kept_cond (x == 116) _ _ _ _ (literal_same (116 ∷ 114 ∷ 117 ∷ 101 ∷ []) (boolean true) t)
      (kept_cond (x == 102) _ _ _ _ (literal_same (102 ∷ 97 ∷ 108 ∷ 115 ∷ 101 ∷ []) (boolean false) t)
      (kept_cond (x == 110) _ _ _ _ (literal_same (110 ∷ 117 ∷ 108 ∷ 108 ∷ []) null t) (λ h. number_word t))) good
