-- A string that closes has the same content whatever follows, and the lexer then is behind it.
use Rattle.std.proofs.Common.{◌≡◌, ℕ, Bool, true, false, cond, ◌&&◌, ◌==◌, nat_lt, List, [], ◌∷◌, ◌++◌, Option, Some, None, is_some, option_and_then, refl, sym, ap, ◌∙◌}
use Rattle.std.proofs.lemmas.Bool.{false≢true, eqb-true, and_parts}
use Rattle.std.specs.Char.{is_digit, encode_utf8}
use Rattle.json.specs.Text.{code_unit, short_escape, is_high_surrogate, is_low_surrogate, surrogate_pair, Within, plain, after_backslash, after_u, after_high, prepend, content}
use Rattle.json.specs.Word.{is_operator, is_space}
use Rattle.json.specs.Lex.{Class, quote, backslash, operator, space, other, class, Mode, between, in_word, in_string, in_escape}

abbrev pub closes_byte : Mode → Class → (Mode → Bool) → Bool
closes_byte between c k = true
closes_byte in_word c k = true
closes_byte in_string quote k = true
closes_byte in_string backslash k = k in_escape
closes_byte in_string operator k = k in_string
closes_byte in_string space k = k in_string
closes_byte in_string other k = k in_string
closes_byte in_escape c k = k in_string

-- the string that the lexer is in closes, if it is in one
unfoldable pub closes : Mode → List ℕ → Bool
closes between [] = true
closes in_word [] = true
closes in_string [] = false
closes in_escape [] = false
closes m (x ∷ xs) = closes_byte m (class x) (λ next. closes next xs)

pub closes-between : (xs : List ℕ) → closes between xs ≡ true
unfolding closes
closes-between [] = refl
closes-between (x ∷ xs) = refl

pub closes-in_word : (xs : List ℕ) → closes in_word xs ≡ true
unfolding closes
closes-in_word [] = refl
closes-in_word (x ∷ xs) = refl

-- where there is a content o, p is the same, and the string closes
abbrev pub Kept : Bool → Option (List ℕ) → Option (List ℕ) → Type 0
Kept closed None p = Unit {0}
Kept closed (Some s) p = (p ≡ Some s) × (closed ≡ true)

both : (closed c : Bool) (x y z w : Option (List ℕ)) → (c ≡ true → Kept closed x z) → (c ≡ false → Kept closed y w) → Kept closed (cond c x y) (cond c z w)
both closed true x y z w f g = f refl
both closed false x y z w f g = g refl

then : (closed : Bool) (f g : ℕ → Option (List ℕ)) (o : Option ℕ) → (is_some o ≡ true → (u : ℕ) → Kept closed (f u) (g u)) → Kept closed (option_and_then f o) (option_and_then g o)
then closed f g None h = tt
then closed f g (Some u) h = h refl u

more : (closed there : Bool) (o p : Option (List ℕ)) → closed ≡ there → Kept there o p → Kept closed o p
more closed there None p e h = tt
more closed there (Some s) p e h = (h.0, e ∙ h.1)

longer : (closed there : Bool) (a : List ℕ) (o p : Option (List ℕ)) → closed ≡ there → Kept there o p → Kept closed (prepend a o) (prepend a p)
longer closed there a None p e h = tt
longer closed there a (Some s) p e h = (ap (prepend a) h.0, e ∙ h.1)

all_hex : (c : Bool) (u : ℕ) → is_some (cond c (Some u) None) ≡ true → c ≡ true
all_hex true u h = refl
all_hex false u h = h

passes : (o s : Bool) (k : Mode → Bool) → closes_byte in_string (cond o operator (cond s space other)) k ≡ k in_string
passes true s k = refl
passes false true k = refl
passes false false k = refl

closes_plain : (x : ℕ) (xs : List ℕ) → (x == 34) ≡ false → (x == 92) ≡ false → closes in_string (x ∷ xs) ≡ closes in_string xs
unfolding closes
closes_plain x xs q b =
    (λ i. closes_byte in_string (cond (q i) quote (cond (b i) backslash (cond (is_operator x) operator (cond (is_space x) space other)))) (λ n. closes n xs)) ∙ passes (is_operator x) (is_space x) (λ n. closes n xs)

closes_quote : (x : ℕ) (xs : List ℕ) → (x == 34) ≡ true → closes in_string (x ∷ xs) ≡ true
unfolding closes
closes_quote x xs q = ap (λ y. closes in_string (y ∷ xs)) (eqb-true x 34 q)

closes_backslash : (x : ℕ) (xs : List ℕ) → (x == 92) ≡ true → closes in_string (x ∷ xs) ≡ closes in_escape xs
unfolding closes
closes_backslash x xs b = ap (λ y. closes in_string (y ∷ xs)) (eqb-true x 92 b)

closes_escape : (x : ℕ) (xs : List ℕ) → closes in_escape (x ∷ xs) ≡ closes in_string xs
unfolding closes
closes_escape x xs = refl

not_this : (c x : ℕ) (t : Bool) → (t ≡ true → x ≡ c) → is_digit c 16 ≡ false → is_digit x 16 ≡ true → t ≡ false
not_this c x false e never h = refl
not_this c x true e never h = absurd (false≢true (sym never ∙ ap (λ y. is_digit y 16) (sym (e refl)) ∙ h))

closes_hex : (x : ℕ) (xs : List ℕ) → is_digit x 16 ≡ true → closes in_string (x ∷ xs) ≡ closes in_string xs
closes_hex x xs h = closes_plain x xs (not_this 34 x (x == 34) (eqb-true x 34) refl h) (not_this 92 x (x == 92) (eqb-true x 92) refl h)

closes_unit : (a b c d : ℕ) (xs : List ℕ) → is_some (code_unit a b c d) ≡ true → closes in_string (a ∷ b ∷ c ∷ d ∷ xs) ≡ closes in_string xs
unfolding code_unit
closes_unit a b c d xs h =
    let p = and_parts (is_digit a 16 && is_digit b 16 && is_digit c 16) (is_digit d 16) (all_hex _ _ h) in
    let q = and_parts (is_digit a 16 && is_digit b 16) (is_digit c 16) p.0 in
    let r = and_parts (is_digit a 16) (is_digit b 16) q.0 in
    closes_hex a (b ∷ c ∷ d ∷ xs) r.0 ∙ closes_hex b (c ∷ d ∷ xs) r.1 ∙ closes_hex c (d ∷ xs) q.1 ∙ closes_hex d xs p.1

abbrev mode : Within → Mode
mode plain = in_string
mode after_backslash = in_escape
mode after_u = in_string
mode (after_high h) = in_string

module _ (rest : List ℕ) where
  kept : (w : Within) (xs : List ℕ) → Kept (closes (mode w) xs) (content w xs) (content w (xs ++ rest))
  unfolding content
  kept plain [] = tt
  kept plain (x ∷ xs) =
      let n = closes in_string (x ∷ xs) in
      both n (x == 34) _ _ _ _ (λ q. (refl, closes_quote x xs q)) (λ q. both n (x == 92) _ _ _ _ (λ b. more n _ _ _ (closes_backslash x xs b) (kept after_backslash xs))
      (λ b. both n (nat_lt x 32) _ _ _ _ (λ l. tt) (λ l. longer n _ (x ∷ []) _ _ (closes_plain x xs q b) (kept plain xs))))
  kept after_backslash [] = tt
  kept after_backslash (x ∷ xs) =
      let n = closes in_escape (x ∷ xs) in
      both n (x == 117) _ _ _ _ (λ u. more n _ _ _ (closes_escape x xs) (kept after_u xs))
      (λ u. then n _ _ (short_escape x) (λ f c. longer n _ (c ∷ []) _ _ (closes_escape x xs) (kept plain xs)))
  kept after_u [] = tt
  kept after_u (a ∷ []) = tt
  kept after_u (a ∷ b ∷ []) = tt
  kept after_u (a ∷ b ∷ c ∷ []) = tt
  kept after_u (a ∷ b ∷ c ∷ d ∷ xs) =
      let n = closes in_string (a ∷ b ∷ c ∷ d ∷ xs) in
      then n _ _ (code_unit a b c d) (λ f u. both n (is_high_surrogate u) _ _ _ _ (λ h. more n _ _ _ (closes_unit a b c d xs f) (kept (after_high u) xs))
      (λ h. both n (is_low_surrogate u) _ _ _ _ (λ l. tt) (λ l. longer n _ (encode_utf8 u) _ _ (closes_unit a b c d xs f) (kept plain xs))))
  kept (after_high h) [] = tt
  kept (after_high h) (s ∷ []) = tt
  kept (after_high h) (s ∷ u ∷ []) = tt
  kept (after_high h) (s ∷ u ∷ a ∷ []) = tt
  kept (after_high h) (s ∷ u ∷ a ∷ b ∷ []) = tt
  kept (after_high h) (s ∷ u ∷ a ∷ b ∷ c ∷ []) = tt
  kept (after_high h) (s ∷ u ∷ a ∷ b ∷ c ∷ d ∷ xs) =
      let n = closes in_string (s ∷ u ∷ a ∷ b ∷ c ∷ d ∷ xs) in
      both n ((s == 92) && (u == 117)) _ _ _ _ (λ e. then n _ _ (code_unit a b c d) (λ f l. both n (is_low_surrogate l) _ _ _ _
      (λ y. longer n _ (encode_utf8 (surrogate_pair h l)) _ _
      (closes_backslash s (u ∷ a ∷ b ∷ c ∷ d ∷ xs) (and_parts _ _ e).0 ∙ closes_escape u (a ∷ b ∷ c ∷ d ∷ xs) ∙ closes_unit a b c d xs f) (kept plain xs)) (λ y. tt))) (λ e. tt)

  pub content_kept : (xs : List ℕ) → Kept (closes in_string xs) (content plain xs) (content plain (xs ++ rest))
  content_kept xs = kept plain xs
