-- What is read back of printed lines.
use Rattle.std.proofs.Common.{◌≡◌, ℕ, ◌+◌, ◌%◌, ◌<◌, ◌≤◌, ◌^◌, Bool, true, false, not, ◌&&◌, ◌==◌, List, [], ◌∷◌, ◌++◌, length, flat_map, get_or, drop, decimal, refl, sym, ◌∙◌, ap, ap₂, subst, arith, append_assoc, ne_eqb}
use Rattle.std.specs.List.{range_with_len, All}
use Rattle.std.proofs.lemmas.List.{get_or_at, length-append}
use Rattle.std.proofs.lemmas.List.Elements.{All-head, All-tail}
use Rattle.std.proofs.lemmas.Fmt.{decimal_by_steps, decimal_injective}
use Rattle.bwe_specs.specs.Reports.{numbers}

-- a byte of a name or a number: no line feed and no space
abbrev pub in_word : ℕ → Bool
in_word byte = not (byte == 10) && not (byte == 32)

abbrev pub IsWord : List ℕ → Type 0
IsWord [] = Unit {0}
IsWord (byte ∷ bytes) = (in_word byte ≡ true) × IsWord bytes

-- what stands before the first byte that is not of a word is the word
pub word-read : (one two : List ℕ) (end stop : ℕ) (more rest : List ℕ) → IsWord one → IsWord two → in_word end ≡ false → in_word stop ≡ false
    → one ++ end ∷ more ≡ two ++ stop ∷ rest → (one ≡ two) × (end ∷ more ≡ stop ∷ rest)
word-read [] [] end stop more rest are also ends stops same = (refl, same)
word-read [] (byte ∷ two) end stop more rest are also ends stops same =
    let first : end ≡ byte = ap (λ list. get_or list 0 0) same in
    let yes : in_word end ≡ true = ap in_word first ∙ also.0 in absurd (cc)
word-read (byte ∷ one) [] end stop more rest are also ends stops same =
    let first : byte ≡ stop = ap (λ list. get_or list 0 0) same in
    let no : in_word byte ≡ false = ap in_word first ∙ stops in
    let yes : in_word byte ≡ true = are.0 in absurd (cc)
word-read (byte ∷ one) (other ∷ two) end stop more rest are also ends stops same =
    let later = word-read one two end stop more rest are.1 also.1 ends stops (ap (drop 1) same) in
    (ap₂ (λ b bs. b ∷ bs) (ap (λ list. get_or list 0 0) same) later.0, later.1)

word-append : (one two : List ℕ) → IsWord one → IsWord two → IsWord (one ++ two)
word-append [] two are also = also
word-append (byte ∷ one) two are also = (are.0, word-append one two are.1 also)

high-word : (byte : ℕ) → 33 ≤ byte → in_word byte ≡ true
high-word byte high = rw (ne_eqb byte 10 (λ e. omega (arith, e, high)), ne_eqb byte 32 (λ e. omega (arith, e, high))) refl

-- a printed number is a word
pub decimal-word : (n : ℕ) → n < 2 ^ 64 → IsWord (decimal n)
decimal-word n small =
    decimal_by_steps (λ n digits. IsWord digits) (λ n lt. (high-word (48 + n) (omega arith), tt))
    (λ n digits le are. word-append digits ((48 + n % 10) ∷ []) are (high-word (48 + n % 10) (omega arith), tt)) n small

pub number-read : (n m end stop : ℕ) (more rest : List ℕ) → n < 2 ^ 64 → m < 2 ^ 64 → in_word end ≡ false → in_word stop ≡ false
    → decimal n ++ end ∷ more ≡ decimal m ++ stop ∷ rest → (n ≡ m) × (end ∷ more ≡ stop ∷ rest)
number-read n m end stop more rest small few ends stops same =
    let both = word-read (decimal n) (decimal m) end stop more rest (decimal-word n small) (decimal-word m few) ends stops same in
    (decimal_injective n m small few both.0, both.1)

-- pieces that were put together from the left, put together from the right
pub nest5 : (a b c d e r : List ℕ) → a ++ b ++ c ++ d ++ e ++ r ≡ a ++ (b ++ (c ++ (d ++ (e ++ r))))
nest5 a b c d e r =
    append_assoc (a ++ b ++ c ++ d) e r ∙ append_assoc (a ++ b ++ c) d (e ++ r) ∙ append_assoc (a ++ b) c (d ++ (e ++ r)) ∙ append_assoc a b (c ++ (d ++ (e ++ r)))

pub nest8 : (a b c d e f g h r : List ℕ) → a ++ b ++ c ++ d ++ e ++ f ++ g ++ h ++ r ≡ a ++ (b ++ (c ++ (d ++ (e ++ (f ++ (g ++ (h ++ r)))))))
nest8 a b c d e f g h r =
    append_assoc (a ++ b ++ c ++ d ++ e ++ f ++ g) h r ∙ append_assoc (a ++ b ++ c ++ d ++ e ++ f) g (h ++ r) ∙ append_assoc (a ++ b ++ c ++ d ++ e) f (g ++ (h ++ r))
    ∙ nest5 a b c d e (f ++ (g ++ (h ++ r)))

pub nest10 : (a b c d e f g h i j r : List ℕ) → a ++ b ++ c ++ d ++ e ++ f ++ g ++ h ++ i ++ j ++ r ≡ a ++ (b ++ (c ++ (d ++ (e ++ (f ++ (g ++ (h ++ (i ++ (j ++ r)))))))))
nest10 a b c d e f g h i j r =
    append_assoc (a ++ b ++ c ++ d ++ e ++ f ++ g ++ h ++ i) j r ∙ append_assoc (a ++ b ++ c ++ d ++ e ++ f ++ g ++ h) i (j ++ r) ∙ nest8 a b c d e f g h (i ++ (j ++ r))

-- the lines of a list, each by its place
abbrev pub walk : {X : Type 0} → (ℕ → X → List ℕ) → ℕ → List X → List ℕ
walk line at [] = []
walk line at (x ∷ xs) = line at x ++ walk line (at + 1) xs

-- lines that are read of a list by number
by-number : {X : Type 0} (line : ℕ → X → List ℕ) (d : X) (front xs : List X)
    → flat_map (λ k. line k (get_or (front ++ xs) k d)) (range_with_len (length front) (length xs)) ≡ walk line (length front) xs
by-number line d front [] = refl
by-number line d front (x ∷ xs) =
    let longer : length (front ++ x ∷ []) ≡ length front + 1 = omega (arith, length-append front (x ∷ [])) in
    let rest : flat_map (λ k. line k (get_or ((front ++ x ∷ []) ++ xs) k d)) (range_with_len (length front + 1) (length xs)) ≡ walk line (length front + 1) xs =
    subst (λ n. flat_map (λ k. line k (get_or ((front ++ x ∷ []) ++ xs) k d)) (range_with_len n (length xs)) ≡ walk line n xs) longer (by-number line d (front ++ x ∷ []) xs) in
    ap₂ (λ one more. one ++ more) (ap (line (length front)) (get_or_at front x xs d (length front) refl))
    (subst (λ list. flat_map (λ k. line k (get_or list k d)) (range_with_len (length front + 1) (length xs)) ≡ walk line (length front + 1) xs) (append_assoc front (x ∷ []) xs) rest)

pub walk-is : {X : Type 0} (line : ℕ → X → List ℕ) (d : X) (xs : List X) → flat_map (λ k. line k (get_or xs k d)) (numbers (length xs)) ≡ walk line 0 xs
walk-is line d xs = by-number line d [] xs

-- lines that need no place
pub walk-plain : {X : Type 0} (line : X → List ℕ) (at : ℕ) (xs : List X) → flat_map line xs ≡ walk (λ at x. line x) at xs
walk-plain line at [] = refl
walk-plain line at (x ∷ xs) = ap (λ more. line x ++ more) (walk-plain line (at + 1) xs)

-- what is not marked by any of the lines, nor by what comes after them
pub walk-mark : {X : Type 0} (line : ℕ → X → List ℕ) (mark : List ℕ → Bool) → ((at : ℕ) (x : X) (more : List ℕ) → mark (line at x ++ more) ≡ false)
    → (at : ℕ) (xs : List X) (more : List ℕ) → mark more ≡ false → mark (walk line at xs ++ more) ≡ false
walk-mark line mark each at [] more none = none
walk-mark line mark each at (x ∷ xs) more none = ap mark (append_assoc (line at x) (walk line (at + 1) xs) more) ∙ each at x (walk line (at + 1) xs ++ more)

-- lines that begin with a mark, each of which can be read, are read one after the other up to what has not the mark
module _ {X : Type 0} (line : ℕ → X → List ℕ) (mark stop : List ℕ → Bool) (Good : X → Type 0)
    (begins : (at : ℕ) (x : X) (more : List ℕ) → mark (line at x ++ more) ≡ true)
    (stops : (at : ℕ) (x : X) (more : List ℕ) → stop (line at x ++ more) ≡ false)
    (read : (at : ℕ) (x y : X) (more rest : List ℕ) → Good x → Good y → stop more ≡ false → stop rest ≡ false → line at x ++ more ≡ line at y ++ rest → (x ≡ y) × (more ≡ rest)) where
  marked : (at : ℕ) (x : X) (xs : List X) (more rest : List ℕ) → mark rest ≡ false → (line at x ++ walk line (at + 1) xs) ++ more ≡ rest → ⊥
  marked at x xs more rest none same =
      let yes : mark rest ≡ true = ap mark (sym same ∙ append_assoc (line at x) (walk line (at + 1) xs) more) ∙ begins at x (walk line (at + 1) xs ++ more) in
      cc

  pub walk-read : (at : ℕ) (xs ys : List X) (more rest : List ℕ) → All Good xs → All Good ys → mark more ≡ false → mark rest ≡ false → stop more ≡ false → stop rest ≡ false
      → walk line at xs ++ more ≡ walk line at ys ++ rest → (xs ≡ ys) × (more ≡ rest)
  walk-read at [] [] more rest good also none nor ends end same = (refl, same)
  walk-read at [] (y ∷ ys) more rest good also none nor ends end same = absurd (marked at y ys rest more none (sym same))
  walk-read at (x ∷ xs) [] more rest good also none nor ends end same = absurd (marked at x xs more rest nor same)
  walk-read at (x ∷ xs) (y ∷ ys) more rest good also none nor ends end same =
      let first = read at x y (walk line (at + 1) xs ++ more) (walk line (at + 1) ys ++ rest) (All-head Good x xs good) (All-head Good y ys also)
      (walk-mark line stop stops (at + 1) xs more ends) (walk-mark line stop stops (at + 1) ys rest end)
      (sym (append_assoc (line at x) (walk line (at + 1) xs) more) ∙ same ∙ append_assoc (line at y) (walk line (at + 1) ys) rest) in
      let later = walk-read (at + 1) xs ys more rest (All-tail Good x xs good) (All-tail Good y ys also) none nor ends end first.1 in
      (ap₂ (λ one list. one ∷ list) first.0 later.0, later.1)
