-- Rows of a text, blocks of rows, and the block of a change that is found by its key.
use Rattle.std.proofs.Common.{◌≡◌, ◌<◌, ◌+◌, ◌%◌, ◌/◌, ℕ, zero, suc, Bool, true, false, cond, not, List, [], ◌∷◌, ◌++◌, map, filter, find, flat_map, Option, Some, None, refl, sym, ap, ap₂, ◌∙◌, arith, All, ◌==◌, codes, decimal, ◌⊎◌, inl, inr, append_assoc, bytes_eq, ne_eqb, lt-ltb}
use Rattle.std.specs.Fmt.{digit_glyph, digits, digits_onto}
use Rattle.std.specs.Option.{unwrap_or}
use Rattle.std.proofs.lemmas.List.Elements.{All-append, All-cons, All-head, All-nil, All-tail}
use Rattle.std.proofs.lemmas.List.Concat.{flat_map-append}
use Rattle.std.proofs.lemmas.Slice.Eq.{bytes_eq-Decides}
use Rattle.text_scan.specs.Lines.{lines_of}
use Rattle.text_scan.proofs.LineFacts.{line_fed}
use Rattle.change_text.specs.ChangedText.{Block, above, blocks_of_rows, is_place, key_of, newest, text_of_rows}

-- ---- bytes that a text has not

-- none of the bytes is this one
abbrev pub HasNo : ℕ → List ℕ → Type 0
HasNo byte bytes = All (λ b. (b == byte) ≡ false) bytes

pub no-append : (byte : ℕ) (one two : List ℕ) → HasNo byte one → HasNo byte two → HasNo byte (one ++ two)
no-append byte one two has also = All-append (λ b. (b == byte) ≡ false) one two has also

digits-no : (byte : ℕ) → byte < 48 → (turns n : ℕ) (text : List ℕ) → HasNo byte text → HasNo byte (digits_onto turns 10 false n text)
digits-no byte low zero n text has = has
digits-no byte low (suc turns) n text has = go (n / 10 == 0) (digits-no byte low turns (n / 10) (digit_glyph false (n % 10) ∷ text) more) where
  glyph : digit_glyph false (n % 10) ≡ 48 + n % 10
  glyph = rw (lt-ltb (n % 10) 10 (omega arith)) refl

  more : HasNo byte (digit_glyph false (n % 10) ∷ text)
  more = All-cons (λ b. (b == byte) ≡ false) (digit_glyph false (n % 10)) text (ne_eqb (digit_glyph false (n % 10)) byte (λ e. omega (arith, glyph, e, low))) has

  go : (b : Bool) → HasNo byte (digits_onto turns 10 false (n / 10) (digit_glyph false (n % 10) ∷ text))
      → HasNo byte (cond b (digit_glyph false (n % 10) ∷ text) (digits_onto turns 10 false (n / 10) (digit_glyph false (n % 10) ∷ text)))
  go true later = more
  go false later = later

pub no-decimal : (byte : ℕ) → byte < 48 → (n : ℕ) → HasNo byte (decimal n)
unfolding digits
no-decimal byte low n = digits-no byte low 64 n [] (All-nil (λ b. (b == byte) ≡ false))

-- ---- rows of a text

pub rows-append : (one two : List (List ℕ)) → text_of_rows (one ++ two) ≡ text_of_rows one ++ text_of_rows two
rows-append one two = flat_map-append (λ (row : List ℕ). row ++ codes "\n") one two

pub rows-read : (rows : List (List ℕ)) → All (HasNo 10) rows → lines_of (text_of_rows rows) ≡ rows
unfolding lines_of
rows-read [] none = refl
rows-read (row ∷ rows) none =
    ap lines_of (append_assoc row (10 ∷ []) (text_of_rows rows))
    ∙ line_fed row (text_of_rows rows) (All-head (HasNo 10) row rows none)
    ∙ ap (λ (rest : List (List ℕ)). row ∷ rest) (rows-read rows (All-tail (HasNo 10) row rows none))

-- ---- blocks

-- rows `place` alone
abbrev pub ArePlaces : List (List ℕ) → Type 0
ArePlaces rows = All (λ row. is_place row ≡ true) rows

-- rows that do not go on with what stands above them
abbrev pub Opens : List (List ℕ) → Type 0
Opens [] = Unit {0}
Opens (row ∷ rows) = is_place row ≡ false

above-next : (row next : List ℕ) (blocks : List Block) → is_place next ≡ false → above row (above next blocks) ≡ (row ∷ []) ∷ above next blocks
above-next row next [] opens = rw opens refl
above-next row next ([] ∷ blocks) opens = rw opens refl
above-next row next ((other ∷ rows) ∷ blocks) opens = go (is_place other) where
  go : (b : Bool) → above row (cond b ((next ∷ other ∷ rows) ∷ blocks) ((next ∷ []) ∷ (other ∷ rows) ∷ blocks))
      ≡ (row ∷ []) ∷ cond b ((next ∷ other ∷ rows) ∷ blocks) ((next ∷ []) ∷ (other ∷ rows) ∷ blocks)
  go true = rw opens refl
  go false = rw opens refl

above-rest : (row : List ℕ) (rest : List (List ℕ)) → Opens rest → above row (blocks_of_rows rest) ≡ (row ∷ []) ∷ blocks_of_rows rest
above-rest row [] opens = refl
above-rest row (next ∷ rest) opens = above-next row next (blocks_of_rows rest) opens

one-block : (row : List ℕ) (places rest : List (List ℕ)) → ArePlaces places → Opens rest → blocks_of_rows (row ∷ places ++ rest) ≡ (row ∷ places) ∷ blocks_of_rows rest
one-block row [] rest are opens = above-rest row rest opens
one-block row (place ∷ places) rest are opens =
    ap (above row) (one-block place places rest (All-tail (λ row. is_place row ≡ true) place places are) opens)
    ∙ rw (All-head (λ row. is_place row ≡ true) place places are) refl

-- ---- what stands in a list

abbrev pub IsIn : {X : Type 0} → X → List X → Type 0
IsIn x [] = ⊥
IsIn x (y ∷ ys) = (x ≡ y) ⊎ IsIn x ys

pub same-each : {X : Type 0} (f g : X → List ℕ) (xs : List X) → ((x : X) → IsIn x xs → f x ≡ g x) → flat_map f xs ≡ flat_map g xs
same-each f g [] each = refl
same-each f g (x ∷ xs) each = ap₂ (λ (one more : List ℕ). one ++ more) (each x (inl refl)) (same-each f g xs (λ y is. each y (inr is)))

pub in-map : {X Y : Type 0} (f : X → Y) (xs : List X) (y : Y) → IsIn y (map f xs) → (x : X) × IsIn x xs × (y ≡ f x)
in-map f [] y is = absurd is
in-map f (x ∷ xs) y (inl e) = (x, inl refl, e)
in-map f (x ∷ xs) y (inr is) = let found = in-map f xs y is in (found.0, inr found.1, found.2)

pub in-append : {X : Type 0} (one two : List X) (x : X) → IsIn x (one ++ two) → IsIn x one ⊎ IsIn x two
in-append [] two x is = inr is
in-append (y ∷ one) two x (inl e) = inl (inl e)
in-append (y ∷ one) two x (inr is) = elim (in-append one two x is) [
  | inl first ↦ inl (inr first)
  | inr second ↦ inr second
]

-- ---- blocks of things, before and behind

module _ {X : Type 0} (first : X → List ℕ) (places : X → List (List ℕ)) (opens : (x : X) → is_place (first x) ≡ false) (are : (x : X) → ArePlaces (places x)) where
  abbrev pub block : X → Block
  block x = first x ∷ places x

  all-open : (xs : List X) → Opens (flat_map block xs)
  all-open [] = tt
  all-open (x ∷ xs) = opens x

  pub all-blocks : (xs : List X) → blocks_of_rows (flat_map block xs) ≡ map block xs
  all-blocks [] = refl
  all-blocks (x ∷ xs) = one-block (first x) (places x) (flat_map block xs) (are x) (all-open xs) ∙ ap (λ (blocks : List Block). block x ∷ blocks) (all-blocks xs)

-- whether a thing has other rows before and behind
abbrev pub has_changed : {X : Type 0} → (X → Block) → (X → Block) → X → Bool
has_changed before behind x = not (bytes_eq (text_of_rows (before x)) (text_of_rows (behind x)))

module _ {X : Type 0} (before behind : X → Block) (same : (x : X) → key_of (before x) ≡ key_of (behind x)) where
  abbrev differs : X → Bool
  differs x = has_changed before behind x

  abbrev is_of : X → Block → Bool
  is_of x other = bytes_eq (key_of other) (key_of (before x))

  -- no other thing of the list has its key
  abbrev pub IsAlone : X → List X → Type 0
  IsAlone x ys = (y : X) → IsIn y ys → key_of (behind y) ≡ key_of (before x) → x ≡ y

  abbrev changed : List X → List Block
  changed ys = map behind (filter differs ys)

  none-found : (x : X) → differs x ≡ false → (ys : List X) → IsAlone x ys → find (is_of x) (changed ys) ≡ None
  none-found x stays [] alone = refl
  none-found x stays (y ∷ ys) alone = go (differs y) (is_of x (behind y)) (none-found x stays ys (λ z is. alone z (inr is))) refl refl where
    go : (d b : Bool) → find (is_of x) (changed ys) ≡ None → differs y ≡ d → is_of x (behind y) ≡ b → find (is_of x) (map behind (cond d (y ∷ filter differs ys) (filter differs ys))) ≡ None
    go false b rest e f = rest
    go true false rest e f = rw f rest
    go true true rest e f =
        let is : x ≡ y = alone y (inl refl) ((bytes_eq-Decides (key_of (behind y)) (key_of (before x))).0 f) in
        let clash : true ≡ false = sym e ∙ ap differs (sym is) ∙ stays in absurd (cc)

  found : (x : X) → differs x ≡ true → (ys : List X) → IsIn x ys → IsAlone x ys → find (is_of x) (changed ys) ≡ Some (behind x)
  found x goes [] is alone = absurd is
  found x goes (y ∷ ys) is alone = go is (differs y) (is_of x (behind y)) (λ later. found x goes ys later (λ z is. alone z (inr is))) refl refl where
    key : bytes_eq (key_of (behind x)) (key_of (before x)) ≡ true
    key = (bytes_eq-Decides (key_of (behind x)) (key_of (before x))).1 (sym (same x))

    go : (x ≡ y) ⊎ IsIn x ys → (d b : Bool) → (IsIn x ys → find (is_of x) (changed ys) ≡ Some (behind x)) → differs y ≡ d → is_of x (behind y) ≡ b → find (is_of x) (map behind (cond d (y ∷ filter differs ys) (filter differs ys))) ≡ Some (behind x)
    go (inl is) false b later e f = let clash : true ≡ false = sym goes ∙ ap differs is ∙ e in absurd (cc)
    go (inr is) false b later e f = later is
    go (inl is) true false later e f = let clash : true ≡ false = sym key ∙ ap (λ z. is_of x (behind z)) is ∙ f in absurd (cc)
    go (inr is) true false later e f = rw f (later is)
    go is true true later e f = rw f (ap (λ z. Some (behind z)) (sym (alone y (inl refl) ((bytes_eq-Decides (key_of (behind y)) (key_of (before x))).0 f))))

  -- what takes the place of a block has the text of the later one
  pub one-newest : (x : X) (ys : List X) → IsIn x ys → IsAlone x ys → text_of_rows (newest (changed ys) (before x)) ≡ text_of_rows (behind x)
  one-newest x ys is alone = go (bytes_eq (text_of_rows (before x)) (text_of_rows (behind x))) refl where
    go : (b : Bool) → bytes_eq (text_of_rows (before x)) (text_of_rows (behind x)) ≡ b → text_of_rows (newest (changed ys) (before x)) ≡ text_of_rows (behind x)
    go true e =
        ap (λ (o : Option Block). text_of_rows (unwrap_or o (before x))) (none-found x (ap not e) ys alone)
        ∙ (bytes_eq-Decides (text_of_rows (before x)) (text_of_rows (behind x))).0 e
    go false e = ap (λ (o : Option Block). text_of_rows (unwrap_or o (before x))) (found x (ap not e) ys is alone)

  pub all-newest : (xs ys : List X) → ((x : X) → IsIn x xs → IsIn x ys × IsAlone x ys) → flat_map text_of_rows (map (newest (changed ys)) (map before xs)) ≡ flat_map (λ x. text_of_rows (behind x)) xs
  all-newest [] ys each = refl
  all-newest (x ∷ xs) ys each =
      let here = each x (inl refl) in
      ap₂ (λ (one more : List ℕ). one ++ more) (one-newest x ys here.0 here.1) (all-newest xs ys (λ z is. each z (inr is)))

-- the text of the blocks that differ
pub changed-text : {X : Type 0} (before behind : X → Block) (xs : List X)
    → flat_map (λ x. cond (bytes_eq (text_of_rows (before x)) (text_of_rows (behind x))) [] (text_of_rows (behind x))) xs ≡ text_of_rows (flat_map behind (filter (has_changed before behind) xs))
changed-text before behind [] = refl
changed-text before behind (x ∷ xs) = go (bytes_eq (text_of_rows (before x)) (text_of_rows (behind x))) (changed-text before behind xs) where
  go : (b : Bool) → flat_map (λ x. cond (bytes_eq (text_of_rows (before x)) (text_of_rows (behind x))) [] (text_of_rows (behind x))) xs ≡ text_of_rows (flat_map behind (filter (has_changed before behind) xs))
      → cond b [] (text_of_rows (behind x)) ++ flat_map (λ x. cond (bytes_eq (text_of_rows (before x)) (text_of_rows (behind x))) [] (text_of_rows (behind x))) xs
      ≡ text_of_rows (flat_map behind (cond (not b) (x ∷ filter (has_changed before behind) xs) (filter (has_changed before behind) xs)))
  go true rest = rest
  go false rest = ap (λ (more : List ℕ). text_of_rows (behind x) ++ more) rest ∙ sym (rows-append (behind x) (flat_map behind (filter (has_changed before behind) xs)))
