-- The words after `estimate` or `levels`: `clap` takes them as the definition does, a text in each place.
use Rattle.std.proofs.Common.{◌≡◌, ◌⊎◌, ℕ, Bool, true, false, ◌&&◌, List, [], ◌∷◌, codes, Option, Some, None, inl, inr, refl, sym, ap, ap₂, ◌∙◌, true≢false}
use Rattle.std.specs.Prelude.{option_and_then}
use Rattle.std.specs.List.{list_any}
use Rattle.clap.specs.Faults.{defaults_fault, step_fault, turn_fault, walk_fault, word_fault}
use Rattle.clap.specs.Simple.{Shape, filled, with_index}
use Rattle.clap.specs.Walk.{Held, Row, Step, Text, Walk, after_step, arg_by_long, idle, used, value, walked, word_met}
use Rattle.text_scan.specs.Numbers.{is_number}
use Rattle.command_line.specs.Lines.{estimate_in, estimate_of, is_hyphens, levels_in, levels_of, number_in}
use Rattle.command_line.specs.Matches.{estimate_given, levels_given, place_rule}
use Rattle.command_line.specs.declared.CommandLine.{CommandLine}
use Rattle.command_line.proofs.Clear.{and_false, and_true, is_clear, or_else-clear}
use Rattle.command_line.proofs.Turns.{HasNoShort, at, hold, stray, text_met}
use Rattle.command_line.proofs.Bare.{estimate_shape, fault_from, levels_shape, one_word, refused_word, rows_from, start}
use Rattle.command_line.proofs.Texts.{first_plain, no_number, refused_is_no_number}

-- what is refused before a word goes to its place
abbrev pub before : Shape → List Row → Option (Text × List Text) → Text → Bool
before s rows pending word = is_clear (word_fault s [] false idle word (hold rows pending))

pub before-bad : (s : Shape) (rows : List Row) (pending : Option (Text × List Text)) (word : Text) → is_hyphens word ≡ false → before s rows pending word ≡ false → is_number word ≡ false
before-bad s rows pending word plain e = refused_is_no_number s idle word (hold rows pending) refl plain e

-- at a command without options
module _ (s : Shape) (no_short : HasNoShort s.rules) (no_long : (name : Text) → arg_by_long s.rules name ≡ None)
    (rows : List Row) (pending : Option (Text × List Text)) (position : ℕ) (word : Text) (plain : is_hyphens word ≡ false) where
  pub place_met : word_met s.rules [] false idle position word (hold rows pending) ≡ (hold rows pending, value)
  place_met = text_met s.rules no_short no_long [] position word rows pending plain refl

  turn_is : is_clear (step_fault s position (hold rows pending) value) ≡ true → is_clear (turn_fault s [] (at rows pending idle position) word) ≡ before s rows pending word
  turn_is clear = or_else-clear (word_fault s [] false idle word (hold rows pending)) _
      ∙ ap (λ b. before s rows pending word && b) (ap (λ (m : Held × Step). is_clear (step_fault s position m.0 m.1)) place_met ∙ clear) ∙ and_true (before s rows pending word)

  walked_is : walked s.rules [] (at rows pending idle position) word ≡ after_step s.rules word (at rows pending idle position) (hold rows pending) value
  unfolding walked
  walked_is = ap (λ (m : Held × Step). after_step s.rules word (at rows pending idle position) m.0 m.1) place_met

  module _ (next : Walk) (is : after_step s.rules word (at rows pending idle position) (hold rows pending) value ≡ next) (rest : List Text) where
    -- a word in its place
    pub over_word : is_clear (step_fault s position (hold rows pending) value) ≡ true
        → is_clear (fault_from s (at rows pending idle position) (word ∷ rest)) ≡ (before s rows pending word && is_clear (fault_from s next rest))
    over_word clear = one_word s (at rows pending idle position) word rest
        ∙ ap₂ (λ x (v : Walk). x && is_clear (fault_from s v rest)) (turn_is clear) (walked_is ∙ is)

    pub rows_over : rows_from s (at rows pending idle position) (word ∷ rest) ≡ rows_from s next rest
    rows_over = ap (λ (v : Walk). rows_from s v rest) (walked_is ∙ is)

  -- a word for a place that is not there
  pub no_place : Rattle.clap.specs.Walk.arg_by_index s.rules position ≡ None → (rest : List Text) → is_clear (fault_from s (at rows pending idle position) (word ∷ rest)) ≡ false
  no_place nowhere rest = refused_word s (at rows pending idle position) word rest (stray s [] rows pending position word place_met nowhere)

-- `clap` takes the words where the definition does, with the same line
abbrev pub Agrees : Bool → Option CommandLine → Option CommandLine → Type 0
Agrees clear met line = (clear ≡ true → line ≡ met) × (clear ≡ false → line ≡ None)

refused : (clear : Bool) (met line : Option CommandLine) → clear ≡ false → line ≡ None → Agrees clear met line
refused clear met line e none = (λ e'. absurd (true≢false (sym e' ∙ e)), λ _. none)

-- ---- `levels`

abbrev share_held : Text → Walk
share_held a = at [] (Some (codes "share", a ∷ [])) idle 2

no_share : is_clear (fault_from levels_shape start []) ≡ false
unfolding walk_fault defaults_fault
no_share = refl

module _ (a : Text) (plain : is_hyphens a ≡ false) where
  over_share : (rest : List Text) → is_clear (fault_from levels_shape start (a ∷ rest)) ≡ (before levels_shape [] None a && is_clear (fault_from levels_shape (share_held a) rest))
  over_share rest = over_word levels_shape (λ byte. refl) (λ name. refl) [] None 1 a plain (share_held a) refl rest refl

  share_ends : is_clear (fault_from levels_shape (share_held a) []) ≡ true
  unfolding walk_fault defaults_fault
  share_ends = refl

  share_given : levels_in a ≡ levels_given (rows_from levels_shape start (a ∷ []))
  share_given = ap levels_given (sym (rows_over levels_shape (λ byte. refl) (λ name. refl) [] None 1 a plain (share_held a) refl []))

pub levels_agrees : (words : List Text) → list_any is_hyphens words ≡ false
    → Agrees (is_clear (fault_from levels_shape start words)) (levels_given (rows_from levels_shape start words)) (levels_of words)
levels_agrees [] plain = refused _ _ _ no_share refl
levels_agrees (a ∷ []) plain =
    let pa = (first_plain a [] plain).0 in
    let clear = over_share a pa [] ∙ ap (λ x. before levels_shape [] None a && x) (share_ends a pa) ∙ and_true _ in
    ((λ _. share_given a pa), (λ e. rw (no_number 0 1000000000 a (before-bad levels_shape [] None a pa (sym clear ∙ e))) refl))
levels_agrees (a ∷ (b ∷ rest)) plain =
    let pa = first_plain a (b ∷ rest) plain in
    let pb = first_plain b rest pa.1 in
    refused _ _ _
    (over_share a pa.0 (b ∷ rest)
    ∙ ap (λ x. before levels_shape [] None a && x) (no_place levels_shape (λ byte. refl) (λ name. refl) [] (Some (codes "share", a ∷ [])) 2 b pb.0 refl rest)
    ∙ and_false _) refl

-- ---- `estimate`

abbrev window_held : Text → Walk
window_held a = at [] (Some (codes "window", a ∷ [])) idle 2

abbrev window_rows : Text → List Row
window_rows a = used (with_index 1 (filled (place_rule (codes "window")))) (a ∷ []) []

abbrev both_held : Text → Text → Walk
both_held a b = at (window_rows a) (Some (codes "headroom", b ∷ [])) idle 3

no_window : is_clear (fault_from estimate_shape start []) ≡ false
unfolding walk_fault defaults_fault
no_window = refl

module _ (a : Text) (plain : is_hyphens a ≡ false) where
  over_window : (rest : List Text) → is_clear (fault_from estimate_shape start (a ∷ rest)) ≡ (before estimate_shape [] None a && is_clear (fault_from estimate_shape (window_held a) rest))
  over_window rest = over_word estimate_shape (λ byte. refl) (λ name. refl) [] None 1 a plain (window_held a) refl rest refl

  no_headroom : is_clear (fault_from estimate_shape (window_held a) []) ≡ false
  unfolding walk_fault defaults_fault
  no_headroom = refl

  module _ (b : Text) (plain' : is_hyphens b ≡ false) where
    over_headroom : (rest : List Text) → is_clear (fault_from estimate_shape (window_held a) (b ∷ rest))
        ≡ (before estimate_shape [] (Some (codes "window", a ∷ [])) b && is_clear (fault_from estimate_shape (both_held a b) rest))
    over_headroom rest = over_word estimate_shape (λ byte. refl) (λ name. refl) [] (Some (codes "window", a ∷ [])) 2 b plain' (both_held a b) refl rest refl

    both_end : is_clear (fault_from estimate_shape (both_held a b) []) ≡ true
    unfolding walk_fault defaults_fault
    both_end = refl

    both_given : estimate_in a b ≡ estimate_given (rows_from estimate_shape start (a ∷ (b ∷ [])))
    both_given = ap estimate_given (sym
        (rows_over estimate_shape (λ byte. refl) (λ name. refl) [] None 1 a plain (window_held a) refl (b ∷ [])
        ∙ rows_over estimate_shape (λ byte. refl) (λ name. refl) [] (Some (codes "window", a ∷ [])) 2 b plain' (both_held a b) refl []))

no_first : (a b : Text) → is_number a ≡ false → estimate_in a b ≡ None
no_first a b e = rw (no_number 1 1000 a e) refl

no_second : (a b : Text) → is_number b ≡ false → estimate_in a b ≡ None
no_second a b e = go (number_in 1 1000 a)
  where
    go : (window : Option ℕ) → option_and_then (λ w. Rattle.std.specs.Prelude.option_map (λ h. Rattle.command_line.specs.declared.CommandLine.TheVariants.Estimate w h) (number_in 100 1000 b)) window ≡ None
    go None = refl
    go (Some w) = rw (no_number 100 1000 b e) refl

and_cases : (x y : Bool) → (x && y) ≡ false → (x ≡ false) ⊎ (y ≡ false)
and_cases false y e = inl refl
and_cases true y e = inr e

two_agree : (a b : Text) → is_hyphens a ≡ false → is_hyphens b ≡ false
    → Agrees (is_clear (fault_from estimate_shape start (a ∷ (b ∷ [])))) (estimate_given (rows_from estimate_shape start (a ∷ (b ∷ [])))) (estimate_in a b)
two_agree a b pa pb =
    let clear = over_window a pa (b ∷ []) ∙ ap (λ x. before estimate_shape [] None a && x)
    (over_headroom a pa b pb [] ∙ ap (λ x. before estimate_shape [] (Some (codes "window", a ∷ [])) b && x) (both_end a pa b pb) ∙ and_true _) in (
      (λ _. both_given a pa b pb),
      (λ e. elim (and_cases _ _ (sym clear ∙ e)) [
        | inl h ↦ no_first a b (before-bad estimate_shape [] None a pa h)
        | inr h ↦ no_second a b (before-bad estimate_shape [] (Some (codes "window", a ∷ [])) b pb h)
      ]),
    )

pub estimate_agrees : (words : List Text) → list_any is_hyphens words ≡ false
    → Agrees (is_clear (fault_from estimate_shape start words)) (estimate_given (rows_from estimate_shape start words)) (estimate_of words)
estimate_agrees [] plain = refused _ _ _ no_window refl
estimate_agrees (a ∷ []) plain =
    let pa = (first_plain a [] plain).0 in
    refused _ _ _ (over_window a pa [] ∙ ap (λ x. before estimate_shape [] None a && x) (no_headroom a pa) ∙ and_false _) refl
estimate_agrees (a ∷ (b ∷ [])) plain =
    let pa = first_plain a (b ∷ []) plain in
    two_agree a b pa.0 (first_plain b [] pa.1).0
estimate_agrees (a ∷ (b ∷ (d ∷ rest))) plain =
    let pa = first_plain a (b ∷ (d ∷ rest)) plain in
    let pb = first_plain b (d ∷ rest) pa.1 in
    let pd = first_plain d rest pb.1 in
    refused _ _ _
    (over_window a pa.0 (b ∷ (d ∷ rest)) ∙ ap (λ x. before estimate_shape [] None a && x)
    (over_headroom a pa.0 b pb.0 (d ∷ rest) ∙ ap (λ x. before estimate_shape [] (Some (codes "window", a ∷ [])) b && x)
    (no_place estimate_shape (λ byte. refl) (λ name. refl) (window_rows a) (Some (codes "headroom", b ∷ [])) 3 d pd.0 refl rest) ∙ and_false _) ∙ and_false _) refl
