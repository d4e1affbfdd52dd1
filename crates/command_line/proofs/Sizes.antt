-- The words after `make` or `bulk`: `clap` takes them as the definition does.
use Rattle.std.proofs.Common.{◌≡◌, ◌⊎◌, ℕ, Bool, true, false, ◌&&◌, List, [], ◌∷◌, codes, Option, Some, None, inl, inr, refl, sym, ap, ap₂, ◌∙◌, true≢false}
use Rattle.std.specs.List.{list_any}
use Rattle.clap.specs.Faults.{defaults_fault, step_fault, turn_fault, walk_fault, word_fault}
use Rattle.clap.specs.Simple.{Shape}
use Rattle.clap.specs.Walk.{Held, Row, Rule, Step, Text, Walk, after_step, idle, used, value, walked}
use Rattle.text_scan.specs.Numbers.{is_number}
use Rattle.command_line.specs.Lines.{is_hyphens, number_in, size_in, size_of}
use Rattle.command_line.specs.Matches.{place_rule, size_given}
use Rattle.clap.specs.Simple.{filled, with_index}
use Rattle.command_line.proofs.Clear.{and_false, and_true, is_clear, or_else-clear}
use Rattle.command_line.proofs.Turns.{at, hold, stray, text_met}
use Rattle.command_line.proofs.Bare.{fault_from, one_word, refused_word, rows_from, sized_shape, start}
use Rattle.command_line.proofs.Texts.{first_plain, no_number, none_after, refused_is_no_number}

-- a text that is no number has no size
no_seed : (seed groups tasks : Text) → is_number seed ≡ false → size_in seed groups tasks ≡ None
no_seed seed groups tasks e = rw (no_number 0 18446744073709551615 seed e) refl

no_groups : (seed groups tasks : Text) → is_number groups ≡ false → size_in seed groups tasks ≡ None
no_groups seed groups tasks e = none_after (number_in 0 18446744073709551615 seed) _ (λ s. rw (no_number 1 1024 groups e) refl)

no_tasks : (seed groups tasks : Text) → is_number tasks ≡ false → size_in seed groups tasks ≡ None
no_tasks seed groups tasks e = none_after (number_in 0 18446744073709551615 seed) _ (λ s. none_after (number_in 1 1024 groups) _ (λ g. rw (no_number g 20000 tasks e) refl))

-- `clap` takes the words where the definition does, with the same texts
abbrev pub Agrees : Bool → List Row → List Text → Type 0
Agrees clear rows words = (clear ≡ true → size_of words ≡ size_given rows) × (clear ≡ false → size_of words ≡ None)

module _ (name : Text) where
  s : Shape
  s = sized_shape name

  abbrev c : List Rule
  c = (sized_shape name).rules

  abbrev seed_rule : Rule
  seed_rule = with_index 1 (filled (place_rule (codes "seed")))

  abbrev groups_rule : Rule
  groups_rule = with_index 2 (filled (place_rule (codes "groups")))

  -- where a walk stands after each word
  abbrev first : Text → Walk
  first a = at [] (Some (codes "seed", a ∷ [])) idle 2

  abbrev second : Text → Text → Walk
  second a b = at (used seed_rule (a ∷ []) []) (Some (codes "groups", b ∷ [])) idle 3

  abbrev third : Text → Text → Text → Walk
  third a b d = at (used groups_rule (b ∷ []) (used seed_rule (a ∷ []) [])) (Some (codes "tasks", d ∷ [])) idle 4

  module _ (rows : List Row) (pending : Option (Text × List Text)) (position : ℕ) (word : Text) (plain : is_hyphens word ≡ false) where
    met : Rattle.clap.specs.Walk.word_met c [] false idle position word (hold rows pending) ≡ (hold rows pending, value)
    met = text_met c (λ byte. refl) (λ text. refl) [] position word rows pending plain refl

    -- what is refused before the word goes to its place
    abbrev before : Bool
    before = is_clear (word_fault (sized_shape name) [] false idle word (hold rows pending))

    turn_is : is_clear (step_fault (sized_shape name) position (hold rows pending) value) ≡ true → is_clear (turn_fault (sized_shape name) [] (at rows pending idle position) word) ≡ before
    turn_is clear = or_else-clear (word_fault (sized_shape name) [] false idle word (hold rows pending)) _
        ∙ ap (λ b. before && b) (ap (λ (m : Held × Step). is_clear (step_fault (sized_shape name) position m.0 m.1)) met ∙ clear) ∙ and_true before

    walked_is : walked c [] (at rows pending idle position) word ≡ after_step c word (at rows pending idle position) (hold rows pending) value
    unfolding walked
    walked_is = ap (λ (m : Held × Step). after_step c word (at rows pending idle position) m.0 m.1) met

    bad_if : before ≡ false → is_number word ≡ false
    bad_if e = refused_is_no_number (sized_shape name) idle word (hold rows pending) refl plain e

  -- a walk over one word more
  over : (w w' : Walk) (word : Text) (rest : List Text) (b : Bool) → is_clear (turn_fault (sized_shape name) [] w word) ≡ b → walked c [] w word ≡ w'
      → is_clear (fault_from (sized_shape name) w (word ∷ rest)) ≡ (b && is_clear (fault_from (sized_shape name) w' rest))
  over w w' word rest b clear is = one_word (sized_shape name) w word rest
      ∙ ap₂ (λ x (v : Walk). x && is_clear (fault_from (sized_shape name) v rest)) clear is

  module _ (a : Text) (plain : is_hyphens a ≡ false) where
    first_is : walked c [] start a ≡ first a
    first_is = walked_is [] None 1 a plain

    over_first : (rest : List Text) → is_clear (fault_from (sized_shape name) start (a ∷ rest)) ≡ (before [] None 1 a plain && is_clear (fault_from (sized_shape name) (first a) rest))
    over_first rest = over start (first a) a rest (before [] None 1 a plain) (turn_is [] None 1 a plain refl) first_is

    module _ (b : Text) (plain' : is_hyphens b ≡ false) where
      second_is : walked c [] (first a) b ≡ second a b
      second_is = walked_is [] (Some (codes "seed", a ∷ [])) 2 b plain'

      over_second : (rest : List Text) → is_clear (fault_from (sized_shape name) (first a) (b ∷ rest))
          ≡ (before [] (Some (codes "seed", a ∷ [])) 2 b plain' && is_clear (fault_from (sized_shape name) (second a b) rest))
      over_second rest = over (first a) (second a b) b rest (before [] (Some (codes "seed", a ∷ [])) 2 b plain') (turn_is [] (Some (codes "seed", a ∷ [])) 2 b plain' refl) second_is

      module _ (d : Text) (plain'' : is_hyphens d ≡ false) where
        rows'' : List Row
        rows'' = used seed_rule (a ∷ []) []

        third_is : walked c [] (second a b) d ≡ third a b d
        third_is = walked_is (used seed_rule (a ∷ []) []) (Some (codes "groups", b ∷ [])) 3 d plain''

        over_third : (rest : List Text) → is_clear (fault_from (sized_shape name) (second a b) (d ∷ rest))
            ≡ (before (used seed_rule (a ∷ []) []) (Some (codes "groups", b ∷ [])) 3 d plain'' && is_clear (fault_from (sized_shape name) (third a b d) rest))
        over_third rest = over (second a b) (third a b d) d rest (before (used seed_rule (a ∷ []) []) (Some (codes "groups", b ∷ [])) 3 d plain'')
            (turn_is (used seed_rule (a ∷ []) []) (Some (codes "groups", b ∷ [])) 3 d plain'' refl) third_is

        rows_are : rows_from (sized_shape name) start (a ∷ b ∷ d ∷ []) ≡ rows_from (sized_shape name) (third a b d) []
        rows_are =
            ap (λ (v : Walk). rows_from (sized_shape name) v (b ∷ d ∷ [])) first_is
            ∙ ap (λ (v : Walk). rows_from (sized_shape name) v (d ∷ [])) second_is
            ∙ ap (λ (v : Walk). rows_from (sized_shape name) v []) third_is

        no_fourth : (e : Text) (rest : List Text) → is_hyphens e ≡ false → is_clear (fault_from (sized_shape name) (third a b d) (e ∷ rest)) ≡ false
        no_fourth e rest plain = refused_word (sized_shape name) (third a b d) e rest
            (stray (sized_shape name) [] (used groups_rule (b ∷ []) (used seed_rule (a ∷ []) [])) (Some (codes "tasks", d ∷ [])) 4 e (met (used groups_rule (b ∷ []) (used seed_rule (a ∷ []) [])) (Some (codes "tasks", d ∷ [])) 4 e plain) refl)

        size_is : size_in a b d ≡ size_given (rows_from (sized_shape name) (third a b d) [])
        size_is = refl

        end_is : is_clear (fault_from (sized_shape name) (third a b d) []) ≡ true
        unfolding walk_fault defaults_fault
        end_is = refl

      second_missing : is_clear (fault_from (sized_shape name) (second a b) []) ≡ false
      unfolding walk_fault defaults_fault
      second_missing = refl

    first_missing : is_clear (fault_from (sized_shape name) (first a) []) ≡ false
    unfolding walk_fault defaults_fault
    first_missing = refl

  all_missing : is_clear (fault_from (sized_shape name) start []) ≡ false
  unfolding walk_fault defaults_fault
  all_missing = refl

  none_agrees : (words : List Text) → is_clear (fault_from (sized_shape name) start words) ≡ false → size_of words ≡ None
      → Agrees (is_clear (fault_from (sized_shape name) start words)) (rows_from (sized_shape name) start words) words
  none_agrees words e none = (λ e'. absurd (true≢false (sym e' ∙ e)), λ _. none)

  and_cases : (x y z : Bool) → (x && (y && z)) ≡ false → (x ≡ false) ⊎ ((y ≡ false) ⊎ (z ≡ false))
  and_cases false y z e = inl refl
  and_cases true false z e = inr (inl refl)
  and_cases true true z e = inr (inr e)

  three_agree : (a b d : Text) → is_hyphens a ≡ false → is_hyphens b ≡ false → is_hyphens d ≡ false
      → Agrees (is_clear (fault_from (sized_shape name) start (a ∷ b ∷ d ∷ []))) (rows_from (sized_shape name) start (a ∷ b ∷ d ∷ [])) (a ∷ b ∷ d ∷ [])
  three_agree a b d pa pb pd =
      let clear = over_first a pa (b ∷ d ∷ [])
      ∙ ap (λ x. before [] None 1 a pa && x) (over_second a pa b pb (d ∷ [])
      ∙ ap (λ x. before [] (Some (codes "seed", a ∷ [])) 2 b pb && x) (over_third a pa b pb d pd []
      ∙ ap (λ x. before (used seed_rule (a ∷ []) []) (Some (codes "groups", b ∷ [])) 3 d pd && x) (end_is a pa b pb d pd) ∙ and_true _)) in (
        (λ _. size_is a pa b pb d pd ∙ ap size_given (sym (rows_are a pa b pb d pd))),
        (λ e. elim (and_cases _ _ _ (sym clear ∙ e)) [
          | inl h ↦ no_seed a b d (bad_if [] None 1 a pa h)
          | inr (inl h) ↦ no_groups a b d (bad_if [] (Some (codes "seed", a ∷ [])) 2 b pb h)
          | inr (inr h) ↦ no_tasks a b d (bad_if (used seed_rule (a ∷ []) []) (Some (codes "groups", b ∷ [])) 3 d pd h)
        ]),
      )

  pub size_agrees : (words : List Text) → list_any is_hyphens words ≡ false
      → Agrees (is_clear (fault_from (sized_shape name) start words)) (rows_from (sized_shape name) start words) words
  size_agrees [] plain = none_agrees [] all_missing refl
  size_agrees (a ∷ []) plain = none_agrees (a ∷ []) (over_first a (first_plain a [] plain).0 [] ∙ ap (λ x. before [] None 1 a (first_plain a [] plain).0 && x) (first_missing a (first_plain a [] plain).0) ∙ and_false _) refl
  size_agrees (a ∷ (b ∷ [])) plain =
      let pa = first_plain a (b ∷ []) plain in
      let pb = first_plain b [] pa.1 in
      none_agrees (a ∷ b ∷ [])
      (over_first a pa.0 (b ∷ []) ∙ ap (λ x. before [] None 1 a pa.0 && x) (over_second a pa.0 b pb.0 [] ∙ ap (λ x. before [] (Some (codes "seed", a ∷ [])) 2 b pb.0 && x) (second_missing a pa.0 b pb.0) ∙ and_false _) ∙ and_false _) refl
  size_agrees (a ∷ (b ∷ (d ∷ []))) plain =
      let pa = first_plain a (b ∷ d ∷ []) plain in
      let pb = first_plain b (d ∷ []) pa.1 in
      let pd = first_plain d [] pb.1 in
      three_agree a b d pa.0 pb.0 pd.0
  size_agrees (a ∷ (b ∷ (d ∷ (e ∷ rest)))) plain =
      let pa = first_plain a (b ∷ d ∷ e ∷ rest) plain in
      let pb = first_plain b (d ∷ e ∷ rest) pa.1 in
      let pd = first_plain d (e ∷ rest) pb.1 in
      let pe = first_plain e rest pd.1 in
      none_agrees (a ∷ b ∷ d ∷ e ∷ rest)
      (over_first a pa.0 (b ∷ d ∷ e ∷ rest) ∙ ap (λ x. before [] None 1 a pa.0 && x)
      (over_second a pa.0 b pb.0 (d ∷ e ∷ rest) ∙ ap (λ x. before [] (Some (codes "seed", a ∷ [])) 2 b pb.0 && x)
      (over_third a pa.0 b pb.0 d pd.0 (e ∷ rest) ∙ ap (λ x. before (used seed_rule (a ∷ []) []) (Some (codes "groups", b ∷ [])) 3 d pd.0 && x) (no_fourth a pa.0 b pb.0 d pd.0 e rest pe.0) ∙ and_false _) ∙ and_false _) ∙ and_false _) refl
