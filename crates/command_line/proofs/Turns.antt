-- One word, at a command where no short option is, and the word is no long one.
use Rattle.std.proofs.Common.{◌≡◌, ◌⊎◌, ℕ, Bool, true, false, zero, suc, ◌&&◌, List, [], ◌∷◌, length, Option, Some, None, inl, inr, refl, ap, ◌∙◌}
use Rattle.std.specs.Prelude.{slice_get, if◌then◌else◌}
use Rattle.std.specs.Str.{bytes_eq, chars}
use Rattle.clap.specs.Lexer.{long_of, short_of}
use Rattle.clap.specs.Faults.{step_fault, turn_fault, word_fault}
use Rattle.clap.specs.Simple.{Shape}
use Rattle.clap.specs.Walk.{Held, Names, Outcome, Row, Rule, Step, Text, Waiting, Walk, after_flag, arg_by_index, arg_by_long, arg_by_short, bundle_met, bundle_step, idle, plain, plain_word, refused, short_or_plain, subcommand_met, value, word_met}
use Rattle.command_line.proofs.Clear.{and_false, is_clear, or_else-clear}

-- where a walk stands, before any subcommand
abbrev pub at : List Row → Option (Text × List Text) → Waiting → ℕ → Walk
at rows pending waiting position = record {
  held = record { rows = rows; pending = pending; skip = 0 };
  waiting = waiting;
  position = position;
  is_trailing = false;
  stopped = None;
}

abbrev pub hold : List Row → Option (Text × List Text) → Held
hold rows pending = record { rows = rows; pending = pending; skip = 0 }

-- no rule has a short option
abbrev pub HasNoShort : List Rule → Type 0
HasNoShort c = (byte : ℕ) → arg_by_short c byte ≡ None

module _ (c : List Rule) (no_short : HasNoShort c) where
  -- a bundle does nothing
  bundle_stays : (n : ℕ) (flags : Text) (h : Held) → (bundle_met c n flags 0 plain h ≡ (h, plain)) ⊎ (bundle_met c n flags 0 plain h ≡ (h, refused))
  unfolding bundle_met
  bundle_stays zero flags h = inl refl
  bundle_stays (suc n) flags h = go (slice_get (chars flags) 0)
    where
      go : (first : Option ℕ) → (bundle_step c first flags 0 plain h (bundle_met c n) ≡ (h, plain)) ⊎ (bundle_step c first flags 0 plain h (bundle_met c n) ≡ (h, refused))
      go None = inl refl
      go (Some byte) = inr (rw (no_short byte) refl)

  short_is_plain : (waiting : Waiting) (word : Text) (rows : List Row) (pending : Option (Text × List Text)) (short : Option Text)
      → short_or_plain c waiting word short (hold rows pending) ≡ plain_word c waiting word (hold rows pending)
  short_is_plain waiting word rows pending None = refl
  short_is_plain waiting word rows pending (Some flags) = elim (bundle_stays (length flags) flags (hold rows pending)) [
    | inl e ↦ ap (λ (met : Held × Outcome). after_flag c waiting word met.0 met.1) e
    | inr e ↦ ap (λ (met : Held × Outcome). after_flag c waiting word met.0 met.1) e
  ]

  -- the word is a text, whatever short options it looks like
  pub word_is_plain : (names : Names) (waiting : Waiting) (position : ℕ) (word : Text) (rows : List Row) (pending : Option (Text × List Text))
      → bytes_eq word (45 ∷ 45 ∷ []) ≡ false → long_of word ≡ None → subcommand_met names waiting word ≡ None
      → word_met c names false waiting position word (hold rows pending) ≡ plain_word c waiting word (hold rows pending)
  word_is_plain names waiting position word rows pending not_hyphens not_long not_name =
      rw (not_name, not_hyphens, not_long) (short_is_plain waiting word rows pending (short_of word))

  -- the same of a long option that is not there
  pub unknown_is_plain : (names : Names) (position : ℕ) (word : Text) (rows : List Row) (pending : Option (Text × List Text)) (name : Text) (text : Option Text)
      → bytes_eq word (45 ∷ 45 ∷ []) ≡ false → long_of word ≡ Some (name, text) → subcommand_met names idle word ≡ None → arg_by_long c name ≡ None
      → word_met c names false idle position word (hold rows pending) ≡ (hold rows pending, value)
  unknown_is_plain names position word rows pending name text not_hyphens long not_name unknown =
      rw (not_name, not_hyphens, long, unknown) refl

  -- so where no rule has a long option either, each word is a text
  pub text_met : ((name : Text) → arg_by_long c name ≡ None) → (names : Names) (position : ℕ) (word : Text) (rows : List Row) (pending : Option (Text × List Text))
      → bytes_eq word (45 ∷ 45 ∷ []) ≡ false → subcommand_met names idle word ≡ None
      → word_met c names false idle position word (hold rows pending) ≡ (hold rows pending, value)
  text_met no_long names position word rows pending not_hyphens not_name = go (long_of word) refl
    where
      go : (long : Option (Text × Option Text)) → long_of word ≡ long → word_met c names false idle position word (hold rows pending) ≡ (hold rows pending, value)
      go None e = word_is_plain names idle position word rows pending not_hyphens e not_name
      go (Some (name, text)) e = unknown_is_plain names position word rows pending name text not_hyphens e not_name (no_long name)

-- a word for a place that is not there is refused
pub stray : (s : Shape) (names : Names) (rows : List Row) (pending : Option (Text × List Text)) (position : ℕ) (word : Text)
    → word_met s.rules names false idle position word (hold rows pending) ≡ (hold rows pending, value) → arg_by_index s.rules position ≡ None
    → is_clear (turn_fault s names (at rows pending idle position) word) ≡ false
stray s names rows pending position word met nowhere =
    or_else-clear (word_fault s names false idle word (hold rows pending)) _
    ∙ ap (λ b. is_clear (word_fault s names false idle word (hold rows pending)) && b)
    (ap (λ (m : Held × Step). is_clear (step_fault s position m.0 m.1)) met ∙ rw nowhere (go s.is_leaf))
    ∙ and_false _
  where
    go : (leaf : Bool) → is_clear (if leaf then Rattle.clap.specs.declared.error.kind.ErrorKind.TheVariants.UnknownArgument ∷ [] else Rattle.clap.specs.declared.error.kind.ErrorKind.TheVariants.UnknownArgument ∷ Rattle.clap.specs.declared.error.kind.ErrorKind.TheVariants.InvalidSubcommand ∷ []) ≡ false
    go true = refl
    go false = refl
