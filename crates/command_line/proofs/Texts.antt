-- Words that are no number, and how `clap` and the definition cut a word.
use Rattle.std.proofs.Common.{◌≡◌, ◌⊎◌, ℕ, Bool, true, false, ◌||◌, ◌==◌, List, [], ◌∷◌, Option, Some, None, inl, inr, refl, sym, ap, ◌∙◌, true≢false}
use Rattle.std.specs.Prelude.{option_map, option_and_then}
use Rattle.std.specs.List.{list_any}
use Rattle.std.proofs.lemmas.Bool.{eqb-true}
use Rattle.clap.specs.Lexer.{long_of, short_of}
use Rattle.clap.specs.Simple.{Shape}
use Rattle.clap.specs.Walk.{Held, Text, Waiting, subcommand_met}
use Rattle.clap.specs.Faults.{word_fault}
use Rattle.text_scan.specs.Numbers.{is_number}
use Rattle.command_line.specs.Lines.{Name, is_hyphens, name_of, number_in, option_of}
use Rattle.command_line.proofs.Clear.{is_clear}

-- where no word is `--`, neither the first is nor one of the others
pub first_plain : (word : Text) (rest : List Text) → list_any is_hyphens (word ∷ rest) ≡ false → (is_hyphens word ≡ false) × (list_any is_hyphens rest ≡ false)
first_plain word rest e = go (is_hyphens word) refl
  where
    go : (b : Bool) → is_hyphens word ≡ b → (is_hyphens word ≡ false) × (list_any is_hyphens rest ≡ false)
    go true h = absurd (true≢false (ap (λ b. b || list_any is_hyphens rest) (sym h) ∙ e))
    go false h = (h, ap (λ b. b || list_any is_hyphens rest) (sym h) ∙ e)

-- nothing comes of what none follows
pub none_after : {A B : Type 0} (o : Option A) (f : A → Option B) → ((a : A) → f a ≡ None) → option_and_then f o ≡ None
none_after None f e = refl
none_after (Some a) f e = e a

hyphen_is_no_digit : (byte : ℕ) (rest : Text) → (byte == 45) ≡ true → is_number (byte ∷ rest) ≡ false
hyphen_is_no_digit byte rest e = rw (eqb-true byte 45 e) refl

-- a word begins with a hyphen, and is no number; or it is no option at all
pub number_or_plain : (word : Text) → (is_number word ≡ false) ⊎ ((long_of word ≡ None) × (short_of word ≡ None))
number_or_plain [] = inr (refl, refl)
number_or_plain (byte ∷ rest) = go (byte == 45) refl
  where
    go : (hyphen : Bool) → (byte == 45) ≡ hyphen → (is_number (byte ∷ rest) ≡ false) ⊎ ((long_of (byte ∷ rest) ≡ None) × (short_of (byte ∷ rest) ≡ None))
    go true e = inl (hyphen_is_no_digit byte rest e)
    go false e = inr (rw e refl, rw e refl)

-- a word that is no option does nothing before it is taken as a text
pub plain_clear : (s : Shape) (waiting : Waiting) (word : Text) (h : Held) → subcommand_met [] waiting word ≡ None → is_hyphens word ≡ false → long_of word ≡ None → short_of word ≡ None
    → is_clear (word_fault s [] false waiting word h) ≡ true
plain_clear s waiting word h no_name plain long short = rw (no_name, plain, long, short) refl

-- what is refused before it is taken as a text is no number
pub refused_is_no_number : (s : Shape) (waiting : Waiting) (word : Text) (h : Held) → subcommand_met [] waiting word ≡ None → is_hyphens word ≡ false
    → is_clear (word_fault s [] false waiting word h) ≡ false → is_number word ≡ false
refused_is_no_number s waiting word h no_name plain refused = elim (number_or_plain word) [
  | inl e ↦ e
  | inr e ↦ absurd (true≢false (sym (plain_clear s waiting word h no_name plain e.0 e.1) ∙ refused))
]

pub long_is_no_number : (word : Text) (long : Text × Option Text) → long_of word ≡ Some long → is_number word ≡ false
long_is_no_number word long e = elim (number_or_plain word) [
  | inl h ↦ h
  | inr h ↦ absurd (true≢false (ap Rattle.std.specs.Option.is_some (sym e ∙ h.0)))
]

pub no_number : (least most : ℕ) (word : Text) → is_number word ≡ false → number_in least most word ≡ None
no_number least most word e = rw e refl

abbrev pub named : Text × Option Text → Option (Name × Option Text)
named p = option_map (λ name. (name, p.1)) (name_of p.0)

-- the definition's option is that of `clap`'s long option
pub option_is : (word : Text) → option_of word ≡ option_and_then named (long_of word)
option_is [] = refl
option_is (byte ∷ []) = go (byte == 45) refl
  where
    go : (hyphen : Bool) → (byte == 45) ≡ hyphen → option_of (byte ∷ []) ≡ option_and_then named (long_of (byte ∷ []))
    go true e = rw e refl
    go false e = rw e refl
option_is (byte ∷ (next ∷ more)) = go (byte == 45) refl (next == 45) refl more
  where
    go : (hyphen : Bool) → (byte == 45) ≡ hyphen → (hyphen' : Bool) → (next == 45) ≡ hyphen' → (rest : Text)
        → option_of (byte ∷ (next ∷ rest)) ≡ option_and_then named (long_of (byte ∷ (next ∷ rest)))
    go false e hyphen' e' rest = rw e refl
    go true e false e' rest = rw (e, e') refl
    go true e true e' [] = rw (e, e') refl
    go true e true e' (z ∷ zs) = rw (e, e') refl
