-- The number of a text is the one of the definition.
use Rattle.std.proofs.Common.{◌≡◌, ◌∙◌, ℕ, Bool, true, false, ◌&&◌, if◌then◌else◌, Some, None, refl, sym, ap, arith, true≢false, nat_le, nat_lt}
use Rattle.std.specs.Str.Parse.{digits_value}
use Rattle.std.proofs.lemmas.Bool.{le-leb, leb-true, lt-ltb, ltb-true}
use Rattle.text_scan.specs.Numbers.{is_number, number_of}
use Rattle.command_line.specs.Lines.{Text, number_in}

-- what 64 bits hold
below : (number : ℕ) → nat_lt number 18446744073709551616 ≡ (nat_le 0 number && nat_le number 18446744073709551615)
below number = rw (le-leb 0 number (omega arith)) (go (nat_lt number 18446744073709551616) refl (nat_le number 18446744073709551615) refl)
  where
    go : (lower : Bool) → nat_lt number 18446744073709551616 ≡ lower → (upper : Bool) → nat_le number 18446744073709551615 ≡ upper
        → nat_lt number 18446744073709551616 ≡ nat_le number 18446744073709551615
    go true l true u = l ∙ sym u
    go false l false u = l ∙ sym u
    go true l false u = absurd (true≢false (sym (le-leb number 18446744073709551615 (omega (arith, ltb-true number 18446744073709551616 l))) ∙ u))
    go false l true u = absurd (true≢false (sym (lt-ltb number 18446744073709551616 (omega (arith, leb-true number 18446744073709551615 u))) ∙ l))

pub the_number : (text : Text) → number_of text ≡ number_in 0 18446744073709551615 text
unfolding number_of
the_number text = ap (λ held. if is_number text && held then Some (digits_value 10 text) else None) (below (digits_value 10 text))
