use Rattle.std.proofs.Common.{◌≡◌, ◌==◌, ℕ, ◌^◌, ◌<◌, List, get_or, drop, cond, false, Some, sym, ap, ◌∙◌}
use Rattle.std.specs.Str.Parse.{IsNumeral, digits_value, without_leading_plus}
use Rattle.serde_json.specs.Data.{unsigned}
use Rattle.serde_json.specs.Read.{number_of}
use Rattle.version_scan.proofs.Digits.{number_of-digits}
use Rattle.version_scan.proofs.numbers.whole_number.Goals as goal

read : (text s : List ℕ) (n : ℕ) → s ≡ text → (IsNumeral 10 s × (digits_value 10 s < 2 ^ 64)) × (n ≡ digits_value 10 s) → number_of text ≡ Some (unsigned n)
read text s n same given = ap number_of (sym same) ∙ number_of-digits s given.0.0 given.0.1 ∙ ap (λ n. Some (unsigned n)) (sym given.1)

pub returns-in-Ok : goal.returns-in-Ok
returns-in-Ok c =
    let bytes = c.as_bytes-bytes.result.now in
    let plain : (get_or bytes 0 0 == 43) ≡ false = sym c.if-has_plus.ensures in
    let same : without_leading_plus bytes ≡ bytes = ap (λ b. drop (cond b 1 0) bytes) plain in
    read c.args.digits.now (without_leading_plus bytes) c.in-Ok.number (same ∙ c.as_bytes-bytes.ensures.value) c.in-Ok.ensures
