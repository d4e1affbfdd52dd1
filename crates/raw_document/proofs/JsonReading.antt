-- The reading of JSON in UTF-8.
use Rattle.std.proofs.Common.{◌≡◌, ℕ, Bool, true, false, cond, List, Some, None, refl, ap, ◌∙◌}
use Rattle.std.specs.Str.{is_utf8, IsUtf8}
use Rattle.std.proofs.lemmas.Str.{IsUtf8-from_is_utf8, is_utf8-from_IsUtf8}
use Rattle.serde_json.specs.Data.{Data}
use Rattle.serde_json.specs.Read.{read}
use Rattle.raw_document.specs.Json.{json}

pub json_read : (bytes : List ℕ) (d : Data) → IsUtf8 bytes → read bytes ≡ Some d → json bytes ≡ Some d
unfolding json
json_read bytes d utf8 is = ap (λ b. cond b (read bytes) None) (is_utf8-from_IsUtf8 bytes utf8) ∙ is

pub json_refused : (bytes : List ℕ) → (IsUtf8 bytes → read bytes ≡ None) → json bytes ≡ None
unfolding json
json_refused bytes none = go (is_utf8 bytes) refl where
  go : (b : Bool) → is_utf8 bytes ≡ b → cond b (read bytes) None ≡ None
  go true e = none (IsUtf8-from_is_utf8 bytes e)
  go false e = refl
