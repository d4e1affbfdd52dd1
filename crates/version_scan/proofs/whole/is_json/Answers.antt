use Rattle.std.proofs.Common.{◌≡◌, ℕ, Bool, cond, List, None, Result, Ok, Err, sym, ap, ◌∙◌}
use Rattle.std.specs.Prelude.{IfOk, is_some}
use Rattle.std.specs.Str.{IsUtf8}
use Rattle.std.proofs.lemmas.Str.{is_utf8-from_IsUtf8}
use Rattle.serde_json.specs.Read.{read}
use Rattle.raw_document.specs.Json.{json}
use Rattle.raw_document.proofs.JsonReading.{json_refused}
use Rattle.version_scan.proofs.whole.is_json.Goals as goal

json_is : (bytes : List ℕ) → IsUtf8 bytes → json bytes ≡ read bytes
unfolding json
json_is bytes utf8 = ap (λ b. cond b (read bytes) None) (is_utf8-from_IsUtf8 bytes utf8)

of_text : {E : Type 0} (bytes text : List ℕ) (r : Result Bool E) → text ≡ bytes → IsUtf8 bytes → IfOk r (λ is. is ≡ is_some (read text)) → IfOk r (λ is. is ≡ is_some (json bytes))
of_text bytes text (Ok is) same utf8 e = e ∙ ap (λ (b : List ℕ). is_some (read b)) same ∙ ap is_some (sym (json_is bytes utf8))
of_text bytes text (Err error) same utf8 e = e

pub returns-in_default : goal.returns-in_default
returns-in_default c = ap is_some (sym (json_refused c.args.bytes.now (λ utf8. absurd (c.in_default.ensures.cases.0 utf8))))

pub returns : goal.returns
returns c = of_text c.args.bytes.now c.in-Ok.text.now c.text_is_json.result c.in-Ok.ensures.cases.0 c.in-Ok.ensures.cases.1 c.text_is_json.ensures
