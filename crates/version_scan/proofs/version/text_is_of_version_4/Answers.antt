use Rattle.std.proofs.Common.{◌≡◌, Bool, true, false, List, sym, ap, ◌∙◌}
use Rattle.std.specs.Prelude.{is_some, not}
use Rattle.json.specs.Lex.{tokens}
use Rattle.json.specs.Token.{Token}
use Rattle.json.specs.Json.{value}
use Rattle.serde_json.specs.Read.{of_json, converted}
use Rattle.version_scan.specs.Passing.{is_4_read}
use Rattle.version_scan.proofs.Tokens.{last_whole, none_whole}
use Rattle.version_scan.proofs.version.text_is_of_version_4.Goals as goal

flip : (b x : Bool) → x ≡ not b → b ≡ not x
flip true x e = sym (ap not e)
flip false x e = sym (ap not e)

pub returns-then-not-value_is_of_version_4 : goal.returns-then-not-value_is_of_version_4
returns-then-not-value_is_of_version_4 c =
    let same : c.in_ok-reader.reader ≡ tokens c.args.text.now = c.in_ok-reader.ensures.ok in
    sym (none_whole (value 127 (tokens c.args.text.now)) (ap (λ (ts : List Token). is_4_read (converted of_json (value 127 ts))) (sym same) ∙ c.value_is_of_version_4.ensures.no c.if-not-value_is_of_version_4.true))

pub returns : goal.returns
returns c =
    let same : c.in_ok-reader.reader ≡ tokens c.args.text.now = c.in_ok-reader.ensures.ok in
    let yes = c.value_is_of_version_4.ensures.yes c.if-not-value_is_of_version_4.false in
    flip c.is_none.result (is_some c.next.result) c.is_none.ensures ∙ last_whole (value 127 (tokens c.args.text.now)) yes.0 c.value_is_of_version_4.new.reader c.next.new.self c.next.result
    (ap (λ (ts : List Token). converted of_json (value 127 ts)) (sym same) ∙ yes.1) yes.2 c.next.ensures.value
