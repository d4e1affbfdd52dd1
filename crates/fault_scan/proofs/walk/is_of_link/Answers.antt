use Rattle.std.proofs.Common.{◌≡◌, ◌==◌, false, refl, sym, ap, ◌∙◌, ne_eqb}
use Rattle.std.specs.Prelude.{◌&&◌, not}
use Rattle.serde_json.specs.Data.{object}
use Rattle.raw_document.specs.Forms.{is_of_link}
use Rattle.fault_scan.specs.Seen.{names_link}
use Rattle.fault_scan.proofs.walk.is_of_link.Goals as goal

pub returns-then-version-ne1 : goal.returns-then-version-ne1
unfolding is_of_link
returns-then-version-ne1 c = λ found holds.
    let later : (c.args.version == 1) ≡ false = ne_eqb c.args.version 1 c.if-version-ne1.true in
    c.names_link.ensures c.args.version found holds ∙ sym (ap (λ b. not b && names_link (object found)) later)

pub returns-else-version-ne1 : goal.returns-else-version-ne1
unfolding is_of_link
returns-else-version-ne1 c = λ found holds. rw c.if-version-ne1.false refl
