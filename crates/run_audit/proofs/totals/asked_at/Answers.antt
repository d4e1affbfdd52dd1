use Rattle.std.proofs.Common.{◌<◌, get_or, length, arith, true, ◌∙◌, length-set}
use Rattle.std.proofs.lemmas.List.{get_or_default}
use Rattle.run_audit.specs.declared.walk.Check.{Check}
use Rattle.run_audit.proofs.AskedTotals.{asked_more}
use Rattle.run_audit.proofs.totals.asked_at.Goals as goal

pub loop-check-preserved : goal.loop-check-preserved
loop-check-preserved c =
    let none : Check = record { line = 0; prefix = 0; total = 0 } in
    let place = c.loop-check.check-index in
    let check : Check = get_or c.args.checks.now place none in
    let within : place < length c.args.checks.now = c.loop-check-test.true in
    let small : check.prefix < c.args.prefixes = c.requires place none within in
    record {
      len = length-set c.loop-check.asked.items check.prefix true ∙ c.loop-check.invariant.len;
      asked = asked_more c.loop-check.asked.items c.args.checks.now place check within (get_or_default c.args.checks.now place none check within) (omega (arith, small, c.loop-check.invariant.len))
          c.loop-check.invariant.asked;
    }
