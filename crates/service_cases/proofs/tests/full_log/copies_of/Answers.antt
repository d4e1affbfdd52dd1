use Rattle.std.proofs.Common.{◌≡◌, refl, sym, subst}
use Rattle.std.specs.List.{All}
use Rattle.std.proofs.lemmas.List.Elements.{All-push}
use Rattle.bwe_specs.specs.declared.report.Report.{Report}
use Rattle.service_cases.proofs.tests.full_log.copies_of.Goals as goal

pub loop-preserved : goal.loop-preserved
loop-preserved c =
    let IsCopy : Report → Type 0 = λ copy. copy ≡ c.args.report in
    subst (All IsCopy) (sym c.in_ok-push.ensures.items) (All-push IsCopy c.loop.copies.items c.args.report c.loop.invariant refl)
