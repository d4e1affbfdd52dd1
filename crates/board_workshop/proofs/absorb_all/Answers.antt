use Rattle.std.proofs.Common.{◌≡◌, ◌∷◌, [], ◌++◌, ◌∙◌, ap, sym, subst, arith, suc, length, List, length-append, append_assoc}
use Rattle.std.specs.List.{All}
use Rattle.bwe_specs.specs.declared.report.Report.{Report}
use Rattle.bwe_specs.specs.Fit.{IsFit}
use Rattle.board_workshop.proofs.Absorbing.{front_is, popped}
use Rattle.board_workshop.proofs.absorb_all.Goals as goal

pub loop-report-preserved : goal.loop-report-preserved
loop-report-preserved g c =
    let before = c.loop-report.invariant in
    let report : Report = c.in-Some.report in
    let items = c.loop-report.waiting.items in
    let rest = c.pop_front.new.self.items in
    let front = front_is c.front.result items report c.in-Some.ensures c.front.ensures.lookup in
    let is : items ≡ report ∷ rest = popped items rest c.pop_front.result report c.pop_front.ensures.items (c.pop_front.ensures.value report (c.front.ensures.variant.0 front.0)) front.1 in
    let P : Report → Type 0 = IsFit (g.M.Maker.plan_tasks (g.M.Maker.plan c.args.maker.now)) (g.M.Maker.plan_links (g.M.Maker.plan c.args.maker.now)) in
    let fit : All P (report ∷ rest) = subst (All P) is before.fit in
    let absorbs = c.in_ok-absorb.ensures.ok in
    let held = before.room in
    record {
      plan = c.in_ok-absorb.ensures.plan ∙ before.plan;
      fit = λ k d lt. fit (suc k) d (omega arith);
      room = (
        held.0 ++ report ∷ [],
        absorbs held.0 held.1,
        omega (arith, held.2, length-append held.0 (report ∷ []), ap length is),
      );
      absorbed = λ taken here.
          let so_far = before.absorbed taken here in (
            so_far.0 ++ report ∷ [],
            so_far.1 ∙ ap (λ (l : List Report). so_far.0 ++ l) is ∙ sym (append_assoc so_far.0 (report ∷ []) rest),
            subst (g.M.Maker.absorbed c.absorb.new.self) (append_assoc taken so_far.0 (report ∷ [])) (absorbs (taken ++ so_far.0) so_far.2),
          );
    }
