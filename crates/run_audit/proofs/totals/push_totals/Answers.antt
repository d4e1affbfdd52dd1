use Rattle.std.proofs.Common.{◌+◌, ◌∷◌, [], ℕ, ap, length, length-append, subst, sym, take, arith, ◌∙◌}
use Rattle.std.proofs.lemmas.Grind.{common_steps}
use Rattle.run_audit.specs.Checks.{AreTotals}
use Rattle.run_audit.proofs.AskedTotals.{total_more}
use Rattle.run_audit.proofs.totals.push_totals.Goals as goal

pub loop-place-preserved : goal.loop-place-preserved
loop-place-preserved g c =
    let history = c.args.history.now in
    let place = c.loop-place.place in
    let total = c.in_ok-total_if.field-0 in
    let total_at : ℕ → ℕ = λ prefix. g.M.Table.Posted.total_of (g.M.Maker.table_of (g.M.Maker.plan c.args.maker.now) (take prefix history)) in
    record {
      absorbed = grind (arith, common_steps);
      plan = c.in_ok-absorb.ensures.plan ∙ c.in_ok-total_if.ensures.plan ∙ c.loop-place.invariant.plan;
      len = omega (arith, ap length c.in_ok-push.ensures.items, length-append c.loop-place.totals.items (total ∷ []), c.loop-place.invariant.len);
      totals = subst (AreTotals c.args.asked.now (place + 1) total_at) (sym c.in_ok-push.ensures.items)
          (total_more c.args.asked.now place total_at c.loop-place.totals.items total c.loop-place.invariant.len
          (λ asked. c.in_ok-total_if.ensures.total (take place history) c.loop-place.invariant.absorbed asked
          ∙ ap (λ plan. g.M.Table.Posted.total_of (g.M.Maker.table_of plan (take place history))) c.loop-place.invariant.plan)
          c.loop-place.invariant.totals);
    }
