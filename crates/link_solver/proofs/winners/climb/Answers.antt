use Rattle.std.proofs.Common.{◌≡◌, ◌+◌, ◌/◌, arith, sym, subst}
use Rattle.link_solver.specs.Tournament.{IsClimbed}
use Rattle.link_solver.proofs.Tournaments.{HasSteps, climbed-next, climbed-all, steps-next}
use Rattle.link_solver.proofs.winners.climb.Goals as goal

pub loop-node-preserved : goal.loop-node-preserved
loop-node-preserved g c =
    let i = c.loop-node.invariant in
    record {
      climbed = climbed-next c.args.dues.now c.loop-node.best c.loop-node.node c.play.result i.climbed c.loop-node-test.true i.inner c.play.ensures.in_range c.play.ensures.winner;
      inner = omega (arith, i.inner);
      ticks = λ levels le.
          subst (λ steps. HasSteps steps (c.loop-node.node / 2) (c.args.steps.now + levels)) (sym c.tick.ensures)
          (steps-next c.loop-node.steps c.loop-node.node (c.args.steps.now + levels) (i.ticks levels le) c.loop-node-test.true);
    }

pub returns-clause-tournament : goal.returns-clause-tournament
returns-clause-tournament g c =
    let root : c.loop-node.node ≡ 0 = omega arith in
    climbed-all c.args.dues.now c.loop-node.best (subst (IsClimbed c.args.dues.now c.loop-node.best) root c.loop-node.invariant.climbed)
