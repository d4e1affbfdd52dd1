use Rattle.std.proofs.Common.{◌+◌, ◌≤◌, arith, subst, add-one}
use Rattle.bwe_specs.specs.Filling.{Wan}
use Rattle.mpfa_fill.proofs.MomentLemmas.{never_falls, together}
use Rattle.link_front.specs.Front.{wan_in}
use Rattle.closing_walk.proofs.EndLoads.{value-small}
use Rattle.closing_walk.proofs.ends.rise_of.Goals as goal

pub returns-clause-rise : goal.returns-clause-rise
returns-clause-rise g c =
    let wan : Wan = wan_in g.V.GroupValues.meaning c.args.front.now in
    let growth = c.requires.front.growth in
    let small = value-small wan (never_falls _ _ _ growth.known) (together _ _ growth.known growth.count) c.args.group (c.args.share + 1) c.requires.group (omega (arith, c.requires.below)) in
    let rise : wan.value c.args.group (c.args.share + 1) ≤ wan.value c.args.group c.args.share + c.min.result =
    omega (arith, small, c.value-here.ensures, c.value-next.ensures, c.saturating_sub.ensures, c.min.ensures) in
    subst (λ share. wan.value c.args.group share ≤ wan.value c.args.group c.args.share + c.min.result) (add-one c.args.share) rise
