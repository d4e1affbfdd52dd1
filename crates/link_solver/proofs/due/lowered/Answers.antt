use Rattle.std.proofs.Common.{ℕ, ◌+◌, ◌-◌, arith}
use Rattle.bwe_specs.specs.Filling.{Wan}
use Rattle.bwe_specs.specs.Paths.{path_group_at}
use Rattle.bwe_specs.proofs.Loads.{load_on-mono}
use Rattle.mpfa_fill.specs.Growth.{wan_in, added_in}
use Rattle.link_solver.proofs.due.lowered.Goals as goal

pub returns-in-Some : goal.returns-in-Some
returns-in-Some g c =
    let wan : Wan = wan_in g.V.GroupValues.meaning c.args.growth.now in
    let had : ℕ = added_in c.args.growth.now c.args.group c.args.place in
    omega (arith, c.load_now-now.ensures, c.in-Some.ensures, load_on-mono (path_group_at wan.groups c.args.group c.args.place) c.args.link had (had + (wan.value c.args.group c.args.due.share - c.args.value)) (omega arith))

pub returns-in-None : goal.returns-in-None
returns-in-None g c =
    let wan : Wan = wan_in g.V.GroupValues.meaning c.args.growth.now in
    let had : ℕ = added_in c.args.growth.now c.args.group c.args.place in
    omega (arith, c.load_now-now.ensures, load_on-mono (path_group_at wan.groups c.args.group c.args.place) c.args.link had (had + (wan.value c.args.group c.args.due.share - c.args.value)) (omega arith))
