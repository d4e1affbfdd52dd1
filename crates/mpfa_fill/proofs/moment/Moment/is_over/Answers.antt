use Rattle.std.proofs.Common.{◌∙◌, ap}
use Rattle.bwe_specs.specs.Filling.{Wan}
use Rattle.bwe_specs.specs.Paths.{is_over}
use Rattle.mpfa_fill.specs.Moment.{wan_in}
use Rattle.mpfa_fill.proofs.moment.Moment.is_over.Goals as goal

pub returns : goal.returns
returns g c =
    let wan : Wan = wan_in g.V.GroupValues.meaning c.args.self.now in
    c.is_over.ensures ∙ ap (λ x. is_over wan.groups wan.capacities x c.args.link) c.requires.moment.amounts
