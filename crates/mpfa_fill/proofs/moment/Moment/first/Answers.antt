use Rattle.std.proofs.Common.{refl, sym, ◌∙◌, ap, arith, List, []}
use mathlib.Core.Path.{fun_ext}
use Rattle.bwe_specs.specs.declared.network.Closing.{Closing}
use Rattle.bwe_specs.specs.Filling.{Wan}
use Rattle.bwe_specs.specs.RightClosings.{last_share, amounts_at}
use Rattle.bwe_specs.proofs.Growth.{amounts_at-start}
use Rattle.mpfa_fill.specs.Growth.{wan_in}
use Rattle.mpfa_fill.proofs.MomentLemmas.{right-all-along}
use Rattle.mpfa_fill.proofs.moment.Moment.first.Goals as goal

pub returns-clause-moment : goal.returns-clause-moment
returns-clause-moment g c =
    let made = c.in_ok-growth.ensures in
    let wan : Wan = wan_in g.V.GroupValues.meaning c.in_ok-growth.growth in
    record {
      growth = made.growth;
      right = right-all-along wan wan _ [] refl made.closings tt;
      last = omega (arith, ap last_share made.closings);
      within = omega arith;
      amounts = fun_ext (λ group. fun_ext (λ place. made.none group place)) ∙ sym (amounts_at-start wan)
          ∙ ap (λ (closings : List Closing). amounts_at wan closings 0) (sym made.closings);
    }
