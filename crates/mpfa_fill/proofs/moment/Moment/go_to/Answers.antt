use Rattle.std.proofs.Common.{◌∙◌, sym, ap, ap₂, reverse, List}
use Rattle.bwe_specs.specs.declared.network.Closing.{Closing}
use Rattle.bwe_specs.specs.Filling.{Wan}
use Rattle.bwe_specs.specs.RightClosings.{amounts_at}
use Rattle.mpfa_fill.proofs.MomentLemmas.{right-all-along}
use Rattle.mpfa_fill.proofs.moment.Moment.go_to.Goals as goal

pub returns-clause-moment : goal.returns-clause-moment
returns-clause-moment g c =
    let gone = c.bring_all_up.ensures in
    let closings = ap reverse gone.parts.closings in
    record {
      growth = gone.growth;
      right = right-all-along _ _ _ _ gone.wan closings c.requires.moment.right;
      last = rw closings c.requires.last;
      within = rw gone.wan c.requires.within;
      amounts = gone.up ∙ ap₂ (λ (wan : Wan) (cs : List Closing). amounts_at wan cs c.args.share) (sym gone.wan) (sym closings);
    }

pub returns-clause-closings : goal.returns-clause-closings
returns-clause-closings g c = ap reverse c.bring_all_up.ensures.parts.closings
