-- What a script makes of a tree and a network, report by report.
use Rattle.std.proofs.Common.{◌≡◌, ℕ, List, [], ◌∷◌, ◌++◌, length, replicate, refl, sym, ◌∙◌, subst}
use Rattle.std.proofs.lemmas.List.{length-set}
use Rattle.bwe_specs.specs.declared.report.Report.{Report}
use Rattle.bwe_specs.specs.declared.report.Target.{Target}
use Rattle.bwe_specs.specs.declared.report.Target.TheVariants.{Task, Link}
use Rattle.bwe_specs.specs.Fit.{IsInRange}
use Rattle.policy_tree.specs.Trees.{Tree}
use Rattle.wan_topology.specs.Network.{Network}
use Rattle.plain_table.specs.Reported.{Reported, reported_in, told, with_report}
use Rattle.plain_table.specs.Scripts.{IsAfterScript}
use Rattle.plain_table.proofs.After.{IsAfter-report}
use Rattle.plain_table.proofs.Fitted.{after-idle, fitted-report, plan-report}

pub script-start : (tree : Tree) (network : Network) → tree.demands ≡ replicate (length tree.demands) 0
    → IsAfterScript (reported_in tree network 0) (reported_in tree network 0) []
script-start tree network idle = record {
  after = after-idle tree network idle;
  tasks = refl;
  links = refl;
  plan = λ groups. refl;
  fitted = λ groups fitted. fitted;
}

tasks-told : (reported : Reported) (target : Target) (amount : ℕ) → length (told reported target amount).tree.demands ≡ length reported.tree.demands
tasks-told reported (Task number) amount = length-set reported.tree.demands number amount
tasks-told reported (Link number) amount = refl

links-told : (reported : Reported) (target : Target) (amount : ℕ) → length (told reported target amount).network.capacities ≡ length reported.network.capacities
links-told reported (Task number) amount = refl
links-told reported (Link number) amount = length-set reported.network.capacities number amount

-- one report more
pub script-more : (first now later : Reported) (script : List Report) (report : Report)
    → IsInRange (length first.tree.demands) (length first.network.capacities) report.target
    → later ≡ with_report now report → IsAfterScript first now script → IsAfterScript first later (script ++ report ∷ [])
script-more first now later script report inside is so =
    subst (λ later. IsAfterScript first later (script ++ report ∷ [])) (sym is)
    (record {
      after = IsAfter-report now script report (rw (so.tasks, so.links) inside) so.after;
      tasks = tasks-told now report.target report.amount ∙ so.tasks;
      links = links-told now report.target report.amount ∙ so.links;
      plan = λ groups. plan-report now groups report ∙ so.plan groups;
      fitted = λ groups fitted. fitted-report now groups report (so.fitted groups fitted);
    })
