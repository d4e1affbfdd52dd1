use Rattle.std.proofs.Common.{◌∙◌, ap}
use Rattle.policy_tree.specs.Trees.{Tree}
use Rattle.wan_topology.specs.Network.{Network}
use Rattle.audit_answer.proofs.KnownTables.{known-now}
use Rattle.audit_answer.proofs.known.known_of.Goals as goal

pub returns-clause-known : goal.returns-clause-known
returns-clause-known c =
    let allocating = c.args.allocator.now in
    let after = c.requires.after in
    known-now allocating.reported allocating.groups after.0 after.1 c.in_ok-demands.demands.items c.in_ok-capacities.capacities.items
    (c.in_ok-demands.ensures ∙ ap (λ (tree : Tree). tree.demands) c.values.ensures)
    (c.in_ok-capacities.ensures.same ∙ ap (λ (network : Network). network.capacities) c.topology.ensures)
    c.in_ok-table.table (c.in_ok-table.ensures.table after.0 after.1)
