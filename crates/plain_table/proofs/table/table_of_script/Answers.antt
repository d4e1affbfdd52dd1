use Rattle.std.proofs.Common.{◌∙◌, length, ap}
use Rattle.std.proofs.lemmas.Result.{IfOk-weaker}
use Rattle.bwe_specs.specs.Allocation.{allocation}
use Rattle.policy_tree.specs.Trees.{Tree}
use Rattle.plain_table.specs.Reported.{Reported, reported_with}
use Rattle.plain_table.proofs.Fitted.{fitted-in, table-after}
use Rattle.plain_table.proofs.table.table_of_script.Goals as goal

pub table_now-requires-clause-built_on : goal.table_now-requires-clause-built_on
table_now-requires-clause-built_on c =
    let groups = c.args.plan.now in
    let first = fitted-in c.args.tree.now c.args.topology.now 0 groups c.what_holds.ensures.tree c.what_holds-2.ensures c.requires.built_on c.requires.groups in
    (c.in_ok-take_in_all.ensures.fitted groups first).built_on

pub table_now-requires-clause-clusters : goal.table_now-requires-clause-clusters
table_now-requires-clause-clusters c =
    let groups = c.args.plan.now in
    let first = fitted-in c.args.tree.now c.args.topology.now 0 groups c.what_holds.ensures.tree c.what_holds-2.ensures c.requires.built_on c.requires.groups in
    ap (λ (tree : Tree). length tree.clusters) c.rematch.ensures ∙ (c.in_ok-take_in_all.ensures.fitted groups first).clusters

pub returns : goal.returns
returns c =
    let groups = c.args.plan.now in
    let script = c.args.script.now in
    let later : Reported = reported_with c.take_in_all.new.tree c.take_in_all.new.topology c.args.topology.now.capacities (length script) in
    let after = c.in_ok-take_in_all.ensures in
    IfOk-weaker c.table_now.result _ _
    (λ made table. table ∙ table-after later groups script after.after ∙ ap (λ plan. allocation plan script) (after.plan groups))
    (rw (c.rematch.ensures) at c.table_now.ensures)
