use Rattle.std.proofs.Common.{arith, length, subst}
use Rattle.bwe_specs.specs.Values.{AreValues}
use Rattle.policy_tree.specs.Trees.{Tree, IsTree, value_in}
use Rattle.plain_table.specs.Tables.{table_by, wan_by}
use Rattle.allocator.specs.Laws.{IsNoMoreThanAsked, IsConserved, IsShared, IsFeasible, IsHeldBack, IsTold, IsUnwasted, IsFair, IsTheSameInAnyOrder}
use Rattle.allocator.proofs.Lawful.{table-asked, table-conserved, table-feasible, table-held_back, table-shared, table-unwasted, table-fair, ok-where}
use Rattle.allocator.proofs.Told.{table-told, table-in_any_order}
use Rattle.allocator.proofs.table.make_table.Goals as goal

pub returns-clause-feasible : goal.returns-clause-feasible
returns-clause-feasible c =
    ok-where c.table_of_filling.result (IsFeasible c.args.reported.now.network.capacities) (table_by c.args.reported.now c.args.plan.now)
    (table-feasible c.args.reported.now c.args.plan.now c.requires (subst (λ (tree : Tree). AreValues (length tree.clusters) tree.top (value_in tree)) c.tree-tree.ensures.same c.tree-tree.ensures.values)) c.table_of_filling.ensures

pub returns-clause-held_back : goal.returns-clause-held_back
returns-clause-held_back c =
    ok-where c.table_of_filling.result (IsHeldBack (wan_by c.args.reported.now c.args.plan.now)) (table_by c.args.reported.now c.args.plan.now)
    (table-held_back c.args.reported.now c.args.plan.now c.requires (subst (λ (tree : Tree). AreValues (length tree.clusters) tree.top (value_in tree)) c.tree-tree.ensures.same c.tree-tree.ensures.values)) c.table_of_filling.ensures

pub returns-clause-conserved : goal.returns-clause-conserved
returns-clause-conserved c =
    ok-where c.table_of_filling.result (IsConserved c.args.reported.now.tree) (table_by c.args.reported.now c.args.plan.now)
    (table-conserved c.args.reported.now c.args.plan.now c.requires (subst (λ (tree : Tree). AreValues (length tree.clusters) tree.top (value_in tree)) c.tree-tree.ensures.same c.tree-tree.ensures.values) (subst IsTree c.tree-tree.ensures.same c.tree-tree.ensures.tree)) c.table_of_filling.ensures

pub returns-clause-asked : goal.returns-clause-asked
returns-clause-asked c =
    ok-where c.table_of_filling.result (IsNoMoreThanAsked c.args.reported.now.tree) (table_by c.args.reported.now c.args.plan.now)
    (table-asked c.args.reported.now c.args.plan.now c.requires (subst (λ (tree : Tree). AreValues (length tree.clusters) tree.top (value_in tree)) c.tree-tree.ensures.same c.tree-tree.ensures.values) (subst IsTree c.tree-tree.ensures.same c.tree-tree.ensures.tree)) c.table_of_filling.ensures

pub returns-clause-shared : goal.returns-clause-shared
returns-clause-shared c =
    ok-where c.table_of_filling.result (IsShared (wan_by c.args.reported.now c.args.plan.now)) (table_by c.args.reported.now c.args.plan.now)
    (table-shared c.args.reported.now c.args.plan.now c.requires (subst (λ (tree : Tree). AreValues (length tree.clusters) tree.top (value_in tree)) c.tree-tree.ensures.same c.tree-tree.ensures.values)) c.table_of_filling.ensures

pub returns-clause-unwasted : goal.returns-clause-unwasted
returns-clause-unwasted c =
    ok-where c.table_of_filling.result (IsUnwasted (wan_by c.args.reported.now c.args.plan.now)) (table_by c.args.reported.now c.args.plan.now)
    (table-unwasted c.args.reported.now c.args.plan.now c.requires (subst (λ (tree : Tree). AreValues (length tree.clusters) tree.top (value_in tree)) c.tree-tree.ensures.same c.tree-tree.ensures.values)) c.table_of_filling.ensures

pub returns-clause-fair : goal.returns-clause-fair
returns-clause-fair c =
    ok-where c.table_of_filling.result (IsFair (wan_by c.args.reported.now c.args.plan.now)) (table_by c.args.reported.now c.args.plan.now)
    (table-fair c.args.reported.now c.args.plan.now c.requires (subst (λ (tree : Tree). AreValues (length tree.clusters) tree.top (value_in tree)) c.tree-tree.ensures.same c.tree-tree.ensures.values)) c.table_of_filling.ensures

pub returns-clause-in_any_order : goal.returns-clause-in_any_order
returns-clause-in_any_order c =
    ok-where c.table_of_filling.result (IsTheSameInAnyOrder c.args.reported.now c.args.plan.now) (table_by c.args.reported.now c.args.plan.now)
    (table-in_any_order c.args.reported.now c.args.plan.now c.requires (subst (λ (tree : Tree). AreValues (length tree.clusters) tree.top (value_in tree)) c.tree-tree.ensures.same c.tree-tree.ensures.values) (subst IsTree c.tree-tree.ensures.same c.tree-tree.ensures.tree)) c.table_of_filling.ensures

pub returns-clause-told : goal.returns-clause-told
returns-clause-told c =
    ok-where c.table_of_filling.result (IsTold c.args.reported.now) (table_by c.args.reported.now c.args.plan.now)
    (table-told c.args.reported.now c.args.plan.now c.requires (subst (λ (tree : Tree). AreValues (length tree.clusters) tree.top (value_in tree)) c.tree-tree.ensures.same c.tree-tree.ensures.values) (subst IsTree c.tree-tree.ensures.same c.tree-tree.ensures.tree)
    c.what_holds.ensures.network (omega (arith, c.what_holds.ensures.prefix))) c.table_of_filling.ensures
