-- The laws that an operator asks for first, of every plan under any demands and capacities.
use Rattle.std.specs.Prelude.{◌≡◌, ℕ, ◌++◌, List, [], length, map}
use Rattle.bwe_specs.specs.Paths.{link_load}
use Rattle.bwe_specs.specs.Filling.{Wan, filling}
use Rattle.bwe_specs.specs.Reports.{numbers}
use Rattle.bwe_specs.specs.Values.{NeverFalls}
use Rattle.bwe_specs.specs.TreeFunctions.{AreClusters}
use Rattle.bwe_specs.specs.Allocation.{Plan, Table, group_line, table_under}
use Rattle.demand_book.specs.TableChanges.{Change}
use Rattle.table_laws.specs.Tasks.{AreNumbered, AreAskedFor}
use Rattle.table_laws.specs.Tables.{IsSharedAlike, IsWithoutWaste}
use Rattle.doc_names.specs.NameTexts.{NameTexts}
use Rattle.table_text.specs.TableText.{text_of}
use Rattle.table_laws.specs.Printing.{AreTelling, IsNamed}
use Rattle.table_laws.specs.Order.{IsOrder, AreAlike, reordered}
use Rattle.demand_book.specs.Following.{LeadAlong, last_of, with_changes}

-- No more than asked: in the table of a plan each task's limit is at most its demand, and at most
-- its weight times what its job's task function gives at the top share
abbrev pub NoMoreThanAsked : Type 0
NoMoreThanAsked = (plan : Plan) (prefix : ℕ) (demand : ℕ → ℕ) (capacities : List ℕ)
    → AreClusters plan.top plan.clusters → AreNumbered plan.clusters
    → AreAskedFor plan.top demand plan.clusters (table_under plan prefix demand capacities).limits

-- The same share: a group's amount, over all its path groups, is exactly what its function gives at
-- its stop share; at each closing every group that then grew over the link stood at the closing's
-- share, and stops there if no path group is left to it
abbrev pub TheSameShare : Type 0
TheSameShare = (wan : Wan) → NeverFalls wan → ((group : ℕ) → wan.value group 0 ≡ 0)
    → IsSharedAlike wan (map (group_line wan (filling wan)) (numbers (length wan.groups)))
    (filling wan).closings

-- No waste: where a group has less than it may have at the top, each of its path groups uses a
-- closed link; on each closed link what is left free is less than what the groups that then grew
-- over it would have put there with the next whole share, and it stays so
abbrev pub NoWaste : Type 0
NoWaste = (wan : Wan) → NeverFalls wan → ((group : ℕ) → wan.value group 0 ≡ 0)
    → IsWithoutWaste wan (map (group_line wan (filling wan)) (numbers (length wan.groups)))
    (map (link_load wan.groups (filling wan).amounts) (numbers (length wan.capacities)))
    (filling wan).closings

-- Kept by changes: a table with the changes along any list of later tables, applied in their order,
-- is the last of them
abbrev pub KeptByChanges : Type 0
KeptByChanges = (table : Table) (changes : List Change) (tables : List Table)
    → LeadAlong table changes tables → with_changes table changes ≡ last_of table tables

-- Nobody's place matters: where the groups are given in another order, with their tasks, which then
-- have other numbers and ask for the same, each group gets the same line, each task the same limit,
-- and links carry and close the same; only the numbers of links break ties. Names stand nowhere in
-- the definitions
abbrev pub NoPlaceMatters : Type 0
NoPlaceMatters =
    (plan : Plan) (group_at place_of renumber : ℕ → ℕ) (prefix : ℕ) (demand other : ℕ → ℕ)
    (capacities : List ℕ)
    → length plan.clusters ≡ length plan.groups → IsOrder (length plan.groups) group_at place_of
    → AreNumbered plan.clusters → AreNumbered (reordered group_at renumber plan).clusters
    → ((task : ℕ) → other (renumber task) ≡ demand task)
    → AreAlike plan (reordered group_at renumber plan) group_at
    (table_under plan prefix demand capacities)
    (table_under (reordered group_at renumber plan) prefix other capacities)

-- One text, one table: where the text of a table is that of another one, under the same names, and
-- more, the two tables are equal and there is no more. So no text of a table is a beginning of
-- another's
abbrev pub OneTextOneTable : Type 0
OneTextOneTable = (names : NameTexts) → AreTelling names → (table other : Table)
    → IsNamed names table → IsNamed names other
    → (more : List ℕ) → text_of names table ≡ text_of names other ++ more
    → (table ≡ other) × (more ≡ [])
