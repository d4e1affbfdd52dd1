-- A table that is kept up to date by changes.
use Rattle.std.specs.Prelude.{◌≡◌, ℕ, List, [], ◌∷◌, fold, slice_set, unwrap_or}
use Rattle.bwe_specs.specs.Allocation.{Table}
use Rattle.demand_book.specs.TableChanges.{Change, Leads}

-- the list with each entry written to its place, in order
abbrev pub with_entries : {X : Type 0} → List X → List (ℕ × X) → List X
with_entries list entries = fold (λ list entry. slice_set list entry.0 entry.1) list entries

-- the table with what a change says: its prefix, its entries, and its closings where it has some
abbrev pub with_change : Table → Change → Table
with_change table change = record {
  prefix = change.prefix;
  limits = with_entries table.limits change.limits;
  groups = with_entries table.groups change.groups;
  loads = with_entries table.loads change.loads;
  closings = unwrap_or change.closings table.closings;
}

-- the table with all changes, in their order
abbrev pub with_changes : Table → List Change → Table
with_changes table changes = fold with_change table changes

-- the changes lead from the table through the later tables, each from one to the next
abbrev pub LeadAlong : Table → List Change → List Table → Type 0
LeadAlong table [] [] = Unit {0}
LeadAlong table [] (later ∷ tables) = ⊥
LeadAlong table (change ∷ changes) [] = ⊥
LeadAlong table (change ∷ changes) (later ∷ tables) = Leads table change later
    × LeadAlong later changes tables

-- the last of the tables, or the first where no later one is there
abbrev pub last_of : Table → List Table → Table
last_of table [] = table
last_of table (later ∷ tables) = last_of later tables

-- Kept by changes: along any list of later tables, the table with the change to the first of them
-- and with all changes that follow is the last of them
abbrev pub IsKeptAlong : Table → Table → Change → Type 0
IsKeptAlong table later change = (changes : List Change) (tables : List Table)
    → LeadAlong later changes tables
    → with_changes table (change ∷ changes) ≡ last_of later tables
