-- A table with the changes of later tables is the last of them.
use Rattle.std.proofs.Common.{◌≡◌, ℕ, List, [], ◌∷◌, ◌++◌, length, Option, Some, None, unwrap_or, Result, Ok, Err, IfOk, refl, ◌∙◌, ap, arith, append_assoc}
use Rattle.std.proofs.lemmas.List.{set_at, length-append}
use Rattle.bwe_specs.specs.declared.network.Closing.{Closing}
use Rattle.bwe_specs.specs.Allocation.{Table}
use Rattle.limit_table.proofs.Parts.{same-parts}
use Rattle.demand_book.specs.Changes.{Changes, IsChanged, none, same, differs}
use Rattle.demand_book.specs.TableChanges.{Change, Leads}
use Rattle.demand_book.specs.Following.{IsKeptAlong, with_entries, with_change, with_changes, LeadAlong, last_of}

module _ {X : Type 0} where
  entries-lead : {at : ℕ} {old new : List X} {entries : List (ℕ × X)} → Changes at old new entries
      → (front : List X) → length front ≡ at → with_entries (front ++ old) entries ≡ front ++ new
  entries-lead none front is = refl
  entries-lead (same {x = x} {old = old} {new = new} rest) front is =
      rw (← append_assoc front (x ∷ []) old, ← append_assoc front (x ∷ []) new)
      (entries-lead rest (front ++ x ∷ []) (omega (arith, length-append front (x ∷ []), is)))
  entries-lead (differs {x = x} {y = y} {old = old} {new = new} unlike rest) front is =
      rw (set_at front x old y _ is, ← append_assoc front (y ∷ []) old, ← append_assoc front (y ∷ []) new)
      (entries-lead rest (front ++ y ∷ []) (omega (arith, length-append front (y ∷ []), is)))

closings-lead : (old new : List Closing) (change : Option (List Closing)) → IsChanged old new change → unwrap_or change old ≡ new
closings-lead old new None is = is
closings-lead old new (Some closings) is = is.1

pub change-leads : (table : Table) (change : Change) (later : Table) → Leads table change later → with_change table change ≡ later
change-leads table change later leads =
    same-parts _ _ _ _ _ _ _ _ _ _ leads.prefix (entries-lead leads.limits [] refl) (entries-lead leads.groups [] refl) (entries-lead leads.loads [] refl)
    (closings-lead table.closings later.closings change.closings leads.closings)

pub kept-by-changes : (table : Table) (changes : List Change) (tables : List Table) → LeadAlong table changes tables → with_changes table changes ≡ last_of table tables
kept-by-changes table [] [] lead = refl
kept-by-changes table [] (later ∷ tables) lead = absurd lead
kept-by-changes table (change ∷ changes) [] lead = absurd lead
kept-by-changes table (change ∷ changes) (later ∷ tables) lead =
    ap (λ table. with_changes table changes) (change-leads table change later lead.0) ∙ kept-by-changes later changes tables lead.1

-- so a change that leads to a later table keeps the table along every list of tables behind that one
pub kept-along : {E : Type 0} (table later : Table) (answer : Result Change E) → IfOk answer (λ change. Leads table change later) → IfOk answer (IsKeptAlong table later)
kept-along table later (Ok change) leads = λ changes tables lead. kept-by-changes table (change ∷ changes) (later ∷ tables) (leads, lead)
kept-along table later (Err error) leads = tt
