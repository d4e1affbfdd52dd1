-- What the slots tell of an object's ms.
use Rattle.std.proofs.Common.{◌≡◌, ℕ, zero, suc, ◌<◌, Bool, true, false, cond, List, [], ◌∷◌, ◌++◌, length, take, get_or, Option, Some, None, Result, Ok, Err, refl, sym, ap, ap₂, ◌∙◌, subst, arith}
use Rattle.std.specs.Prelude.{◌+◌, ◌||◌, ◌&&◌, not, is_some, is_none, slice_set, ⊤}
use Rattle.std.specs.List.{list_any, list_all, remove, position_or_len}
use Rattle.std.proofs.lemmas.List.{take_more}
use Rattle.std.proofs.lemmas.Bool.{and_parts, or_parts, not-true}
use Rattle.serde_json.specs.Data.{Data, object, Members, no_members, put}
use Rattle.serde_json.specs.Find.{get, get_member}
use Rattle.raw_document.specs.declared.key.DocKey.{DocKey}
use Rattle.raw_document.specs.declared.doc_path.PathStep.{PathStep}
use Rattle.raw_document.specs.declared.doc_path.PathStep.TheVariants.{Key}
use Rattle.raw_document.specs.declared.doc_path.Fault.{Fault}
use Rattle.raw_document.specs.declared.doc_path.Fault.TheVariants.{OutOfMemory, At}
use Rattle.raw_document.specs.Words.{word}
use Rattle.raw_document.specs.Reading.{check, IsFaultUnder, IsUnder}
use Rattle.raw_document.specs.Shape.{field, optional, has_all, object as object_shape}
use Rattle.version_scan.proofs.Named.{get_other}
use Rattle.fault_scan.specs.declared.kinds.Kind.{Kind}
use Rattle.fault_scan.specs.declared.kinds.Kind.TheVariants as kinds
use Rattle.fault_scan.specs.declared.kinds.Field.{Field}
use Rattle.fault_scan.specs.declared.seen.Slot.{Slot}
use Rattle.fault_scan.specs.Kinds.{passed, at}
use Rattle.fault_scan.specs.Tables.{required_keys, other_keys, member_at, followed_by}
use Rattle.fault_scan.specs.Seen.{Tells, Sees, SlotIs, SlotsAre, fields_in, is_named, are_apart, only, kind_at, is_missing, earlier, empty_slot}
use Rattle.fault_scan.proofs.Keys.{get_same, same_bytes}

-- ---- one member more

-- the slots of other keys stay as they are
kept : (version : ℕ) (ms : Members) (key : List ℕ) (d : Data) (ss : List Slot) → list_any (is_named key) (fields_in ss) ≡ false → SlotsAre version ms ss → SlotsAre version (put key d ms) ss
kept version ms key d [] apart are = tt
kept version ms key d (s ∷ ss) apart are =
    let parts = or_parts (is_named key s.field) (list_any (is_named key) (fields_in ss)) apart in
    (subst (λ o. Sees version s.field.kind s.found o) (sym (get_other (word s.field.key) key d ms parts.0)) are.0, kept version ms key d ss parts.1 are.1)

pub put_stranger : (version : ℕ) (ms : Members) (key : List ℕ) (d : Data) (ss : List Slot) → list_any (is_named key) (fields_in ss) ≡ false → SlotsAre version ms ss → SlotsAre version (put key d ms) ss
put_stranger = kept

pub put_slot : (version : ℕ) (ms : Members) (key : List ℕ) (d : Data) (found : Result ⊤ Fault) (ss : List Slot) (i : ℕ) (s : Slot)
    → are_apart (fields_in ss) ≡ true → position_or_len (λ (x : Slot). is_named key x.field) ss ≡ i → i < length ss → get_or ss i s ≡ s
    → Tells found (at version (kind_at key ss) d) → SlotsAre version ms ss → SlotsAre version (put key d ms) (slice_set ss i (record { field = s.field; found = Some found }))
put_slot version ms key d found [] i s apart place some is tells are = absurd (omega arith)
put_slot version ms key d found (t ∷ ss) i s apart place some is tells are = go (is_named key t.field) refl place tells (put_slot version ms key d found ss) where
  parts : (not (list_any (is_named (word t.field.key)) (fields_in ss)) ≡ true) × (are_apart (fields_in ss) ≡ true)
  parts = and_parts (not (list_any (is_named (word t.field.key)) (fields_in ss))) (are_apart (fields_in ss)) apart

  Goal : ℕ → Type 0
  Goal n = SlotsAre version (put key d ms) (slice_set (t ∷ ss) n (record { field = s.field; found = Some found }))

  go : (b : Bool) → is_named key t.field ≡ b → cond (not b) (1 + position_or_len (λ (x : Slot). is_named key x.field) ss) 0 ≡ i → Tells found (at version (cond b t.field.kind (kind_at key ss)) d)
      → ((j : ℕ) (y : Slot) → are_apart (fields_in ss) ≡ true → position_or_len (λ (x : Slot). is_named key x.field) ss ≡ j → j < length ss → get_or ss j y ≡ y → Tells found (at version (kind_at key ss) d) → SlotsAre version ms ss → SlotsAre version (put key d ms) (slice_set ss j (record { field = y.field; found = Some found })))
      → Goal i
  go true named here tells more =
      let same : t ≡ s = ap (λ n. get_or (t ∷ ss) n s) here ∙ is in
      let others = ap (λ (k : List ℕ). list_any (is_named k) (fields_in ss)) (sym (same_bytes (word t.field.key) key named)) ∙ not-true _ parts.0 in
      subst Goal here (subst (λ (y : Slot). Sees version y.field.kind (Some found) (get_member (word y.field.key) (put key d ms)) × SlotsAre version (put key d ms) ss) same
      ((d, get_same (word t.field.key) key d ms named, tells), kept version ms key d ss others are.1))
  go false named there tells more =
      let n = position_or_len (λ (x : Slot). is_named key x.field) ss in
      let next : suc n ≡ i = omega (arith, there) in
      let later : get_or ss n s ≡ s = ap (λ m. get_or (t ∷ ss) m s) next ∙ is in
      subst Goal next (subst (λ o. Sees version t.field.kind t.found o) (sym (get_other (word t.field.key) key d ms named)) are.0, more n s parts.1 refl (omega (arith, some, there)) later tells are.1)

pub fields_set : (ss : List Slot) (i : ℕ) (s : Slot) (found : Option (Result ⊤ Fault)) → get_or ss i s ≡ s → fields_in (slice_set ss i (record { field = s.field; found = found })) ≡ fields_in ss
fields_set [] i s found is = refl
fields_set (t ∷ ss) zero s found is = ap (λ (y : Slot). y.field ∷ fields_in ss) (sym is)
fields_set (t ∷ ss) (suc i) s found is = ap (λ fs. t.field ∷ fs) (fields_set ss i s found is)

pub any_field : (p : Field → Bool) (ss : List Slot) → list_any (λ (s : Slot). p s.field) ss ≡ list_any p (fields_in ss)
any_field p [] = refl
any_field p (s ∷ ss) = ap (λ b. p s.field || b) (any_field p ss)

pub kind_there : (key : List ℕ) (ss : List Slot) (i : ℕ) (s : Slot) → position_or_len (λ (x : Slot). is_named key x.field) ss ≡ i → i < length ss → get_or ss i s ≡ s → s.field.kind ≡ kind_at key ss
kind_there key [] i s place some is = absurd (omega arith)
kind_there key (t ∷ ss) i s place some is = go (is_named key t.field) place (kind_there key ss) where
  go : (b : Bool) → cond (not b) (1 + position_or_len (λ (x : Slot). is_named key x.field) ss) 0 ≡ i
      → ((j : ℕ) (y : Slot) → position_or_len (λ (x : Slot). is_named key x.field) ss ≡ j → j < length ss → get_or ss j y ≡ y → y.field.kind ≡ kind_at key ss)
      → s.field.kind ≡ cond b t.field.kind (kind_at key ss)
  go true here more = ap (λ (y : Slot). y.field.kind) (sym (ap (λ n. get_or (t ∷ ss) n s) here ∙ is))
  go false there more =
      let n = position_or_len (λ (x : Slot). is_named key x.field) ss in
      let next : suc n ≡ i = omega (arith, there) in
      more n s refl (omega (arith, some, there)) (ap (λ m. get_or (t ∷ ss) m s) next ∙ is)

pub kind_nowhere : (key : List ℕ) (ss : List Slot) → list_any (is_named key) (fields_in ss) ≡ false → kind_at key ss ≡ kinds.Any
kind_nowhere key [] none = refl
kind_nowhere key (s ∷ ss) none = let parts = or_parts (is_named key s.field) (list_any (is_named key) (fields_in ss)) none in rw parts.0 (kind_nowhere key ss parts.1)

-- ---- a slot less

pub fields_remove : (ss : List Slot) (i : ℕ) → fields_in (remove ss i) ≡ remove (fields_in ss) i
fields_remove [] zero = refl
fields_remove [] (suc i) = refl
fields_remove (s ∷ ss) zero = refl
fields_remove (s ∷ ss) (suc i) = ap (λ fs. s.field ∷ fs) (fields_remove ss i)

pub slots_remove : (version : ℕ) (ms : Members) (ss : List Slot) (i : ℕ) → SlotsAre version ms ss → SlotsAre version ms (remove ss i)
slots_remove version ms [] zero are = tt
slots_remove version ms [] (suc i) are = tt
slots_remove version ms (s ∷ ss) zero are = are.1
slots_remove version ms (s ∷ ss) (suc i) are = (are.0, slots_remove version ms ss i are.1)

pub slot_there : (version : ℕ) (ms : Members) (ss : List Slot) (i : ℕ) (s : Slot) → i < length ss → get_or ss i s ≡ s → SlotsAre version ms ss → SlotIs version ms s
slot_there version ms [] i s some is are = absurd (omega arith)
slot_there version ms (t ∷ ss) zero s some is are = subst (λ (y : Slot). SlotIs version ms y) is are.0
slot_there version ms (t ∷ ss) (suc i) s some is are = slot_there version ms ss i s (omega arith) is are.1

pub field_there : (ss : List Slot) (i : ℕ) (s : Slot) → i < length ss → get_or ss i s ≡ s → get_or (fields_in ss) i s.field ≡ s.field
field_there [] i s some is = absurd (omega arith)
field_there (t ∷ ss) zero s some is = ap (λ (y : Slot). y.field) is
field_there (t ∷ ss) (suc i) s some is = field_there ss i s (omega arith) is

pub seen_is : (version : ℕ) (kind : Kind) (found : Option (Result ⊤ Fault)) (o : Option Data) → Sees version kind found o → is_some o ≡ is_some found
seen_is version kind None o sees = ap is_some sees
seen_is version kind (Some found) o sees = ap is_some sees.1

-- ---- the whole object

all_there : (version : ℕ) (ms : Members) (ss : List Slot) → SlotsAre version ms ss → has_all (required_keys (fields_in ss)) (object ms) ≡ not (list_any is_missing ss)
unfolding has_all
all_there version ms [] are = refl
all_there version ms (s ∷ ss) are = go s.field.is_required s.found (seen_is version s.field.kind s.found _ are.0) (all_there version ms ss are.1) where
  rest : List DocKey
  rest = required_keys (fields_in ss)

  go : (b : Bool) (found : Option (Result ⊤ Fault)) → is_some (get_member (word s.field.key) ms) ≡ is_some found → list_all (λ key. is_some (get (word key) (object ms))) rest ≡ not (list_any is_missing ss)
      → list_all (λ key. is_some (get (word key) (object ms))) (cond b (s.field.key ∷ rest) rest) ≡ not ((b && is_none found) || list_any is_missing ss)
  go false found there more = more
  go true None there more = ap (λ b. b && list_all (λ key. is_some (get (word key) (object ms))) rest) there
  go true (Some found) there more = ap₂ (λ a b. a && b) there more

pub object_is : (version : ℕ) (ms : Members) (ss : List Slot) (stranger : Bool) → SlotsAre version ms ss → only (fields_in ss) ms ≡ not stranger
    → object_shape (required_keys (fields_in ss)) (other_keys (fields_in ss)) (object ms) ≡ check (not (list_any is_missing ss) && not stranger)
unfolding object_shape
object_is version ms ss stranger are known = ap₂ (λ a b. check (a && b)) (all_there version ms ss are) known

-- ---- the ms in order

-- a member that has no fault, or is not there and need not be
passes : (version : ℕ) (ms : Members) (f : Field) (found : Option (Result ⊤ Fault)) → Sees version f.kind found (get_member (word f.key) ms) → (f.is_required && is_none found) ≡ false
    → ((fault : Fault) → found ≡ Some (Err fault) → ⊥) → member_at version f (object ms) ≡ Ok tt
unfolding field optional
passes version ms f None sees there fine = by f.is_required there where
  by : (b : Bool) → (b && true) ≡ false → cond b (field f.key (at version f.kind) (object ms)) (passed (optional f.key (at version f.kind) (object ms))) ≡ Ok tt
  by true there = absurd cc
  by false there = rw sees
passes version ms f (Some (Err fault)) sees there fine = absurd (fine fault refl)
passes version ms f (Some (Ok u)) sees there fine = by f.is_required where
  by : (b : Bool) → cond b (field f.key (at version f.kind) (object ms)) (passed (optional f.key (at version f.kind) (object ms))) ≡ Ok tt
  by true = rw (sees.1, sees.2)
  by false = rw (sees.1, sees.2)

-- a member that has a fault
fails : (version : ℕ) (ms : Members) (f : Field) (path : List PathStep) (d : Data) → get_member (word f.key) ms ≡ Some d → at version f.kind d ≡ Err path → member_at version f (object ms) ≡ Err (Key f.key ∷ path)
unfolding field optional
fails version ms f path d there is = by f.is_required where
  by : (b : Bool) → cond b (field f.key (at version f.kind) (object ms)) (passed (optional f.key (at version f.kind) (object ms))) ≡ Err (Key f.key ∷ path)
  by true = rw (there, is)
  by false = rw (there, is)

pub passed_before : (version : ℕ) (ms : Members) (s : Slot) (rest : Result ⊤ (List PathStep)) (later : Result ⊤ Fault) → SlotIs version ms s → is_missing s ≡ false → ((fault : Fault) → s.found ≡ Some (Err fault) → ⊥)
    → Tells later rest → Tells later (followed_by (member_at version s.field (object ms)) rest)
passed_before version ms s rest later is there fine tells = subst (λ r. Tells later (followed_by r rest)) (sym (passes version ms s.field s.found is there fine)) tells

pub failed_before : (version : ℕ) (ms : Members) (s : Slot) (rest : Result ⊤ (List PathStep)) (inner fault : Fault) → SlotIs version ms s → s.found ≡ Some (Err inner) → IsFaultUnder (Key s.field.key) inner fault
    → Tells (Err fault) (followed_by (member_at version s.field (object ms)) rest)
failed_before version ms s rest inner OutOfMemory is found below = tt
failed_before version ms s rest OutOfMemory (At path) is found below = absurd below
failed_before version ms s rest (At p) (At path) is found below =
    let sees : Sees version s.field.kind (Some (Err (At p))) (get_member (word s.field.key) ms) = subst (λ o. Sees version s.field.kind o (get_member (word s.field.key) ms)) found is in
    ap (λ r. followed_by r rest) (fails version ms s.field p.steps.items sees.0 sees.1 sees.2) ∙ ap Err (sym below)

-- ---- slots from the last one on

pub slots_last : (version : ℕ) (ms : Members) (front behind : List Slot) → SlotsAre version ms (front ++ behind) → SlotsAre version ms behind
slots_last version ms [] behind are = are
slots_last version ms (s ∷ front) behind are = slots_last version ms front behind are.1

pub none_last : (front behind : List Slot) → list_any is_missing (front ++ behind) ≡ false → list_any is_missing behind ≡ false
none_last [] behind none = none
none_last (s ∷ front) behind none = none_last front behind (or_parts (is_missing s) (list_any is_missing (front ++ behind)) none).1

pub fields_length : (ss : List Slot) → length (fields_in ss) ≡ length ss
fields_length [] = refl
fields_length (s ∷ ss) = ap suc (fields_length ss)

no_fault : (o : Option (Result ⊤ Fault)) (u : ⊤) (fault : Fault) → o ≡ Some (Ok u) → o ≡ Some (Err fault) → ⊥
no_fault o u fault fine bad = absurd cc

pub slot_before : (version : ℕ) (ms : Members) (s : Slot) (rest : Result ⊤ (List PathStep)) (found below behind : Result ⊤ Fault) → SlotIs version ms s → is_missing s ≡ false → s.found ≡ Some found → IsUnder (Key s.field.key) found below
    → Tells behind rest → Tells (earlier below behind) (followed_by (member_at version s.field (object ms)) rest)
slot_before version ms s rest (Ok u) (Ok v) behind is there has below_it tells = passed_before version ms s rest behind is there (λ fault bad. no_fault s.found u fault has bad) tells
slot_before version ms s rest (Ok u) (Err fault) behind is there has below_it tells = absurd below_it
slot_before version ms s rest (Err inner) (Ok v) behind is there has below_it tells = absurd below_it
slot_before version ms s rest (Err inner) (Err fault) behind is there has below_it tells = failed_before version ms s rest inner fault is has below_it

pub empty_slots : (version : ℕ) (ss : List Slot) (s : Slot) → SlotsAre version no_members ss → s.found ≡ None → SlotsAre version no_members (ss ++ s ∷ [])
empty_slots version [] s are none = (subst (λ o. Sees version s.field.kind o None) (sym none) refl, tt)
empty_slots version (t ∷ ss) s are none = (are.0, empty_slots version ss s are.1 none)

pub fields_push : (ss : List Slot) (s : Slot) → fields_in (ss ++ s ∷ []) ≡ fields_in ss ++ s.field ∷ []
fields_push [] s = refl
fields_push (t ∷ ss) s = ap (λ fs. t.field ∷ fs) (fields_push ss s)

pub fields_more : (ss now : List Slot) (fs : List Field) (i : ℕ) (f : Field) → now ≡ ss ++ empty_slot (get_or fs i f) ∷ [] → i < length fs → fields_in ss ≡ take i fs → fields_in now ≡ take (i + 1) fs
fields_more ss now fs i f pushed some before = ap fields_in pushed ∙ fields_push ss (empty_slot (get_or fs i f)) ∙ ap (λ gs. gs ++ get_or fs i f ∷ []) before ∙ sym (take_more fs i f some)

pub empty_more : (version : ℕ) (ss now : List Slot) (f : Field) → now ≡ ss ++ empty_slot f ∷ [] → SlotsAre version no_members ss → SlotsAre version no_members now
empty_more version ss now f pushed are = subst (SlotsAre version no_members) (sym pushed) (empty_slots version ss (empty_slot f) are refl)
