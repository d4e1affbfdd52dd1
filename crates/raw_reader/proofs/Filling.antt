-- A member that is put among others, and what slots then hold.
use Rattle.std.proofs.Common.{◌≡◌, ℕ, true, false, List, Option, Some, None, Result, Ok, Err, refl, sym, ap, ◌∙◌}
use Rattle.std.specs.Prelude.{◌||◌, is_some, option_map}
use Rattle.std.specs.Ordering.{is_eq, nat_cmp, match_ordering}
use Rattle.std.specs.declared.cmp.Ordering.{Ordering}
use Rattle.std.specs.declared.cmp.Ordering.TheVariants.{Less, Equal, Greater}
use Rattle.std.specs.Cmp.Lexicographic.{slice_cmp, nat_list_eq_equiv}
use Rattle.std.specs.Str.{bytes_eq}
use Rattle.std.proofs.lemmas.Bool.{and_from, and_parts}
use Rattle.std.proofs.lemmas.Map.Text.{is_eq-slice_cmp}
use Rattle.serde_json.specs.Data.{Data, object, Members, no_members, member, put}
use Rattle.serde_json.specs.Find.{get, get_member}
use Rattle.raw_document.specs.declared.key.DocKey.{DocKey}
use Rattle.raw_document.specs.declared.doc_path.PathStep.{PathStep}
use Rattle.raw_document.specs.declared.doc_path.PathStep.TheVariants.{Key}
use Rattle.raw_document.specs.Words.{word}
use Rattle.raw_document.specs.Reading.{◌>>=◌, under}
use Rattle.raw_document.specs.Shape.{read_found, read_some, field, optional, is_one_of, has_only, has_all, object as object_shape}
use Rattle.raw_reader.specs.Slots.{Slot}

is_equal : (o : Ordering) → is_eq o ≡ true → o ≡ Equal
is_equal Less e = absurd cc
is_equal Equal e = refl
is_equal Greater e = absurd cc

passed : {A : Type 0} (o : Ordering) (x y : A) → is_eq o ≡ false → match_ordering o x y x ≡ x
passed Less x y e = refl
passed Equal x y e = absurd cc
passed Greater x y e = refl

same_key : (k : List ℕ) → slice_cmp nat_cmp k k ≡ Equal
same_key k = is_equal (slice_cmp nat_cmp k k) (is_eq-slice_cmp k k ∙ nat_list_eq_equiv.refl k)

differs : (q k : List ℕ) → bytes_eq q k ≡ false → is_eq (slice_cmp nat_cmp q k) ≡ false
differs q k e = is_eq-slice_cmp q k ∙ e

equal_keys : (k l : List ℕ) → slice_cmp nat_cmp k l ≡ Equal → bytes_eq k l ≡ true
equal_keys k l e = sym (is_eq-slice_cmp k l) ∙ ap is_eq e

-- a key that differs from one differs from its equal
differs_too : (q k l : List ℕ) → bytes_eq k l ≡ true → bytes_eq q k ≡ false → bytes_eq q l ≡ false
differs_too q k l same e = nat_list_eq_equiv.symm q l ∙ sym (nat_list_eq_equiv.congr k l q same) ∙ nat_list_eq_equiv.symm k q ∙ e

get_put : (k : List ℕ) (d : Data) (ms : Members) → get_member k (put k d ms) ≡ Some d
get_put k d no_members = rw (same_key k)
get_put k d (member l e ms) = by (slice_cmp nat_cmp k l) refl (get_put k d ms) where
  by : (o : Ordering) → slice_cmp nat_cmp k l ≡ o → get_member k (put k d ms) ≡ Some d → get_member k (match_ordering o (member k d (member l e ms)) (member l d ms) (member l e (put k d ms))) ≡ Some d
  by Less is more = rw (same_key k)
  by Equal is more = rw is
  by Greater is more = rw is more

get_other : (q k : List ℕ) (d : Data) (ms : Members) → bytes_eq q k ≡ false → get_member q (put k d ms) ≡ get_member q ms
get_other q k d no_members apart = passed (slice_cmp nat_cmp q k) None (Some d) (differs q k apart)
get_other q k d (member l e ms) apart = by (slice_cmp nat_cmp k l) refl (get_other q k d ms apart) where
  by : (o : Ordering) → slice_cmp nat_cmp k l ≡ o → get_member q (put k d ms) ≡ get_member q ms
      → get_member q (match_ordering o (member k d (member l e ms)) (member l d ms) (member l e (put k d ms))) ≡ get_member q (member l e ms)
  by Less is more = passed (slice_cmp nat_cmp q k) (get_member q (member l e ms)) (Some d) (differs q k apart)
  by Equal is more =
      let away : is_eq (slice_cmp nat_cmp q l) ≡ false = differs q l (differs_too q k l (equal_keys k l is) apart) in
      passed (slice_cmp nat_cmp q l) (get_member q ms) (Some d) away ∙ sym (passed (slice_cmp nat_cmp q l) (get_member q ms) (Some e) away)
  by Greater is more = ap (λ g. match_ordering (slice_cmp nat_cmp q l) g (Some e) g) more

-- ---- slots

pub filled : {X Y : Type 0} (key : DocKey) (view : X → Y) (read : Data → Result Y (List PathStep)) (found : Members) (k : List ℕ) (d : Data) (slot : Option X) (x : X) → k ≡ word key → slot ≡ Some x → read d ≡ Ok (view x)
    → Slot key view read (put k d found) slot
unfolding optional
filled key view read found k d slot x is has e = rw (is, has, get_put (word key) d found, e)

pub kept : {X Y : Type 0} (key other : DocKey) (view : X → Y) (read : Data → Result Y (List PathStep)) (found : Members) (k : List ℕ) (d : Data) (slot : Option X) → k ≡ word other → bytes_eq (word key) (word other) ≡ false
    → Slot key view read found slot → Slot key view read (put k d found) slot
unfolding optional
kept key other view read found k d slot is apart e = rw (is, get_other (word key) (word other) d found apart) e

pub only : (required others : List DocKey) (found : Members) (k : List ℕ) (d : Data) → (is_one_of required k || is_one_of others k) ≡ true → has_only required others found ≡ true → has_only required others (put k d found) ≡ true
unfolding has_only
only required others no_members k d known h = and_from _ true known refl
only required others (member l e ms) k d known h = by (slice_cmp nat_cmp k l) (only required others ms k d known) where
  by : (o : Ordering) → (has_only required others ms ≡ true → has_only required others (put k d ms) ≡ true)
      → has_only required others (match_ordering o (member k d (member l e ms)) (member l d ms) (member l e (put k d ms))) ≡ true
  by Less more = and_from _ _ known h
  by Equal more = h
  by Greater more = let parts = and_parts _ _ h in and_from _ _ parts.0 (more parts.1)

-- ---- an object of which all is known

some_there : {Y : Type 0} (key : DocKey) (read : Data → Result Y (List PathStep)) (o : Option Data) (y : Y) → under (Key key) (read_some read o) ≡ Ok (Some y) → is_some o ≡ true
some_there key read None y e = absurd cc
some_there key read (Some d) y e = refl

pub there : {X Y : Type 0} (key : DocKey) (view : X → Y) (read : Data → Result Y (List PathStep)) (found : Members) (slot : Option X) (x : X) → slot ≡ Some x → Slot key view read found slot → is_some (get (word key) (object found)) ≡ true
unfolding optional
there key view read found slot x is e = some_there key read (get_member (word key) found) (view x) (e ∙ ap (λ s. Ok (option_map view s)) is)

none_there : {Y : Type 0} (key : DocKey) (read : Data → Result Y (List PathStep)) (o : Option Data) → under (Key key) (read_some read o) ≡ Ok None → is_some o ≡ false
none_there key read None e = refl
none_there {Y = Y} key read (Some d) e = by (read d) e where
  by : (r : Result Y (List PathStep)) → under (Key key) (r >>= λ x. Ok (Some x)) ≡ Ok None → true ≡ false
  by (Ok x) e = absurd cc
  by (Err p) e = absurd cc

pub absent : {X Y : Type 0} (key : DocKey) (view : X → Y) (read : Data → Result Y (List PathStep)) (found : Members) (slot : Option X) → slot ≡ None → Slot key view read found slot → is_some (get (word key) (object found)) ≡ false
unfolding optional
absent key view read found slot is e = none_there key read (get_member (word key) found) (e ∙ ap (λ s. Ok (option_map view s)) is)

some_read : {Y : Type 0} (key : DocKey) (r : Result Y (List PathStep)) (y : Y) → under (Key key) (r >>= λ x. Ok (Some x)) ≡ Ok (Some y) → under (Key key) r ≡ Ok y
some_read key (Ok x) y e = cc
some_read key (Err p) y e = absurd cc

some_found : {Y : Type 0} (key : DocKey) (read : Data → Result Y (List PathStep)) (o : Option Data) (y : Y) → under (Key key) (read_some read o) ≡ Ok (Some y) → under (Key key) (read_found read o) ≡ Ok y
some_found key read None y e = absurd cc
some_found key read (Some d) y e = some_read key (read d) y e

pub field_is : {X Y : Type 0} (key : DocKey) (view : X → Y) (read : Data → Result Y (List PathStep)) (found : Members) (slot : Option X) (x : X) → slot ≡ Some x → Slot key view read found slot → field key read (object found) ≡ Ok (view x)
unfolding optional field
field_is key view read found slot x is e = some_found key read (get_member (word key) found) (view x) (e ∙ ap (λ s. Ok (option_map view s)) is)

pub object_ok : (required others : List DocKey) (found : Members) → has_all required (object found) ≡ true → has_only required others found ≡ true → object_shape required others (object found) ≡ Ok tt
unfolding object_shape
object_ok required others found all known = rw (all, known)
