-- What the last member of a name says of the version.
use Rattle.std.proofs.Common.{◌≡◌, ℕ, true, false, List, Option, Some, None, refl, sym, ap, ◌∙◌}
use Rattle.std.specs.Ordering.{is_eq, nat_cmp, match_ordering}
use Rattle.std.specs.declared.cmp.Ordering.{Ordering}
use Rattle.std.specs.declared.cmp.Ordering.TheVariants.{Less, Equal, Greater}
use Rattle.std.specs.Cmp.Lexicographic.{slice_cmp, nat_list_eq_equiv}
use Rattle.std.specs.Str.{bytes_eq}
use Rattle.std.proofs.lemmas.Map.Text.{is_eq-slice_cmp}
use Rattle.serde_json.specs.Data.{Data, object, Members, no_members, member, put}
use Rattle.serde_json.specs.Find.{get_member}
use Rattle.raw_document.specs.declared.key.DocKey.TheVariants as keys
use Rattle.raw_document.specs.declared.doc_path.PathStep.TheVariants.{Key}
use Rattle.raw_document.specs.Words.{word}
use Rattle.raw_document.specs.Reading.{under, or_fault}
use Rattle.raw_document.specs.Shape.{number_of, field, whole}
use Rattle.version_scan.specs.Version.{is_4_at, is_number_4, is_version_4}

is_equal : (o : Ordering) → is_eq o ≡ true → o ≡ Equal
is_equal Less e = absurd cc
is_equal Equal e = refl
is_equal Greater e = absurd cc

pub passed : {A : Type 0} (o : Ordering) (x y : A) → is_eq o ≡ false → match_ordering o x y x ≡ x
passed Less x y e = refl
passed Equal x y e = absurd cc
passed Greater x y e = refl

same_key : (k : List ℕ) → slice_cmp nat_cmp k k ≡ Equal
same_key k = is_equal (slice_cmp nat_cmp k k) (is_eq-slice_cmp k k ∙ nat_list_eq_equiv.refl k)

pub differs : (q k : List ℕ) → bytes_eq q k ≡ false → is_eq (slice_cmp nat_cmp q k) ≡ false
differs q k e = is_eq-slice_cmp q k ∙ e

equal_keys : (k l : List ℕ) → slice_cmp nat_cmp k l ≡ Equal → bytes_eq k l ≡ true
equal_keys k l e = sym (is_eq-slice_cmp k l) ∙ ap is_eq e

-- a key that differs from one differs from its equal
differs_too : (q k l : List ℕ) → bytes_eq k l ≡ true → bytes_eq q k ≡ false → bytes_eq q l ≡ false
differs_too q k l same e = nat_list_eq_equiv.symm q l ∙ sym (nat_list_eq_equiv.congr k l q same) ∙ nat_list_eq_equiv.symm k q ∙ e

pub get_put : (k : List ℕ) (d : Data) (ms : Members) → get_member k (put k d ms) ≡ Some d
get_put k d no_members = rw (same_key k)
get_put k d (member l e ms) = by (slice_cmp nat_cmp k l) refl (get_put k d ms) where
  by : (o : Ordering) → slice_cmp nat_cmp k l ≡ o → get_member k (put k d ms) ≡ Some d → get_member k (match_ordering o (member k d (member l e ms)) (member l d ms) (member l e (put k d ms))) ≡ Some d
  by Less is more = rw (same_key k)
  by Equal is more = rw is
  by Greater is more = rw is more

pub get_other : (q k : List ℕ) (d : Data) (ms : Members) → bytes_eq q k ≡ false → get_member q (put k d ms) ≡ get_member q ms
get_other q k d no_members apart = passed (slice_cmp nat_cmp q k) None (Some d) (differs q k apart)
get_other q k d (member l e ms) apart = by (slice_cmp nat_cmp k l) refl (get_other q k d ms apart) where
  by : (o : Ordering) → slice_cmp nat_cmp k l ≡ o → get_member q (put k d ms) ≡ get_member q ms
      → get_member q (match_ordering o (member k d (member l e ms)) (member l d ms) (member l e (put k d ms))) ≡ get_member q (member l e ms)
  by Less is more = passed (slice_cmp nat_cmp q k) (get_member q (member l e ms)) (Some d) (differs q k apart)
  by Equal is more =
      let away : is_eq (slice_cmp nat_cmp q l) ≡ false = differs q l (differs_too q k l (equal_keys k l is) apart) in
      passed (slice_cmp nat_cmp q l) (get_member q ms) (Some d) away ∙ sym (passed (slice_cmp nat_cmp q l) (get_member q ms) (Some e) away)
  by Greater is more = ap (λ g. match_ordering (slice_cmp nat_cmp q l) g (Some e) g) more

-- a member of that name says what the version is
pub named : (k : List ℕ) (d : Data) (found : Members) → k ≡ word keys.Version → is_4_at (object (put k d found)) ≡ is_number_4 (number_of d)
unfolding field whole
named k d found is = rw (is, get_put (word keys.Version) d found) (go (number_of d)) where
  go : (o : Option ℕ) → is_version_4 (under (Key keys.Version) (or_fault o)) ≡ is_number_4 o
  go None = refl
  go (Some n) = refl

-- a member of another name says nothing of it
pub unnamed : (k : List ℕ) (d : Data) (found : Members) → bytes_eq (word keys.Version) k ≡ false → is_4_at (object (put k d found)) ≡ is_4_at (object found)
unfolding field
unnamed k d found apart = rw (get_other (word keys.Version) k d found apart)
