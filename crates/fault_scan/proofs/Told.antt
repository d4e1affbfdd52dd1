-- What is told of a value is what its definition says.
use Rattle.std.proofs.Common.{◌≡◌, ℕ, List, [], ◌∷◌, ◌++◌, length, Result, Ok, Err, refl, sym, ap, ◌∙◌, subst, arith, inl, inr}
use Rattle.std.specs.Prelude.{◌+◌, ◌⊎◌, ⊤}
use Rattle.serde_json.specs.Data.{Data, array, object, Members, Items as SpecItems}
use Rattle.raw_document.specs.declared.doc_path.PathStep.{PathStep}
use Rattle.raw_document.specs.declared.doc_path.PathStep.TheVariants.{Index}
use Rattle.raw_document.specs.declared.doc_path.Fault.{Fault}
use Rattle.raw_document.specs.declared.doc_path.Fault.TheVariants.{OutOfMemory, At}
use Rattle.raw_document.specs.Reading.{under, each, Fails, IsFaultAt, IsUnder}
use Rattle.raw_document.specs.Shape.{whole, text, point, list_items}
use Rattle.raw_document.proofs.Lists.{under_gives}
use Rattle.fault_scan.specs.declared.kinds.Kind.{Kind}
use Rattle.fault_scan.specs.declared.kinds.Kind.TheVariants as kinds
use Rattle.fault_scan.specs.declared.kinds.Many.{Many}
use Rattle.fault_scan.specs.declared.kinds.Form.{Form}
use Rattle.fault_scan.specs.declared.items.Items.{Items}
use Rattle.fault_scan.specs.Kinds.{passed, version_at, at}
use Rattle.fault_scan.specs.Tables.{followed_by, item_at}
use Rattle.fault_scan.specs.Seen.{Tells, ItemsAre, earlier}
use Rattle.fault_scan.proofs.Lists.{each_push}
use Rattle.fault_scan.proofs.Forms.{many_by, many_other, form_other, entry_other}

pub here_tells : (fault : Fault) (r : Result ⊤ (List PathStep)) → IsFaultAt [] fault → r ≡ Err [] → Fails fault r
here_tells OutOfMemory r here is = tt
here_tells (At path) r here is = is ∙ ap Err (sym here)

module _ (read : Data → Result ⊤ (List PathStep)) (ds : List Data) (d : Data) (found below : Result ⊤ Fault) where
  pub next_tells : (first : Result ⊤ Fault) (n : ℕ) → length ds ≡ n → Tells first (passed (each read 0 ds)) → IsUnder (Index n) found below → Tells found (read d) → Tells (earlier first below) (passed (each read 0 (ds ++ d ∷ [])))
  next_tells (Ok u) n count before is_under tells =
      let here : Tells below (under (Index (length ds)) (read d)) = subst (λ k. Tells below (under (Index k) (read d))) (sym count) (under_gives (λ x. x) (Index n) (read d) found below tells is_under) in
      let place : 0 + length ds ≡ length ds = omega arith in
      let whole : passed (each read 0 (ds ++ d ∷ [])) ≡ under (Index (length ds)) (read d) =
      each_push read 0 ds d ∙ ap (λ r. followed_by r (under (Index (0 + length ds)) (read d))) before ∙ ap (λ k. under (Index k) (read d)) place in
      subst (λ r. Tells below r) (sym whole) here
  next_tells (Err OutOfMemory) n count before is_under tells = tt
  next_tells (Err (At path)) n count before is_under tells = each_push read 0 ds d ∙ ap (λ r. followed_by r (under (Index (0 + length ds)) (read d))) before

pub list_tells : (version : ℕ) (kind : Kind) (many : Many) (self : Items) (items : SpecItems) → kind ≡ kinds.List many → ItemsAre version (item_at kind) self (list_items items) → Tells self.found (at version kind (array items))
unfolding at item_at
list_tells version kind many self items is are = subst (λ k. ItemsAre version (item_at k) self (list_items items) → Tells self.found (at version k (array items))) (sym is) (λ these. subst (λ r. Tells self.found r) (sym (many_by version many items)) these.1) are

-- what is no list, and no value that may be one
pub other_array : (version : ℕ) (kind : Kind) (items : SpecItems)
    → (kind ≡ kinds.Text) ⊎ ((kind ≡ kinds.Whole) ⊎ ((kind ≡ kinds.Version) ⊎ (((form : Form) × (kind ≡ kinds.Object form)) ⊎ (kind ≡ kinds.Entry))))
    → at version kind (array items) ≡ Err []
unfolding at text whole version_at
other_array version kind items (inl is) = ap (λ k. at version k (array items)) is
other_array version kind items (inr (inl is)) = ap (λ k. at version k (array items)) is
other_array version kind items (inr (inr (inl is))) = ap (λ k. at version k (array items)) is
other_array version kind items (inr (inr (inr (inl is)))) = ap (λ k. at version k (array items)) is.1 ∙ form_other version is.0 (array items) refl
other_array version kind items (inr (inr (inr (inr is)))) = ap (λ k. at version k (array items)) is ∙ entry_other version (array items) refl

-- what is no object, and no value that may be one
pub other_object : (version : ℕ) (kind : Kind) (found : Members)
    → (kind ≡ kinds.Text) ⊎ ((kind ≡ kinds.Whole) ⊎ ((kind ≡ kinds.Version) ⊎ ((kind ≡ kinds.Point) ⊎ ((items : Many) × (kind ≡ kinds.List items)))))
    → at version kind (object found) ≡ Err []
unfolding at text whole version_at point
other_object version kind found (inl is) = ap (λ k. at version k (object found)) is
other_object version kind found (inr (inl is)) = ap (λ k. at version k (object found)) is
other_object version kind found (inr (inr (inl is))) = ap (λ k. at version k (object found)) is
other_object version kind found (inr (inr (inr (inl is)))) = ap (λ k. at version k (object found)) is
other_object version kind found (inr (inr (inr (inr is)))) = ap (λ k. at version k (object found)) is.1 ∙ many_other version is.0 (object found) refl
