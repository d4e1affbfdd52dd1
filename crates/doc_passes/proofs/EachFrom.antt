-- A loop that reads items from a place on, and keeps what it found.
use Rattle.std.proofs.Common.{◌≡◌, ℕ, ◌+◌, ◌<◌, ◌≤◌, List, [], ◌∷◌, ◌++◌, length, drop, map, get_or, Result, Ok, Err, refl, sym, ap, ◌∙◌, append_assoc, append-nil, add-one}
use Rattle.std.proofs.lemmas.List.{drop_all, get_or_default}
use Rattle.raw_document.specs.declared.doc_path.PathStep.{PathStep}
use Rattle.raw_document.specs.declared.doc_path.PathStep.TheVariants.{Index}
use Rattle.raw_document.specs.declared.doc_path.Fault.{Fault}
use Rattle.raw_document.specs.declared.doc_path.Fault.TheVariants.{OutOfMemory, At}
use Rattle.raw_document.specs.Reading.{◌>>=◌, under, each, Fails, IsFaultUnder}
use Rattle.doc_passes.proofs.Loops.{drop_here}

-- what is read later, behind what was found before
abbrev pub behind : {B : Type 0} → List B → Result (List B) (List PathStep) → Result (List B) (List PathStep)
behind found later = later >>= λ xs. Ok (found ++ xs)

pub behind_none : {B : Type 0} (later : Result (List B) (List PathStep)) → later ≡ behind [] later
behind_none (Ok xs) = refl
behind_none (Err path) = refl

behind-one : {B : Type 0} (found : List B) (x : B) (later : Result (List B) (List PathStep)) → behind found (later >>= λ xs. Ok (x ∷ xs)) ≡ behind (found ++ x ∷ []) later
behind-one found x (Ok xs) = ap Ok (sym (append_assoc found (x ∷ []) xs))
behind-one found x (Err path) = refl

module _ {V A B : Type 0} (view_of : V → A) (read : A → Result B (List PathStep)) where
  each-drop : (vs : List V) (i : ℕ) (v : V) → i < length vs → v ≡ get_or vs i v → each read i (map view_of (drop i vs)) ≡ (under (Index i) (read (view_of v)) >>= λ x. each read (i + 1) (map view_of (drop (i + 1) vs)) >>= λ xs. Ok (x ∷ xs))
  unfolding each
  each-drop vs i v within here = ap (λ rest. each read i (map view_of rest)) (drop_here vs i v within here) ∙ ap (λ k. under (Index i) (read (view_of v)) >>= λ x. each read k (map view_of (drop (i + 1) vs)) >>= λ xs. Ok (x ∷ xs)) (sym (add-one i))

  -- the item at hand was read with a default
  item_here : (vs : List V) (i : ℕ) (d : V) (q : Result B (List PathStep)) → i < length vs → read (view_of (get_or vs i d)) ≡ q → each read i (map view_of (drop i vs)) ≡ (under (Index i) q >>= λ x. each read (i + 1) (map view_of (drop (i + 1) vs)) >>= λ xs. Ok (x ∷ xs))
  item_here vs i d q within is =
      each-drop vs i (get_or vs i d) within (get_or_default vs i d (get_or vs i d) within) ∙ ap (λ r. under (Index i) r >>= λ x. each read (i + 1) (map view_of (drop (i + 1) vs)) >>= λ xs. Ok (x ∷ xs)) is

  pub each_later : (vs : List V) (i : ℕ) (d : V) (found : List B) (x : B) (whole : Result (List B) (List PathStep)) → i < length vs → read (view_of (get_or vs i d)) ≡ Ok x → whole ≡ behind found (each read i (map view_of (drop i vs))) → whole ≡ behind (found ++ x ∷ []) (each read (i + 1) (map view_of (drop (i + 1) vs)))
  each_later vs i d found x whole within is before = before ∙ ap (behind found) (item_here vs i d (Ok x) within is) ∙ behind-one found x (each read (i + 1) (map view_of (drop (i + 1) vs)))

  pub each_fails : (vs : List V) (i : ℕ) (d : V) (found : List B) (inner fault : Fault) (whole : Result (List B) (List PathStep)) → i < length vs → Fails inner (read (view_of (get_or vs i d))) → IsFaultUnder (Index i) inner fault → whole ≡ behind found (each read i (map view_of (drop i vs))) → Fails fault whole
  each_fails vs i d found inner OutOfMemory whole within fails is_under before = tt
  each_fails vs i d found OutOfMemory (At path) whole within fails is_under before = absurd is_under
  each_fails vs i d found (At below) (At path) whole within fails is_under before = before ∙ ap (behind found) (item_here vs i d (Err below.steps.items) within fails) ∙ ap Err (sym is_under)

  each_of_none : (rest : List V) (i : ℕ) → rest ≡ [] → each read i (map view_of rest) ≡ Ok []
  unfolding each
  each_of_none rest i e = ap (λ r. each read i (map view_of r)) e

  pub each_whole : (vs : List V) (i : ℕ) (found : List B) (whole : Result (List B) (List PathStep)) → length vs ≤ i → whole ≡ behind found (each read i (map view_of (drop i vs))) → whole ≡ Ok found
  each_whole vs i found whole past before = before ∙ ap (behind found) (each_of_none (drop i vs) i (drop_all i vs past)) ∙ ap Ok (append-nil found)
