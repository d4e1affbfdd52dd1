-- A loop that takes a state from item to item.
use Rattle.std.proofs.Common.{◌≡◌, ℕ, ◌+◌, ◌<◌, ◌≤◌, List, [], length, drop, map, get_or, Result, Ok, Err, sym, ap, ◌∙◌, add-one}
use Rattle.std.proofs.lemmas.List.{drop_all}
use Rattle.raw_document.specs.declared.doc_path.PathStep.{PathStep}
use Rattle.raw_document.specs.declared.doc_path.PathStep.TheVariants.{Index}
use Rattle.raw_document.specs.declared.doc_path.Fault.{Fault}
use Rattle.raw_document.specs.declared.doc_path.Fault.TheVariants.{OutOfMemory, At}
use Rattle.raw_document.specs.Reading.{◌>>=◌, under, fold_each, Fails, IsFaultUnder}
use Rattle.doc_passes.proofs.Loops.{drop_here}

module _ {V A S : Type 0} (view_of : V → A) (step : S → A → Result S (List PathStep)) where
  fold-drop : (vs : List V) (i : ℕ) (v : V) (s : S) → i < length vs → v ≡ get_or vs i v → fold_each step i s (map view_of (drop i vs)) ≡ (under (Index i) (step s (view_of v)) >>= λ t. fold_each step (i + 1) t (map view_of (drop (i + 1) vs)))
  unfolding fold_each
  fold-drop vs i v s within here = ap (λ rest. fold_each step i s (map view_of rest)) (drop_here vs i v within here) ∙ ap (λ k. under (Index i) (step s (view_of v)) >>= λ t. fold_each step k t (map view_of (drop (i + 1) vs))) (sym (add-one i))

  pub fold_later : (vs : List V) (i : ℕ) (v : V) (s t : S) (whole : Result S (List PathStep)) → i < length vs → v ≡ get_or vs i v → step s (view_of v) ≡ Ok t → fold_each step i s (map view_of (drop i vs)) ≡ whole → fold_each step (i + 1) t (map view_of (drop (i + 1) vs)) ≡ whole
  fold_later vs i v s t whole within here gives before = sym (ap (λ q. under (Index i) q >>= λ t. fold_each step (i + 1) t (map view_of (drop (i + 1) vs))) gives) ∙ sym (fold-drop vs i v s within here) ∙ before

  pub fold_fails : (vs : List V) (i : ℕ) (v : V) (s : S) (inner fault : Fault) (whole : Result S (List PathStep)) → i < length vs → v ≡ get_or vs i v → Fails inner (step s (view_of v)) → IsFaultUnder (Index i) inner fault → fold_each step i s (map view_of (drop i vs)) ≡ whole → Fails fault whole
  fold_fails vs i v s inner OutOfMemory whole within here fails is_under before = tt
  fold_fails vs i v s OutOfMemory (At path) whole within here fails is_under before = absurd is_under
  fold_fails vs i v s (At below) (At path) whole within here fails is_under before =
      sym before ∙ fold-drop vs i v s within here ∙ ap (λ q. under (Index i) q >>= λ t. fold_each step (i + 1) t (map view_of (drop (i + 1) vs))) fails ∙ ap Err (sym is_under)

  fold_of_none : (rest : List V) (i : ℕ) (s : S) → rest ≡ [] → fold_each step i s (map view_of rest) ≡ Ok s
  unfolding fold_each
  fold_of_none rest i s e = ap (λ r. fold_each step i s (map view_of r)) e

  pub fold_whole : (vs : List V) (i : ℕ) (s : S) (whole : Result S (List PathStep)) → length vs ≤ i → fold_each step i s (map view_of (drop i vs)) ≡ whole → whole ≡ Ok s
  fold_whole vs i s whole past before = sym before ∙ fold_of_none (drop i vs) i s (drop_all i vs past)
