-- A loop that builds a part of each item.
use Rattle.std.proofs.Common.{◌≡◌, ℕ, ◌+◌, ◌<◌, ◌≤◌, List, [], ◌∷◌, ◌++◌, length, drop, map, get_or, Option, Some, None, Result, Ok, Err, sym, ap, ◌∙◌, add-one, append_assoc}
use Rattle.std.specs.Option.{option_or}
use Rattle.std.specs.Global.{Vec}
use Rattle.std.proofs.lemmas.List.{drop_all, drop_more, append-nil, map_push}
use Rattle.raw_document.specs.declared.doc_path.PathStep.{PathStep}
use Rattle.raw_document.specs.declared.doc_path.PathStep.TheVariants.{Index}
use Rattle.cluster_parts.specs.declared.build_error.BuildError.{BuildError}
use Rattle.cluster_parts.specs.declared.build_error.BuildError.TheVariants.{OutOfMemory, Refused}
use Rattle.cluster_parts.specs.Functions.{RefusedFunction, below, first_refused}
use Rattle.cluster_parts.specs.Building.{NamesFunction, Builds, IsErrorUnder, IsBuiltUnder}

-- what was built, told from one step above
pub under_builds : {X Y : Type 0} (view : X → Y) (step : PathStep) (refused : Option RefusedFunction) (part : Y) (inner outer : Result X BuildError) → Builds view inner refused part → IsBuiltUnder step inner outer → Builds view outer (below step refused) part
under_builds view step refused part (Ok x) (Ok y) builds is = (ap (below step) builds.0, ap view is ∙ builds.1)
under_builds view step refused part (Ok x) (Err error) builds is = absurd is
under_builds view step refused part (Err error) (Ok y) builds is = absurd is
under_builds view step refused part (Err inner) (Err OutOfMemory) builds is = tt
under_builds view step refused part (Err OutOfMemory) (Err (Refused path cause)) builds is = absurd is
under_builds view step refused part (Err (Refused inner reason)) (Err (Refused path cause)) builds is =
    ap (below step) builds ∙ ap (λ p. Some (record { path = p; cause = reason })) (sym is.0) ∙ ap (λ c. Some (record { path = path.steps.items; cause = c })) (sym is.1)

module _ {V A T S : Type 0} (view_of : V → A) (spec_view : T → S) (refused : A → Option RefusedFunction) (part : A → S) where
  -- what was built so far is right, and nothing was refused
  pub record IsBuilding (vs : List V) (place : ℕ) (made : List T) : Type 0 where
    pub none : first_refused refused place (map view_of (drop place vs)) ≡ first_refused refused 0 (map view_of vs)
    pub parts : map spec_view made ++ map part (map view_of (drop place vs)) ≡ map part (map view_of vs)

  first_refused-drop : (vs : List V) (place : ℕ) (v : V) → place < length vs → v ≡ get_or vs place v
      → first_refused refused place (map view_of (drop place vs)) ≡ option_or (below (Index place) (refused (view_of v))) (first_refused refused (place + 1) (map view_of (drop (place + 1) vs)))
  unfolding first_refused
  first_refused-drop vs place v within here =
      ap (λ rest. first_refused refused place (map view_of rest)) (drop_more vs place v within ∙ ap (λ (u : V). u ∷ drop (place + 1) vs) (sym here))
      ∙ ap (λ k. option_or (below (Index place) (refused (view_of v))) (first_refused refused k (map view_of (drop (place + 1) vs)))) (sym (add-one place))

  pub building_later : (vs : List V) (place : ℕ) (v : V) (made : List T) (x : T) → place < length vs → v ≡ get_or vs place v
      → Builds spec_view (Ok x) (refused (view_of v)) (part (view_of v)) → IsBuilding vs place made → IsBuilding vs (place + 1) (made ++ x ∷ [])
  building_later vs place v made x within here built before = record {
    none = sym (ap (λ o. option_or (below (Index place) o) (first_refused refused (place + 1) (map view_of (drop (place + 1) vs)))) built.0) ∙ sym (first_refused-drop vs place v within here) ∙ before.none;
    parts = ap (λ ms. ms ++ map part (map view_of (drop (place + 1) vs))) (map_push spec_view made x)
        ∙ append_assoc (map spec_view made) (spec_view x ∷ []) (map part (map view_of (drop (place + 1) vs)))
        ∙ ap (λ s. map spec_view made ++ s ∷ map part (map view_of (drop (place + 1) vs))) built.1
        ∙ sym (ap (λ rest. map spec_view made ++ map part (map view_of rest)) (drop_more vs place v within ∙ ap (λ (u : V). u ∷ drop (place + 1) vs) (sym here)))
        ∙ before.parts;
  }

  refused_at : (vs : List V) (place : ℕ) (v : V) (made : List T) (found : RefusedFunction) → place < length vs → v ≡ get_or vs place v
      → refused (view_of v) ≡ Some found → IsBuilding vs place made → first_refused refused 0 (map view_of vs) ≡ Some (record { path = Index place ∷ found.path; cause = found.cause })
  refused_at vs place v made found within here is before =
      sym before.none ∙ first_refused-drop vs place v within here
      ∙ ap (λ o. option_or (below (Index place) o) (first_refused refused (place + 1) (map view_of (drop (place + 1) vs)))) is

  pub building_fails : (vs : List V) (place : ℕ) (v : V) (made : List T) (inner outer : BuildError) → place < length vs → v ≡ get_or vs place v
      → NamesFunction (refused (view_of v)) inner → IsErrorUnder (Index place) inner outer → IsBuilding vs place made → NamesFunction (first_refused refused 0 (map view_of vs)) outer
  building_fails vs place v made inner OutOfMemory within here names is before = tt
  building_fails vs place v made OutOfMemory (Refused path cause) within here names is before = absurd is
  building_fails vs place v made (Refused inner reason) (Refused path cause) within here names is before =
      refused_at vs place v made (record { path = inner.steps.items; cause = reason }) within here names before
      ∙ ap (λ p. Some (record { path = p; cause = reason })) (sym is.0) ∙ ap (λ c. Some (record { path = path.steps.items; cause = c })) (sym is.1)

  nothing_refused : (rest : List V) (place : ℕ) → rest ≡ [] → first_refused refused place (map view_of rest) ≡ None
  unfolding first_refused
  nothing_refused rest place e = ap (λ r. first_refused refused place (map view_of r)) e

  pub building_whole : (vs : List V) (place : ℕ) (made : Vec T) → length vs ≤ place → IsBuilding vs place made.items
      → Builds (λ (found : Vec T). map spec_view found.items) (Ok made) (first_refused refused 0 (map view_of vs)) (map part (map view_of vs))
  building_whole vs place made past before =
      let none : drop place vs ≡ [] = drop_all place vs past in (
        sym before.none ∙ nothing_refused (drop place vs) place none,
        sym (append-nil (map spec_view made.items)) ∙ sym (ap (λ rest. map spec_view made.items ++ map part (map view_of rest)) none) ∙ before.parts,
      )
