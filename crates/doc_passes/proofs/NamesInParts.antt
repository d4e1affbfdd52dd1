-- Names of which the first stand apart from those after them.
use Rattle.std.proofs.Common.{◌≡◌, ℕ, Bool, true, false, cond, List, [], ◌∷◌, ◌++◌, Bor, Result, Ok, Err, refl, sym, ap, ◌∙◌, append_assoc, append-nil}
use Rattle.std.specs.Prelude.{◌||◌}
use Rattle.std.specs.List.{list_any}
use Rattle.std.specs.Str.{bytes_eq}
use Rattle.std.proofs.lemmas.List.{map_push}
use Rattle.std.proofs.lemmas.List.Folds.{list_any-append}
use Rattle.raw_document.specs.declared.doc_path.Fault.{Fault}
use Rattle.raw_document.specs.declared.doc_path.Fault.TheVariants.{OutOfMemory, At}
use Rattle.raw_document.specs.declared.doc_path.PathStep.{PathStep}
use Rattle.raw_document.specs.Reading.{Fails, Gives, IsFaultAt}
use Rattle.raw_document.specs.Raw.{name_view}
use Rattle.doc_passes.specs.Names.{fresh}
use Rattle.doc_passes.proofs.NameTables.{texts, fails_here}

-- names behind others, where they were found
abbrev behind : List (List ℕ) → Result (List (List ℕ)) (List PathStep) → Result (List (List ℕ)) (List PathStep)
behind first (Ok more) = Ok (first ++ more)
behind first (Err path) = Err path

any_in_parts : (name : List ℕ) (first more : List (List ℕ)) → list_any (bytes_eq name) first ≡ false → list_any (bytes_eq name) (first ++ more) ≡ list_any (bytes_eq name) more
any_in_parts name first more absent = list_any-append (bytes_eq name) first more ∙ ap (λ b. b || list_any (bytes_eq name) more) absent

-- a name that is not among the first
fresh_behind : (first more : List (List ℕ)) (name : List ℕ) → list_any (bytes_eq name) first ≡ false → fresh (first ++ more) name ≡ behind first (fresh more name)
unfolding fresh
fresh_behind first more name absent =
    ap (λ b. cond b (Err []) (Ok ((first ++ more) ++ name ∷ []))) (any_in_parts name first more absent) ∙ by (list_any (bytes_eq name) more) where
      by : (b : Bool) → ◌≡◌ {A = Result (List (List ℕ)) (List PathStep)} (cond {A = Result (List (List ℕ)) (List PathStep)} b (Err []) (Ok ((first ++ more) ++ name ∷ []))) (behind first (cond {A = Result (List (List ℕ)) (List PathStep)} b (Err []) (Ok (more ++ name ∷ []))))
      by true = refl
      by false = ap Ok (append_assoc first more (name ∷ []))

pub later_gives : (first more after : List (List ℕ)) (name : List ℕ) (r : Result (Unit {0}) Fault) → list_any (bytes_eq name) first ≡ false → Gives (λ _. after) r (fresh more name) → Gives (λ _. first ++ after) r (fresh (first ++ more) name)
later_gives first more after name (Ok u) absent gives = fresh_behind first more name absent ∙ ap (behind first) gives
later_gives first more after name (Err OutOfMemory) absent gives = tt
later_gives first more after name (Err (At path)) absent gives = fresh_behind first more name absent ∙ ap (behind first) gives

-- none stand after the first
pub first_gives : (ks pushed : List (Bor (List ℕ))) (more : List (List ℕ)) (name : Bor (List ℕ)) → list_any (bytes_eq name.now) (texts ks) ≡ false → more ≡ [] → pushed ≡ ks ++ name ∷ [] → fresh (texts ks ++ more) name.now ≡ Ok (texts pushed ++ more)
unfolding fresh
first_gives ks pushed more name absent none is = rw none (
    fresh_behind (texts ks) [] name.now absent
    ∙ ap Ok (sym (append-nil (texts pushed) ∙ ap texts is ∙ map_push name_view ks name)))

pub there_fails : (first more : List (List ℕ)) (name : List ℕ) (fault : Fault) → list_any (bytes_eq name) first ≡ true → IsFaultAt [] fault → Fails fault (fresh (first ++ more) name)
unfolding fresh
there_fails first more name fault there at = fails_here (fresh (first ++ more) name) fault
    (ap (λ b. cond b (Err []) (Ok ((first ++ more) ++ name ∷ []))) (list_any-append (bytes_eq name) first more ∙ ap (λ b. b || list_any (bytes_eq name) more) there)) at
