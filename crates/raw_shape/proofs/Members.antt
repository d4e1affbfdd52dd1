-- The members of an object, and the two items of a point.
use Rattle.std.proofs.Common.{◌≡◌, ◌≢◌, List, [], ◌∷◌, length, get_or, None, option_map, option_and_then, String, Global, string_bytes, refl, ap, arith}
use Rattle.std.specs.Prelude.{◌||◌, ◌&&◌}
use Rattle.std.specs.List.{list_all}
use Rattle.std.specs.Map.{keys_of}
use Rattle.serde_json.specs.View.{view, items_view, members_view}
use Rattle.serde_json.specs.declared.value.Value.{Value}
use Rattle.raw_document.specs.declared.key.DocKey.{DocKey}
use Rattle.raw_document.specs.Shape.{is_one_of, has_only, number_of, pair_of}

pub has_only_members : (required others : List DocKey) (es : List (String Global × Value)) → has_only required others (members_view es) ≡ list_all (λ k. is_one_of required (string_bytes k) || is_one_of others (string_bytes k)) (keys_of es)
unfolding has_only
has_only_members required others [] = refl
has_only_members required others (e ∷ es) = ap (λ b. (is_one_of required (string_bytes e.0) || is_one_of others (string_bytes e.0)) && b) (has_only_members required others es)

pub pair_of_two : (vs : List Value) (a b : Value) → length vs ≡ 2 → a ≡ get_or vs 0 a → b ≡ get_or vs 1 b → pair_of (items_view vs) ≡ option_and_then (λ x. option_map (λ y. (x, y)) (number_of (view b))) (number_of (view a))
unfolding pair_of
pair_of_two [] a b h first second = absurd (omega arith)
pair_of_two (v ∷ []) a b h first second = absurd (omega arith)
pair_of_two (v ∷ w ∷ []) a b h first second = rw (first, second) refl
pair_of_two (v ∷ w ∷ u ∷ vs) a b h first second = absurd (omega arith)

pub pair_of_other : (vs : List Value) → length vs ≢ 2 → pair_of (items_view vs) ≡ None
unfolding pair_of
pair_of_other [] h = refl
pair_of_other (a ∷ []) h = refl
pair_of_other (a ∷ b ∷ []) h = absurd (h refl)
pair_of_other (a ∷ b ∷ c ∷ vs) h = refl
