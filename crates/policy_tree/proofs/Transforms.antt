-- The value of a node with a configured function is a share function.
use Rattle.std.proofs.Common.{◌≡◌, ℕ, ◌≤◌, min, Bool, true, false, List, [], ◌∷◌, Option, Some, None, refl, ◌∙◌, ap, inl, inr, arith, nat_le, nat_lt, ltb-true, if◌then◌else◌, sym}
use Rattle.std.proofs.lemmas.Bool.{cases_lt}
use Rattle.bwe_specs.specs.Bounded.{greatest_upto}
use Rattle.bwe_specs.specs.FunctionValue.{Point, between, value_from, function_value, Rises, IsFunction, last_from, last_amount}
use Rattle.bwe_specs.specs.Tree.{inner_share}
use Rattle.bwe_specs.proofs.ShareFunctions.{inner_share-fits, inner_share-le, inner_share-greatest}
use Rattle.bw_function.specs.BwFunction.{Function, IsBwFunction}
use Rattle.function_sum.specs.Meaning.{IsMeaning}
use Rattle.function_sum.proofs.Functions.{function-meaning}
use Rattle.tree_spec.specs.States.{transformed}
use Rattle.policy_tree.specs.States.{IsKeptFunction}

-- from the top on a function has its last amount
value_from-past_top : (from : Point) (later : List Point) (top share : ℕ) → Rises from later top → top ≤ share → value_from from later share ≡ last_from from later
unfolding value_from
value_from-past_top from [] top share rises past = refl
value_from-past_top from (next ∷ later) top share rises past =
    go (nat_lt share next.share) refl (value_from-past_top next later top share rises.3 past) where
      go : (b : Bool) → nat_lt share next.share ≡ b → value_from next later share ≡ last_from next later
          → (if b then between from next share else value_from next later share) ≡ last_from next later
      go true e rest = absurd (omega (arith, ltb-true share next.share e, rises.1))
      go false e rest = rest

function_value-past_top : (points : List Point) (top share : ℕ) → IsFunction points top → top ≤ share → function_value points share ≡ last_amount points
unfolding function_value
function_value-past_top [] top share is past = absurd is
function_value-past_top (first ∷ later) top share is past = value_from-past_top first later top share is.2 past

-- so past the top it stays as at the top
function_value-min_top : (points : List Point) (top share : ℕ) → IsFunction points top → function_value points (min share top) ≡ function_value points share
function_value-min_top points top share is =
    elim (cases_lt share top) [
      | inl below ↦ let e : min share top ≡ share = omega arith in ap (function_value points) e
      | inr past ↦
          let e : min share top ≡ top = omega arith in
          ap (function_value points) e ∙ function_value-past_top points top top is (omega arith) ∙ sym (function_value-past_top points top share is past)
    ]

pub inner_share-min_top : (function : Function) → IsBwFunction function → (sum : ℕ → ℕ) (share : ℕ)
    → inner_share function.top function.points sum (min share function.top) ≡ inner_share function.top function.points sum share
unfolding inner_share
inner_share-min_top function kept sum share =
    ap (λ most. greatest_upto function.top (λ t. nat_le (sum t) most)) (function_value-min_top function.points function.top share kept.points)

-- a share function stays one
pub transformed-meaning : (configured : Option Function) (sum : ℕ → ℕ) → IsKeptFunction configured → IsMeaning sum → IsMeaning (transformed configured sum)
unfolding transformed
transformed-meaning None sum kept is = record { starts = is.starts; grows = is.grows; bound = is.bound }
transformed-meaning (Some function) sum kept is =
    let parent = function-meaning function kept in
    let inner = inner_share function.top function.points sum in
    let fits : (share : ℕ) → sum (inner share) ≤ function_value function.points share = λ share. inner_share-fits function.top function.points sum share is.starts in
    record {
      starts = omega (arith, fits 0, parent.starts);
      grows = λ s t le.
          is.grows (inner s) (inner t)
          (inner_share-greatest function.top function.points sum t (inner s) (inner_share-le function.top function.points sum s) (omega (arith, fits s, parent.grows s t le)));
      bound = λ share. is.bound (inner share);
    }

pub transformed-none : (sum : ℕ → ℕ) (share : ℕ) → transformed None sum share ≡ sum share
unfolding transformed
transformed-none sum share = refl

pub transformed-some : (function : Function) (sum : ℕ → ℕ) (share : ℕ) → transformed (Some function) sum share ≡ sum (inner_share function.top function.points sum share)
unfolding transformed
transformed-some function sum share = refl
