-- The greatest share at which a node's value is at most an amount.
use Rattle.std.proofs.Common.{◌≡◌, ℕ, ◌+◌, ◌-◌, ◌<◌, ◌≤◌, Option, Some, None, IfSome, inl, inr, Bool, true, List, [], ◌∷◌, length, get_or, map, sym, ◌∙◌, ap, arith, le_refl, nat_le, leb-true, leb-false, le-leb}
use Rattle.std.proofs.Math.Path.{fun_ext}
use Rattle.std.proofs.lemmas.Bool.{cases_lt}
use Rattle.bwe_specs.specs.Bounded.{greatest_upto}
use Rattle.bwe_specs.specs.FunctionValue.{function_value}
use Rattle.bwe_specs.specs.Distribution.{children_sum}
use Rattle.bwe_specs.specs.Tree.{inner_share}
use Rattle.bwe_specs.proofs.Bounds.{greatest-le, greatest-passes, greatest-above, greatest-found, over_false}
use Rattle.bwe_specs.proofs.ShareFunctions.{inner_share-fits, inner_share-le, inner_share-greatest}
use Rattle.bw_function.specs.BwFunction.{Function}
use Rattle.function_sum.specs.Meaning.{IsMeaning}

-- what is known of the greatest share at which a sum is at most an amount
pub record IsInner (sum : ℕ → ℕ) (amount end inner : ℕ) : Type 0 where
  pub upto : inner ≤ end
  pub fits : sum inner ≤ amount
  pub over : inner < end → amount < sum (inner + 1)

pub inner-is : (sum : ℕ → ℕ) (amount end inner : ℕ) → IsMeaning sum → inner ≡ greatest_upto end (λ t. nat_le (sum t) amount) → IsInner sum amount end inner
inner-is sum amount end inner is e =
    let test : ℕ → Bool = λ t. nat_le (sum t) amount in
    let passes : nat_le (sum (greatest_upto end (λ t. nat_le (sum t) amount))) amount ≡ true =
    greatest-passes end (λ t. nat_le (sum t) amount) (le-leb (sum 0) amount (omega (arith, is.starts))) in
    record {
      upto = omega (arith, e, greatest-le end (λ t. nat_le (sum t) amount));
      fits = leb-true (sum inner) amount (ap (λ i. nat_le (sum i) amount) e ∙ passes);
      over = λ lt. leb-false (sum (inner + 1)) amount (greatest-above end (λ t. nat_le (sum t) amount) (inner + 1) (omega (arith, e)) (omega arith));
    }

-- the sum never gets past the amount
pub last-whole : (function : Function) (sum : ℕ → ℕ) (amount top inner : ℕ) → IsMeaning sum → IsInner sum amount function.top inner → inner ≡ function.top
    → top ≡ greatest_upto top (λ share. nat_le (sum (inner_share function.top function.points sum share)) amount)
last-whole function sum amount top inner is at e =
    let most : (share : ℕ) → sum (inner_share function.top function.points sum share) ≤ amount =
    λ share. omega (arith, is.grows (inner_share function.top function.points sum share) inner (omega (arith, inner_share-le function.top function.points sum share, e)), at.fits) in
    sym (greatest-found top (λ share. nat_le (sum (inner_share function.top function.points sum share)) amount) top (le-leb _ amount (most 0)) (le_refl top) (le-leb _ amount (most top)) (λ share above within. absurd (omega arith)))

-- the sum gets past it where the function gives the sum at the share after the inner one
pub last-past : (function : Function) (sum : ℕ → ℕ) (amount top inner next : ℕ) → IsMeaning sum → IsInner sum amount function.top inner → inner < function.top → next ≡ sum (inner + 1)
    → greatest_upto top (λ share. nat_le (function_value function.points share) (next - 1)) ≡ greatest_upto top (λ share. nat_le (sum (inner_share function.top function.points sum share)) amount)
last-past function sum amount top inner next is at lt given =
    let over : amount < sum (inner + 1) = at.over lt in
    let low : (share : ℕ) → function_value function.points share < sum (inner + 1) → sum (inner_share function.top function.points sum share) ≤ amount =
    λ share less.
    let fits = inner_share-fits function.top function.points sum share is.starts in
    let before : inner_share function.top function.points sum share ≤ inner =
    elim (cases_lt inner (inner_share function.top function.points sum share)) [
      | inl above ↦ absurd (omega (arith, is.grows (inner + 1) (inner_share function.top function.points sum share) (omega (arith, above)), fits, less))
      | inr within ↦ within
    ] in
    omega (arith, is.grows (inner_share function.top function.points sum share) inner before, at.fits) in
    let high : (share : ℕ) → sum (inner + 1) ≤ function_value function.points share → amount < sum (inner_share function.top function.points sum share) =
    λ share enough.
    let reached = inner_share-greatest function.top function.points sum share (inner + 1) (omega arith) enough in
    omega (arith, is.grows (inner + 1) (inner_share function.top function.points sum share) reached, over) in
    ap (greatest_upto top)
    (fun_ext (λ (share : ℕ).
    elim (cases_lt (function_value function.points share) (sum (inner + 1))) [
      | inl less ↦
          le-leb (function_value function.points share) (next - 1) (omega (arith, less, given, over))
          ∙ sym (le-leb (sum (inner_share function.top function.points sum share)) amount (low share less))
      | inr enough ↦
          over_false (function_value function.points share) (next - 1) (omega (arith, enough, given, over))
          ∙ sym (over_false (sum (inner_share function.top function.points sum share)) amount (high share enough))
    ]))

-- a single child is the sum
pub single-sum : {X : Type 0} (meaning : X → ℕ → ℕ) (nodes : List X) (d : X) → length nodes ≡ 1 → (share : ℕ) → meaning (get_or nodes 0 d) share ≡ children_sum (map meaning nodes) share
single-sum meaning [] d e share = absurd (omega arith)
single-sum meaning (node ∷ []) d e share = omega arith
single-sum meaning (node ∷ (other ∷ nodes)) d e share = absurd (omega arith)

pub single-last : {X : Type 0} (meaning : X → ℕ → ℕ) (nodes : List X) (d : X) (amount top : ℕ) → length nodes ≡ 1
    → greatest_upto top (λ share. nat_le (meaning (get_or nodes 0 d) share) amount) ≡ greatest_upto top (λ share. nat_le (children_sum (map meaning nodes) share) amount)
single-last meaning nodes d amount top e = ap (λ (f : ℕ → ℕ). greatest_upto top (λ share. nat_le (f share) amount)) (fun_ext (λ (share : ℕ). single-sum meaning nodes d e share))

-- the same share by another name
pub if-some-same : (found : Option ℕ) (share other : ℕ) → share ≡ other → IfSome found (λ last. last ≡ share) → IfSome found (λ last. last ≡ other)
if-some-same (Some last) share other same is = is ∙ same
if-some-same None share other same is = is
