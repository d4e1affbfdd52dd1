-- The last samples of a list, as one more comes.
use Rattle.std.proofs.Common.{◌≡◌, ℕ, ◌+◌, ◌-◌, ◌≤◌, max, List, [], ◌∷◌, ◌++◌, length, drop, sym, ap, ◌∙◌, arith, length-append, length-drop}
use Rattle.std.specs.List.{fold, All}
use Rattle.std.proofs.lemmas.List.{drop-append-le, drop-drop}
use Rattle.std.proofs.lemmas.List.Elements.{All-head, All-tail, All-drop, All-push}
use Rattle.circular_buffer.specs.Buffer.{keep_last}
use Rattle.demand_estimate.specs.Estimate.{greatest, with_headroom, estimate}

-- the window slides over what was kept as it does over all samples
pub slides : (window : ℕ) (samples : List ℕ) (amount : ℕ) → keep_last window (keep_last window samples ++ amount ∷ []) ≡ keep_last window (samples ++ amount ∷ [])
slides window samples amount =
    let more = samples ++ amount ∷ [] in
    let gone = length samples - window in
    let kept : drop gone samples ++ amount ∷ [] ≡ drop gone more = sym (drop-append-le gone samples (amount ∷ []) (omega arith)) in
    let one_more : length more ≡ length samples + 1 = length-append samples (amount ∷ []) in
    let left : length (drop gone more) ≡ length more - gone = length-drop gone more in
    ap (keep_last window) kept ∙ drop-drop (length (drop gone more) - window) gone more
    ∙ ap (λ (n : ℕ). drop n more) (let sum : gone + (length (drop gone more) - window) ≡ length more - window = omega arith in sum)

below_from : (most : ℕ) (amount : ℕ) (samples : List ℕ) → amount ≤ most → All (λ sample. sample ≤ most) samples → fold max amount samples ≤ most
below_from most amount [] low all = low
below_from most amount (sample ∷ samples) low all =
    let first : sample ≤ most = All-head (λ sample. sample ≤ most) sample samples all in
    below_from most (max amount sample) samples (omega arith) (All-tail (λ sample. sample ≤ most) sample samples all)

pub greatest_below : (most : ℕ) (samples : List ℕ) → All (λ sample. sample ≤ most) samples → greatest samples ≤ most
unfolding greatest
greatest_below most samples all = below_from most 0 samples (omega arith) all

-- what the window has after one more sample
pub kept_below : (most window : ℕ) (samples : List ℕ) (amount : ℕ) → All (λ sample. sample ≤ most) samples → amount ≤ most → greatest (keep_last window (samples ++ amount ∷ [])) ≤ most
kept_below most window samples amount all low =
    greatest_below most (keep_last window (samples ++ amount ∷ [])) (All-drop (λ sample. sample ≤ most) (length (samples ++ amount ∷ []) - window) (samples ++ amount ∷ []) (All-push (λ sample. sample ≤ most) samples amount all low))

-- the estimate by what is kept is that of all samples
pub by_kept : (window headroom : ℕ) (kept samples : List ℕ) (amount : ℕ) → kept ≡ keep_last window samples → with_headroom headroom (greatest (keep_last window (kept ++ amount ∷ []))) ≡ estimate window headroom (samples ++ amount ∷ [])
unfolding estimate
by_kept window headroom kept samples amount e =
    ap (λ (known : List ℕ). with_headroom headroom (greatest (keep_last window (known ++ amount ∷ [])))) e
    ∙ ap (λ (last : List ℕ). with_headroom headroom (greatest last)) (slides window samples amount)
