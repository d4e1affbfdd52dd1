-- Each task is of one group, which the numbers of the first tasks tell.
use Rattle.std.proofs.Common.{◌≡◌, ℕ, zero, suc, ◌+◌, ◌<◌, ◌≤◌, List, [], ◌∷◌, length, get_or, take, flat_map, inl, inr, ap, sym, ◌∙◌, arith}
use Rattle.std.specs.Prelude.{Contains}
use Rattle.std.specs.List.{range_with_len}
use Rattle.std.proofs.lemmas.Bool.{cases_lt}
use Rattle.std.proofs.lemmas.List.{get_or_default, length-append}
use Rattle.std.proofs.lemmas.List.Concat.{get_or-flat_map}
use Rattle.std.proofs.lemmas.List.Folds.{length-flat_map-take}
use Rattle.std.proofs.lemmas.List.FromFn.{get_or-range_with_len, length-range_with_len}
use Rattle.bwe_specs.specs.Tree.{Cluster}
use Rattle.policy_tree.specs.Trees.{cluster_numbers, task_numbers}
use Rattle.policy_tree.proofs.Counting.{flat_map-more}

-- more places have no fewer
grows : {X : Type 0} (f : X → List ℕ) (xs : List X) (i j : ℕ) → i ≤ j → length (flat_map f (take i xs)) ≤ length (flat_map f (take j xs))
grows f xs zero j le = omega arith
grows f [] (suc i) j le = omega arith
grows f (x ∷ xs) (suc i) zero le = absurd (omega arith)
grows f (x ∷ xs) (suc i) (suc j) le =
    omega (arith, length-append (f x) (flat_map f (take i xs)), length-append (f x) (flat_map f (take j xs)), grows f xs i j (omega arith))

-- where there is a task there is a group
pub some-group : (clusters : List Cluster) (task : ℕ) → task < length (task_numbers clusters) → 0 < length clusters
some-group [] task lt = absurd (omega arith)
some-group (cluster ∷ clusters) task lt = omega arith

module _ (clusters : List Cluster) (count : ℕ) (numbers : task_numbers clusters ≡ range_with_len 0 count) where
  -- how many tasks come before a group
  abbrev before : ℕ → ℕ
  before group = length (task_numbers (take group clusters))

  -- a task of a group is behind all before it, and before all behind it
  record IsBetween (first next task : ℕ) : Type 0 where
    low : first ≤ task
    high : task < next

  between : (group task : ℕ) (d : Cluster) → group < length clusters → Contains (cluster_numbers (get_or clusters group d)) task → IsBetween (before group) (before (group + 1)) task
  between group task d lt (k, within, read) =
      let here : get_or (task_numbers clusters) (before group + k) task ≡ task = get_or-flat_map cluster_numbers clusters group k d task lt within ∙ read in
      let all = length-flat_map-take cluster_numbers clusters group d lt in
      let size : length (task_numbers clusters) ≡ count = ap (λ (list : List ℕ). length list) numbers ∙ length-range_with_len 0 count in
      let value : get_or (range_with_len 0 count) (before group + k) task ≡ 0 + (before group + k) = get_or-range_with_len 0 count (before group + k) task (omega (arith, all, size, within)) in
      let is : task ≡ 0 + (before group + k) = sym here ∙ ap (λ (list : List ℕ). get_or list (before group + k) task) numbers ∙ value in
      let x : Cluster = get_or clusters group d in
      let next = ap (λ (list : List ℕ). length list) (flat_map-more cluster_numbers clusters group x lt (get_or_default clusters group d x lt)) ∙ length-append (task_numbers (take group clusters)) (cluster_numbers x) in
      record { low = omega (arith, is); high = omega (arith, is, next, within) }

  -- the group whose first task is not behind the task, while the next one's is
  pub owner-is : (task low high : ℕ) → before low ≤ task → (high < length clusters → task < before high) → high ≤ low + 1
      → (group : ℕ) (d : Cluster) → group < length clusters → Contains (cluster_numbers (get_or clusters group d)) task → group ≡ low
  owner-is task low high from upto near group d lt inside =
      let is = between group task d lt inside in
      elim (cases_lt group low) [
        | inl less ↦ absurd (omega (arith, is.high, from, grows cluster_numbers clusters (group + 1) low (omega arith)))
        | inr ge ↦
            elim (cases_lt low group) [
              | inl more ↦ absurd (omega (arith, is.low, upto (omega arith), grows cluster_numbers clusters high group (omega arith)))
              | inr le ↦ omega arith
            ]
      ]
