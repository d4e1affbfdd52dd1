-- The greatest amount per weight at which a sum of capped values is at most an amount.
use Rattle.std.proofs.Math.ListN.{set}
use Rattle.std.proofs.Common.{◌≢◌, eq-or-lt_of_le, get_or-set_same, get_or-set_other, ◌≡◌, ℕ, zero, suc, ◌+◌, ◌-◌, ◌*◌, ◌/◌, ◌<◌, ◌≤◌, ◌⊎◌, inl, inr, List, [], ◌∷◌, length, get_or, take, sum_by, refl, sym, ◌∙◌, ap, arith, le_refl, subst, mul_comm}
use Rattle.std.proofs.Math.Nat.{le-div_iff_mul-le, div-lt_iff_lt-mul}
use Rattle.std.proofs.lemmas.Bool.{cases_lt}
use Rattle.std.proofs.lemmas.List.{take_all}
use Rattle.std.proofs.lemmas.List.Sums.{sum_by-cons}
use Rattle.tree_spec.specs.declared.task.Task.{Task}
use Rattle.tree_spec.specs.Tasks.{AreInRange}
use Rattle.capped_sum.specs.declared.index.RankedTask.{RankedTask}
use Rattle.capped_sum.specs.declared.index.SumsBefore.{SumsBefore}
use Rattle.capped_sum.specs.Index.{capped, IsIndexOf, AreSumsWhenFull, IsMost}
use Rattle.capped_sum.proofs.Sums.{ranked_capped, IsFound, found, sum-ranked}
use Rattle.capped_sum.proofs.Meanings.{capped-grows, capped-none}

-- no more than whole demands before a place and weights from there on
split-le : (per_weight k : ℕ) (ranked : List RankedTask)
    → sum_by (ranked_capped per_weight) ranked + sum_by (λ task. task.weight) (take k ranked) * per_weight ≤ sum_by (λ task. task.demand) (take k ranked) + sum_by (λ task. task.weight) ranked * per_weight
split-le per_weight zero [] = le_refl _
split-le per_weight (suc k) [] = le_refl _
split-le per_weight zero (task ∷ ranked) =
    let rest : sum_by (ranked_capped per_weight) ranked + 0 * per_weight ≤ 0 + sum_by (λ task. task.weight) ranked * per_weight = split-le per_weight zero ranked in
    omega (arith, sum_by-cons (ranked_capped per_weight) task ranked, sum_by-cons (λ t. t.weight) task ranked, ap (λ w. w * per_weight) (sum_by-cons (λ t. t.weight) task ranked), rest)
split-le per_weight (suc k) (task ∷ ranked) =
    let rest = split-le per_weight k ranked in
    omega (arith, sum_by-cons (ranked_capped per_weight) task ranked, ap (λ w. w * per_weight) (sum_by-cons (λ t. t.weight) task ranked), ap (λ w. w * per_weight) (sum_by-cons (λ t. t.weight) task (take k ranked)), sum_by-cons (λ t. t.demand) task (take k ranked), rest)

full_at-same : (ranked : List RankedTask) (k : ℕ) (d e : RankedTask) → k < length ranked → (get_or ranked k d).full_at ≡ (get_or ranked k e).full_at
full_at-same [] k d e lt = absurd (omega arith)
full_at-same (task ∷ ranked) zero d e lt = refl
full_at-same (task ∷ ranked) (suc k) d e lt = full_at-same ranked k d e (omega arith)

-- the amounts at which tasks are full never fall along their places
full-rises : (tasks : List Task) (ranked : List RankedTask) (before : List SumsBefore) → IsIndexOf tasks ranked before
    → (i j : ℕ) (d : RankedTask) → i ≤ j → j < length ranked → (get_or ranked i d).full_at ≤ (get_or ranked j d).full_at
full-rises tasks ranked before index i j d le lt = index.ranks.order i j d le lt

pub full-partitioned : (tasks : List Task) (ranked : List RankedTask) (before : List SumsBefore) (when_full : List ℕ) (amount : ℕ) → IsIndexOf tasks ranked before → AreSumsWhenFull tasks ranked when_full
    → (i j : ℕ) (d : ℕ) → i ≤ j → j < length when_full → get_or when_full i d ≤ get_or when_full j d
full-partitioned tasks ranked before when_full amount index full i j d le lt =
    let none : RankedTask = record { full_at = 0; weight = 0; demand = 0 } in
    let within : j < length ranked = omega (arith, full.size) in
    omega (
      arith,
      full.sums i d none (omega arith),
      full.sums j d none within,
      capped-grows (get_or ranked i none).full_at (get_or ranked j none).full_at (full-rises tasks ranked before index i j none le within) tasks,
    )

-- one sum more is written
pub sums-more : (tasks : List Task) (ranked : List RankedTask) (when_full : List ℕ) (i value : ℕ) (none : RankedTask) → i < length when_full → i < length ranked
    → value ≡ sum_by (capped (get_or ranked i none).full_at) tasks
    → ((k : ℕ) (d : ℕ) (e : RankedTask) → k < i → get_or when_full k d ≡ sum_by (capped (get_or ranked k e).full_at) tasks)
    → (k : ℕ) (d : ℕ) (e : RankedTask) → k < i + 1 → get_or (set when_full i value) k d ≡ sum_by (capped (get_or ranked k e).full_at) tasks
sums-more tasks ranked when_full i value none lt within here below k d e le =
    let cases : (k ≡ i) ⊎ (k < i) = eq-or-lt_of_le (omega arith) in
    elim cases [
      | inl same ↦
          let at : get_or (set when_full i value) i d ≡ value = rw get_or-set_same refl in
          subst (λ j. get_or (set when_full i value) j d ≡ sum_by (capped (get_or ranked j e).full_at) tasks) (sym same)
          (at ∙ here ∙ ap (λ full_at. sum_by (capped full_at) tasks) (full_at-same ranked i none e within))
      | inr l ↦
          let ne : k ≢ i = omega arith in
          let at : get_or (set when_full i value) k d ≡ get_or when_full k d = rw get_or-set_other refl in
          at ∙ below k d e l
    ]

-- what is left over the whole demands before a place, shared by the weights from there on
pub record IsFoundMost (tasks : List Task) (amount : ℕ) (all here : SumsBefore) : Type 0 where
  pub weights : here.weights < all.weights
  pub demands : here.demands ≤ amount
  pub most : IsMost tasks amount ((amount - here.demands) / (all.weights - here.weights))

-- the sums before a place, and the sum at least at an amount per weight
upper : (tasks : List Task) (ranked : List RankedTask) (before : List SumsBefore) (per_weight full : ℕ) (all here : SumsBefore) → IsIndexOf tasks ranked before → full ≤ length ranked
    → here ≡ get_or before full here → all ≡ get_or before (length ranked) all
    → sum_by (capped per_weight) tasks + here.weights * per_weight ≤ here.demands + all.weights * per_weight
upper tasks ranked before per_weight full all here index within at_here at_all =
    let split = split-le per_weight full ranked in
    let weight : here.weights ≡ sum_by (λ t. t.weight) (take full ranked) = ap (λ b. b.weights) at_here ∙ index.sums.weights full here within in
    let demand : here.demands ≡ sum_by (λ t. t.demand) (take full ranked) = ap (λ b. b.demands) at_here ∙ index.sums.demands full here within in
    let whole : all.weights ≡ sum_by (λ t. t.weight) ranked = ap (λ b. b.weights) at_all ∙ index.sums.weights (length ranked) all (le_refl _) ∙ ap (sum_by (λ t. t.weight)) (take_all (length ranked) ranked (le_refl _)) in
    let total : sum_by (ranked_capped per_weight) ranked ≡ sum_by (capped per_weight) tasks = sum-ranked (ranked_capped per_weight) tasks ranked index.ranks.moved in
    omega (arith, split, demand, total, ap (λ w. w * per_weight) weight, ap (λ w. w * per_weight) whole)

-- by plain numbers: a stretch on which the sum rises by the weights
most-on : (f : ℕ → ℕ) (amount low end demands weights : ℕ) → ((a b : ℕ) → a ≤ b → f a ≤ f b) → f low ≤ amount → amount < f end
    → ((x : ℕ) → low ≤ x → x < end → demands + weights * x ≡ f x) → f end ≤ demands + weights * end
    → (0 < weights) × (demands ≤ amount) × (f ((amount - demands) / weights) ≤ amount) × (amount < f ((amount - demands) / weights + 1))
most-on f amount low end demands weights grows fits over line top =
    let order : low < end = elim (cases_lt low end) [ inl l ↦ l | inr ge ↦ absurd (omega (arith, grows end low ge, fits, over)) ] in
    let start : demands + weights * low ≡ f low = line low (le_refl low) order in
    let some : 0 < weights = elim (cases_lt 0 weights) [
      | inl l ↦ l
      | inr none ↦ let z : weights ≡ 0 = omega arith in absurd (omega (arith, start, ap (λ w. w * low) z, ap (λ w. w * end) z, fits, over, top))
    ] in
    let few : demands ≤ amount = omega (arith, start, fits) in
    let from : low ≤ (amount - demands) / weights = (le-div_iff_mul-le some).1 (omega (arith, mul_comm low weights, start, fits)) in
    let before : (amount - demands) / weights < end = (div-lt_iff_lt-mul some).1 (omega (arith, mul_comm end weights, top, over, few)) in
    let product : (amount - demands) / weights * weights ≤ amount - demands = (le-div_iff_mul-le some).0 (le_refl _) in
    let next : amount - demands < ((amount - demands) / weights + 1) * weights = (div-lt_iff_lt-mul some).0 (omega arith) in
    let at : f ((amount - demands) / weights) ≤ amount =
    omega (arith, line ((amount - demands) / weights) from before, mul_comm ((amount - demands) / weights) weights, product, few) in
    let past : amount < f ((amount - demands) / weights + 1) =
    elim (cases_lt ((amount - demands) / weights + 1) end) [
      | inl l ↦ omega (arith, line ((amount - demands) / weights + 1) (omega (arith, from)) l, mul_comm ((amount - demands) / weights + 1) weights, next, few)
      | inr ge ↦ let same : (amount - demands) / weights + 1 ≡ end = omega (arith, before) in omega (arith, ap f same, over)
    ] in
    (some, few, at, past)

most-core : (tasks : List Task) (ranked : List RankedTask) (before : List SumsBefore) (amount full low : ℕ) (all here : SumsBefore) (none : RankedTask)
    → AreInRange tasks → IsIndexOf tasks ranked before → full < length ranked
    → ((j : ℕ) (d : RankedTask) → j < full → (get_or ranked j d).full_at ≤ low)
    → sum_by (capped low) tasks ≤ amount → amount < sum_by (capped (get_or ranked full none).full_at) tasks
    → here ≡ get_or before full here → all ≡ get_or before (length ranked) all → IsFoundMost tasks amount all here
most-core tasks ranked before amount full low all here none small index within below fits over at_here at_all =
    let end = (get_or ranked full none).full_at in
    let inside : (x : ℕ) → low ≤ x → x < (get_or ranked full none).full_at → IsFound tasks ranked before x full all here =
    λ x from upto.
    found tasks ranked before x full all here small index (omega arith) (λ j d lt. omega (arith, below j d lt, from))
    (λ j d le lt. omega (arith, full-rises tasks ranked before index full j d le lt, full_at-same ranked full none d within, upto)) at_here at_all in
    let order : low < (get_or ranked full none).full_at =
    elim (cases_lt low (get_or ranked full none).full_at) [ inl l ↦ l | inr ge ↦ absurd (omega (arith, capped-grows (get_or ranked full none).full_at low ge tasks, fits, over)) ] in
    let less : here.weights ≤ all.weights = (inside low (le_refl low) order).weights in
    let parts : (all.weights - here.weights) + here.weights ≡ all.weights = omega (arith, less) in
    let most = most-on (λ x. sum_by (capped x) tasks) amount low end here.demands (all.weights - here.weights) (λ a b le. capped-grows a b le tasks) fits over
    (λ x from upto. (inside x from upto).sum)
    (omega (arith, upper tasks ranked before end full all here index (omega arith) at_here at_all, ap (λ w. w * end) parts)) in
    record { weights = omega (arith, most.0, less); demands = most.1; most = record { fits = most.2; over = most.3 } }

pub found-most : (tasks : List Task) (ranked : List RankedTask) (before : List SumsBefore) (when_full : List ℕ) (amount full : ℕ) (all here : SumsBefore)
    → AreInRange tasks → IsIndexOf tasks ranked before → AreSumsWhenFull tasks ranked when_full → full < length ranked
    → ((j : ℕ) (d : ℕ) → j < full → get_or when_full j d ≤ amount)
    → ((j : ℕ) (d : ℕ) → full ≤ j → j < length when_full → amount < get_or when_full j d)
    → here ≡ get_or before full here → all ≡ get_or before (length ranked) all → IsFoundMost tasks amount all here
found-most tasks ranked before when_full amount full all here small index sums within low high at_here at_all =
    let none : RankedTask = record { full_at = 0; weight = 0; demand = 0 } in
    let over : amount < sum_by (capped (get_or ranked full none).full_at) tasks = omega (arith, sums.sums full 0 none within, high full 0 (le_refl full) (omega (arith, sums.size))) in
    go full within low over at_here where
      go : (full : ℕ) → full < length ranked → ((j : ℕ) (d : ℕ) → j < full → get_or when_full j d ≤ amount)
          → amount < sum_by (capped (get_or ranked full (record { full_at = 0; weight = 0; demand = 0 })).full_at) tasks
          → here ≡ get_or before full here → IsFoundMost tasks amount all here
      go zero within low over at_here =
          most-core tasks ranked before amount 0 0 all here (record { full_at = 0; weight = 0; demand = 0 }) small index within (λ j d lt. absurd (omega arith)) (omega (arith, capped-none tasks)) over at_here at_all
      go (suc k) within low over at_here =
          let none : RankedTask = record { full_at = 0; weight = 0; demand = 0 } in
          let fits : sum_by (capped (get_or ranked k none).full_at) tasks ≤ amount = omega (arith, sums.sums k 0 none (omega arith), low k 0 (omega arith)) in
          most-core tasks ranked before amount (suc k) (get_or ranked k none).full_at all here none small index within
          (λ j d lt. omega (arith, full-rises tasks ranked before index j k d (omega arith) (omega arith), full_at-same ranked k d none (omega arith))) fits over at_here at_all

-- where the sum is at most the amount when all tasks are full, it is at each amount per weight
none-core : (tasks : List Task) (ranked : List RankedTask) (before : List SumsBefore) (amount low : ℕ) (all : SumsBefore)
    → AreInRange tasks → IsIndexOf tasks ranked before
    → ((j : ℕ) (d : RankedTask) → j < length ranked → (get_or ranked j d).full_at ≤ low)
    → sum_by (capped low) tasks ≤ amount → all ≡ get_or before (length ranked) all → (per_weight : ℕ) → sum_by (capped per_weight) tasks ≤ amount
none-core tasks ranked before amount low all small index below fits at_all per_weight =
    let whole = found tasks ranked before low (length ranked) all all small index (le_refl _) below (λ j d le lt. absurd (omega arith)) at_all at_all in
    let nothing : all.weights - all.weights ≡ 0 = omega arith in
    omega (arith, whole.sum, ap (λ w. w * low) nothing, fits, upper tasks ranked before per_weight (length ranked) all all index (le_refl _) at_all at_all)

pub found-none : (tasks : List Task) (ranked : List RankedTask) (before : List SumsBefore) (when_full : List ℕ) (amount : ℕ) (all : SumsBefore)
    → AreInRange tasks → IsIndexOf tasks ranked before → AreSumsWhenFull tasks ranked when_full
    → ((j : ℕ) (d : ℕ) → j < length ranked → get_or when_full j d ≤ amount)
    → all ≡ get_or before (length ranked) all → (per_weight : ℕ) → sum_by (capped per_weight) tasks ≤ amount
found-none tasks ranked before when_full amount all small index sums low at_all = go (length ranked) refl where
  go : (n : ℕ) → length ranked ≡ n → (per_weight : ℕ) → sum_by (capped per_weight) tasks ≤ amount
  go zero e = none-core tasks ranked before amount 0 all small index (λ j d lt. absurd (omega arith)) (omega (arith, capped-none tasks)) at_all
  go (suc k) e =
      let none : RankedTask = record { full_at = 0; weight = 0; demand = 0 } in
      let fits : sum_by (capped (get_or ranked k none).full_at) tasks ≤ amount = omega (arith, sums.sums k 0 none (omega arith), low k 0 (omega arith)) in
      none-core tasks ranked before amount (get_or ranked k none).full_at all small index
      (λ j d lt. omega (arith, full-rises tasks ranked before index j k d (omega arith) (omega arith), full_at-same ranked k d none (omega arith))) fits at_all
