-- The sums after one amount has changed.
use Rattle.std.proofs.Common.{◌≡◌, ℕ, ◌+◌, ◌<◌, ◌≤◌, List, length, sym, ◌∙◌, ap, arith, get_or, Vec, Global, take, drop, ◌++◌}
use Rattle.std.specs.Vec.{with_items}
use Rattle.std.proofs.Math.Seq.{take-append_seam}
use Rattle.bwe_specs.specs.declared.limits.TheConstants.{MAX_TOTAL}
use Rattle.bwe_specs.specs.Paths.{PathGroups, path_group_at, path_group_count, load_on, link_load}
use Rattle.link_sums.specs.Sums.{amount_at, AreRowsOf, total_of, Sums, IsSummedOver}
use Rattle.link_sums.proofs.Totals.{link_load-le, amount-le, load_on-le_link_load}

module _ (groups : List PathGroups) (old : Sums) (summed : IsSummedOver groups old) (group place : ℕ) (lt : group < length groups) (within : place < path_group_count groups group)
    (before : ℕ) (before_is : before ≡ amount_at old.amounts group place) (loads : List ℕ) (loads_is : loads ≡ old.loads) where
  pub before-small : before ≤ MAX_TOTAL
  before-small = omega (arith, before_is, amount-le groups old.amounts group place lt within, summed.total)

  load-is : (link : ℕ) → link < length loads → get_or loads link 0 ≡ link_load groups (amount_at old.amounts) link
  load-is link below = ap (λ all. get_or all link 0) loads_is ∙ summed.loads link (omega (arith, below, ap length loads_is))

  term-is : (link : ℕ) → load_on (path_group_at groups group place) link before ≡ load_on (path_group_at groups group place) link (amount_at old.amounts group place)
  term-is link = ap (load_on (path_group_at groups group place) link) before_is

  -- the term of the amount is counted in each load
  pub counted : (link : ℕ) → link < length loads → load_on (path_group_at groups group place) link before ≤ get_or loads link 0
  counted link below = omega (arith, term-is link, load-is link below, load_on-le_link_load groups old.amounts group place link lt within)

  -- no load is above all amounts together
  pub room : (link : ℕ) → link < length loads → get_or loads link 0 ≤ MAX_TOTAL
  room link below = omega (arith, load-is link below, link_load-le groups summed.plan old.amounts link, summed.total)

  -- where each load has moved with its term, the loads are those of the new amounts
  pub summed-after : (amounts : List (List ℕ)) (moved_loads : List ℕ) (after : ℕ) → AreRowsOf groups amounts → after ≡ amount_at amounts group place → total_of groups amounts ≤ MAX_TOTAL
      → length moved_loads ≡ length loads
      → ((link : ℕ) → link < length loads → get_or moved_loads link 0 + load_on (path_group_at groups group place) link before ≡ get_or loads link 0 + load_on (path_group_at groups group place) link after)
      → ((link : ℕ) → link_load groups (amount_at amounts) link + load_on (path_group_at groups group place) link (amount_at old.amounts group place)
      ≡ link_load groups (amount_at old.amounts) link + load_on (path_group_at groups group place) link (amount_at amounts group place))
      → IsSummedOver groups (record { amounts = amounts; loads = moved_loads })
  summed-after amounts moved_loads after rows after_is total count moved changes = record {
    plan = summed.plan;
    rows = rows;
    total = total;
    links = λ g p link used. omega (arith, summed.links g p link used, count, ap length loads_is);
    loads = λ link below.
        let inside : link < length loads = omega (arith, below, count) in
        omega (arith, moved link inside, load-is link inside, term-is link, ap (load_on (path_group_at groups group place) link) after_is, changes link);
  }

-- a vector written over by a list of its own length
pub with_items-same : (vector : Vec ℕ Global) (items : List ℕ) → length items ≡ length vector.items → (with_items vector items).items ≡ items
with_items-same vector items same =
    ap (λ count. take count (items ++ drop (length items) vector.items)) (vector.ok.0 ∙ sym same) ∙ take-append_seam items (drop (length items) vector.items)
