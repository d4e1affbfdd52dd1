use Rattle.std.proofs.Common.{Vec, ◌≡◌, ℕ, ◌==◌, List, IsPermutation, IsSorted, nat_cmp, sym, ◌∙◌, subst, Ok, Err, Result, ap, IfOk}
use Rattle.std.specs.Global.{Global}
use Rattle.itertools.specs.List.{dedup}
use Rattle.share_transform.specs.Shares.{shares_in, AreMerged}
use Rattle.share_transform.proofs.Merging.{once-merged}
use Rattle.share_transform.proofs.merged.merged_shares.Goals as goal

merged : {E : Type 0} (lists : List (Vec ℕ Global)) (sorted slice : List ℕ) (r : Result (Vec ℕ Global) E) → slice ≡ sorted → IsPermutation (shares_in lists) sorted → IsSorted nat_cmp sorted
    → IfOk r (λ shares. shares.items ≡ dedup (λ x y. x == y) slice) → IfOk r (λ shares. AreMerged (shares_in lists) shares.items)
merged lists sorted slice (Ok v) e moved order same = subst (AreMerged (shares_in lists)) (sym (same ∙ ap (dedup (λ x y. x == y)) e)) (once-merged (shares_in lists) sorted moved order)
merged lists sorted slice (Err x) e moved order same = same

pub returns : goal.returns
returns c = merged c.args.lists.now c.in_ok-sorted.sorted.items c.as_slice.result.now c.once_each.result c.as_slice.ensures.value c.in_ok-sorted.ensures.shares c.in_ok-sorted.ensures.order c.once_each.ensures
