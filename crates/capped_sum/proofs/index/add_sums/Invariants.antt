use Rattle.std.proofs.Common.{◌≡◌, ◌<◌, ℕ, get_or, sum_by}
use Rattle.capped_sum.specs.declared.index.RankedTask.{RankedTask}
use Rattle.capped_sum.specs.Index.{capped}
use Rattle.capped_sum.proofs.index.add_sums.Given as goal

abbrev pub invariant-loop-place : goal.invariant-loop-place
invariant-loop-place l = (place : ℕ) (d : ℕ) (e : RankedTask) → place < l.place → get_or l.when_full place d ≡ sum_by (capped (get_or l.ranked place e).full_at) l.tasks
