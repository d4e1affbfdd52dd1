-- Estimate: what a task will want, by the samples of what it sent.
use Rattle.std.specs.Prelude.{ℕ, ◌*◌, max, min, List}
use Rattle.std.specs.List.{fold}
use Rattle.std.specs.Int.{div_ceil}
use Rattle.circular_buffer.specs.Buffer.{keep_last}
use Rattle.bwe_specs.specs.declared.limits.TheConstants.{MAX_AMOUNT}

-- the greatest of some samples, or 0 where there is none
unfoldable pub greatest : List ℕ → ℕ
greatest samples = fold max 0 samples

-- an amount with a headroom in hundredths, rounded up, and at most the greatest amount
unfoldable pub with_headroom : ℕ → ℕ → ℕ
with_headroom headroom amount = min (div_ceil (amount * headroom) 100) MAX_AMOUNT

-- the estimate after some samples: of the greatest of the last `window`
unfoldable pub estimate : ℕ → ℕ → List ℕ → ℕ
estimate window headroom samples = with_headroom headroom (greatest (keep_last window samples))
