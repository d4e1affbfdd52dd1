-- What contracts see of an estimator.
use Rattle.std.specs.Prelude.{◌≡◌, ℕ, List}
use Rattle.circular_buffer.specs.Buffer.{keep_last}

-- the samples that it keeps are in their order
pub record Kept : Type 0 where
  pub window : ℕ
  pub headroom : ℕ
  pub samples : List ℕ

-- an estimator that has had just these samples
abbrev pub HasHad : Kept → List ℕ → Type 0
HasHad estimator samples = estimator.samples ≡ keep_last estimator.window samples
