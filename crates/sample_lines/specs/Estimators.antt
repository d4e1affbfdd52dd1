-- An estimator for each task of which there is a sample.
use Rattle.std.specs.Prelude.{◌≡◌, ℕ, List, [], nat_eq, Option, Some, None}
use Rattle.std.specs.HashMap.{HashMap, get}
use Rattle.std.specs.declared.hash.FoldHasher.{FoldHasher}
use Rattle.std.specs.declared.hash.BuildHasherDefault.{BuildHasherDefault}
use Rattle.demand_estimate.specs.Estimator.{Kept, HasHad}
use Rattle.sample_lines.specs.declared.sample.Sample.{Sample}
use Rattle.sample_lines.specs.SampleReports.{amounts_of}

abbrev pub Estimators : Type 0
Estimators = HashMap ℕ Kept (BuildHasherDefault FoldHasher)

-- an estimator of this window and headroom has had these samples
pub record IsBehind (window headroom : ℕ) (amounts : List ℕ) (estimator : Kept) : Type 0 where
  pub window_kept : estimator.window ≡ window
  pub headroom_kept : estimator.headroom ≡ headroom
  pub had : HasHad estimator amounts

-- the same of a task's estimator, if it has one
abbrev pub IsBehindIfAny : ℕ → ℕ → List ℕ → Option Kept → Type 0
IsBehindIfAny window headroom amounts None = amounts ≡ []
IsBehindIfAny window headroom amounts (Some estimator) = IsBehind window headroom amounts estimator

-- each task's estimator has had that task's samples
abbrev pub AreBehind : ℕ → ℕ → List Sample → Estimators → Type 0
AreBehind window headroom samples estimators = (task : ℕ)
    → IsBehindIfAny window headroom (amounts_of task samples) (get nat_eq estimators task)
