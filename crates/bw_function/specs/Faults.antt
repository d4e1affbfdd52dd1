-- What is wrong with a list of points, pairs of a share and an amount.
use Rattle.std.specs.Prelude.{ℕ, ◌+◌, List, [], ◌∷◌, nat_lt, nat_le, Option, Some, None, if◌then◌else◌}
use Rattle.std.specs.Option.{option_or}
use Rattle.bwe_specs.specs.declared.limits.TheConstants.{MAX_AMOUNT}
use Rattle.bw_function.specs.declared.fault.FunctionFault.{FunctionFault}
use Rattle.bw_function.specs.declared.fault.FunctionFault.TheVariants.{Empty, NotFromZero, ShareNotRising, ShareOverTop, AmountFalling, AmountOverMax}

-- the fault of the point at a place, which comes after another
abbrev pub point_fault : ℕ × ℕ → ℕ × ℕ → ℕ → ℕ → Option FunctionFault
point_fault before point top place =
    if nat_le point.0 before.0 then Some (ShareNotRising place)
    else if nat_lt top point.0 then Some (ShareOverTop place)
    else if nat_lt point.1 before.1 then Some (AmountFalling place)
    else if nat_lt MAX_AMOUNT point.1 then Some (AmountOverMax place)
    else None

-- the first fault of the points that come after another, from a place on
unfoldable pub later_fault : ℕ × ℕ → List (ℕ × ℕ) → ℕ → ℕ → Option FunctionFault
later_fault before [] top place = None
later_fault before (point ∷ later) top place =
    option_or (point_fault before point top place) (later_fault point later top (place + 1))

-- the first fault of a list of points under a top share
abbrev pub function_fault : List (ℕ × ℕ) → ℕ → Option FunctionFault
function_fault [] top = Some Empty
function_fault (first ∷ later) top =
    if nat_lt 0 first.0 then Some NotFromZero
    else if nat_lt 0 first.1 then Some NotFromZero
    else later_fault first later top 1
