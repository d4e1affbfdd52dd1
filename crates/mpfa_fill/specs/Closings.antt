-- Which links were closed.
use Rattle.std.specs.Prelude.{◌≡◌, ℕ, ◌<◌, ◌==◌, Bool, false, List, length, slice_index_or}
use Rattle.std.specs.List.{list_any}
use Rattle.bwe_specs.specs.declared.network.Closing.{Closing}

-- the link was closed
abbrev pub is_closed : List Closing → ℕ → Bool
is_closed closings link = list_any (λ closing. link == closing.link) closings

-- the flags are set exactly for the links that were closed
abbrev pub AreFlags : List Closing → List Bool → Type 0
AreFlags closings flags = (link : ℕ) → link < length flags
    → slice_index_or flags link false ≡ is_closed closings link
