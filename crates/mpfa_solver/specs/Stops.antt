-- Where the filling is looked for next, and how often it was.
use Rattle.std.specs.Prelude.{ℕ, ◌+◌, List, length, min, max, nat_lt, if◌then◌else◌, slice_index_or}
use Rattle.bwe_specs.specs.declared.network.Closing.{Closing}
use Rattle.bwe_specs.specs.Filling.{State}

-- the share of the hint for the closing at this place, or else the top, but none outside the search
abbrev pub hint_of : List Closing → ℕ → ℕ → ℕ → ℕ
hint_of hints place low top =
    min top (max low (slice_index_or hints place (record { link = 0; share = top })).share)

-- how many searches led to a state: one for each closing, and one that came to the top
abbrev pub searches : ℕ → State → ℕ
searches top state = length state.closings + (if nat_lt state.share top then 0 else 1)
