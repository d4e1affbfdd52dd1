-- Which of the closings was the first of a link.
use Rattle.std.specs.Prelude.{◌≡◌, ℕ, ◌<◌, ◌≤◌, List, length, slice_index, slice_index_or}
use Rattle.bwe_specs.specs.declared.network.Closing.{Closing}

-- the closing at an index
abbrev pub closing_at : List Closing → ℕ → Closing
closing_at closings at = slice_index_or closings at (record { link = 0; share = 0 })

-- the closings before an index are of other links, and the one there is of the link, or the index
-- is the number of closings
pub record IsFirst (closings : List Closing) (link at : ℕ) : Type 0 where
  pub upto : at ≤ length closings
  pub others : (k : ℕ) → k < at → (closing_at closings k).link ≡ link → ⊥
  pub here : at < length closings → (closing_at closings at).link ≡ link

-- for each link its first closing, and none is of a further link
pub record AreFirsts (closings : List Closing) (firsts : List ℕ) : Type 0 where
  pub each : (link : ℕ) → link < length firsts → IsFirst closings link (slice_index firsts link)
  pub all : (k : ℕ) → k < length closings → (closing_at closings k).link < length firsts
