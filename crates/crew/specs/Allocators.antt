-- What the allocator of a run comes to.
use Rattle.std.specs.Prelude.{ℕ, ◌≡◌, ◌+◌, ◌-◌, ◌^◌, min}
use Rattle.board.specs.Allocating.{Allocating}

-- the pass has made so many rounds more, as far as it counts them
abbrev pub HasMade : ℕ → Allocating → Allocating → Type 0
HasMade rounds before after = after.rounds ≡ min (before.rounds + rounds) (2 ^ 64 - 1)
