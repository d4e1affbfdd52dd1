-- How many looks at single links a filling takes.
use Rattle.std.specs.Prelude.{ℕ, zero, suc, ◌+◌, ◌-◌, ◌*◌, ◌/◌, List, length, if◌then◌else◌, nat_lt}
use Rattle.bwe_specs.specs.declared.network.Closing.{Closing}
use Rattle.bwe_specs.specs.Bounded.{sum_below}
use Rattle.bwe_specs.specs.Filling.{Wan}
use Rattle.link_front.specs.Moves.{moves_ahead}
use Rattle.link_solver.specs.declared.due.Due.{Due}
use Rattle.link_solver.specs.Dues.{due_at}

-- how often a width is halved, rounding up, until it is 1, and at most so often
unfoldable pub halvings : ℕ → ℕ → ℕ
halvings zero width = 0
halvings (suc most) width = if nat_lt 1 width then suc (halvings most ((width + 1) / 2)) else 0

-- so many looks a link still needs, if no group comes to it or leaves it: none where it fits at the
-- top, one at the top where it is not known to be over, and one for each halving of its interval
abbrev pub looks_at : ℕ → Due → ℕ
looks_at top due =
    if nat_lt due.share top
    then if nat_lt top due.over then suc (halvings 30 (top - due.share))
    else halvings 30 (due.over - due.share)
    else 0

-- the same of all links
abbrev pub looks_in : ℕ → List Due → ℕ
looks_in top dues = sum_below (length dues) (λ link. looks_at top (due_at dues link))

-- so many looks are still to come at most: where a group comes to a path group or leaves it, the
-- intervals of its links are opened anew
abbrev pub looks_ahead : Wan → List Closing → List Due → ℕ
looks_ahead wan closings dues =
    looks_in wan.top dues + 31 * moves_ahead wan closings
