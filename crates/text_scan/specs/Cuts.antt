-- A text at the first of some byte.
use Rattle.std.specs.Prelude.{ℕ, ◌+◌, ◌==◌, List, take, drop, position, Option, option_map}

-- what stands before a byte, and what stands behind it
pub record Cut : Type 0 where
  pub before : List ℕ
  pub behind : List ℕ

-- the text at the first such byte, where it has one
unfoldable pub cut_at : ℕ → List ℕ → Option Cut
cut_at byte text =
    option_map (λ place. record { before = take place text; behind = drop (place + 1) text })
    (position (λ other. other == byte) text)
