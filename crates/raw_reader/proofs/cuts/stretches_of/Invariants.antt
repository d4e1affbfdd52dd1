use Rattle.std.proofs.Common.{◌≡◌, List, ◌∷◌, ◌++◌}
use denote.Text.{Utf8}
use denote.Shadow.{shadow}
use Rattle.raw_reader.specs.declared.pieces.Stretch.{Stretch}
use Rattle.raw_reader.specs.Stretches.{AreBehind, AreStretches}
use Rattle.raw_reader.proofs.cuts.stretches_of.Given as goal

-- with any stretches of the rest, of which the first stands at the place, all are those of the text
abbrev pub invariant-cuts : goal.invariant-cuts
invariant-cuts l =
    (goal.iterator-cuts).can_next l.cut-iterator ×
    (goal.iterator-cuts).is_finite l.cut-iterator ×
    shadow (Utf8 l.rest) ×
    ((s : Stretch) (more : List Stretch) → s.place ≡ l.place → AreBehind l.version l.rest (s ∷ more) → AreStretches l.version l.text (l.stretches.items ++ s ∷ more))
