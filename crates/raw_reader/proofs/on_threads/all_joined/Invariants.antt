use Rattle.std.proofs.Common.{ℕ, List}
use Rattle.std.specs.Vec.Iter.{into_iter_items}
use Rattle.json.specs.Token.{Token}
use Rattle.raw_reader.specs.Joined.{IsJoined}
use Rattle.raw_reader.specs.Stretches.{AllTake}
use Rattle.raw_reader.proofs.on_threads.all_joined.Given as goal

-- the lists that are left are still to be taken
abbrev pub invariant-loop-pieces : goal.invariant-loop-pieces
invariant-loop-pieces l =
    (version : ℕ) (start : List Token) → AllTake version l.fn.all.items start
    → (now : List Token) × AllTake version (into_iter_items l.pieces-iterator) now × IsJoined version l.found start now
