-- What `bwe_app` is once it is built, and the subcommands without arguments.
use Rattle.std.proofs.Common.{◌≡◌, true, false, ◌&&◌, List, [], ◌∷◌, None, refl, ap, ◌∙◌}
use Rattle.std.specs.List.{fold}
use Rattle.clap.specs.Kinds.{Kinds, or_else}
use Rattle.clap.specs.Faults.{check_fault, defaults_fault, settle_fault, turn_fault, walk_fault}
use Rattle.clap.specs.Simple.{Shape, built_leaf, inherited, marked_built, new_shape, with_leaf_noted}
use Rattle.clap.specs.Walk.{Row, Text, Walk, finished, settled, walked}
use Rattle.command_line.specs.Lines.{is_hyphens}
use Rattle.command_line.specs.Matches.{bwe_app, estimate_app, levels_app, run_app, sized_app}
use Rattle.command_line.proofs.Clear.{is_clear}
use Rattle.command_line.proofs.Turns.{at, stray, text_met}

-- a subcommand, as building leaves it
abbrev pub leaf : Shape → Shape
leaf s = built_leaf (inherited (with_leaf_noted (marked_built bwe_app.top)) s)

abbrev pub bare_shape : Text → Shape
bare_shape name = leaf (new_shape name)

abbrev pub run_shape : Shape
run_shape = leaf run_app.top

abbrev pub sized_shape : Text → Shape
sized_shape name = leaf (sized_app name).top

abbrev pub estimate_shape : Shape
estimate_shape = leaf estimate_app.top

abbrev pub levels_shape : Shape
levels_shape = leaf levels_app.top

-- what the words of a subcommand come to, from where a walk stands
abbrev pub end_fault : Shape → Walk → Kinds
end_fault s w = or_else (settle_fault s.rules s.args_override_self w.held)
    (or_else (defaults_fault (settled s.rules w.held).rows s.rules) (check_fault s (finished s.rules w.held) false))

abbrev pub fault_from : Shape → Walk → List Text → Kinds
fault_from s w words = or_else (walk_fault s [] w words) (end_fault s (fold (walked s.rules []) w words))

abbrev pub rows_from : Shape → Walk → List Text → List Row
rows_from s w words = finished s.rules (fold (walked s.rules []) w words).held

-- one word first
pub one_word : (s : Shape) (w : Walk) (word : Text) (rest : List Text)
    → is_clear (fault_from s w (word ∷ rest)) ≡ (is_clear (turn_fault s [] w word) && is_clear (fault_from s (walked s.rules [] w word) rest))
unfolding walk_fault
one_word s w word rest = go (turn_fault s [] w word)
  where
    after : Kinds
    after = walk_fault s [] (walked s.rules [] w word) rest

    ending : Kinds
    ending = end_fault s (fold (walked s.rules []) (walked s.rules [] w word) rest)

    go : (turn : Kinds) → is_clear (or_else (or_else turn after) ending) ≡ (is_clear turn && is_clear (or_else after ending))
    go [] = refl
    go (kind ∷ kinds) = refl

-- a first word that is refused
pub refused_word : (s : Shape) (w : Walk) (word : Text) (rest : List Text) → is_clear (turn_fault s [] w word) ≡ false → is_clear (fault_from s w (word ∷ rest)) ≡ false
refused_word s w word rest e = one_word s w word rest ∙ ap (λ b. b && is_clear (fault_from s (walked s.rules [] w word) rest)) e

abbrev pub start : Walk
start = at [] None Rattle.clap.specs.Walk.idle 1

-- a subcommand without arguments takes no word
pub bare_clear : (name : Text) → is_clear (fault_from (bare_shape name) start []) ≡ true
unfolding walk_fault defaults_fault
bare_clear name = refl

pub bare_takes_no_word : (name word : Text) (rest : List Text) → is_hyphens word ≡ false → is_clear (fault_from (bare_shape name) start (word ∷ rest)) ≡ false
bare_takes_no_word name word rest plain = refused_word (bare_shape name) start word rest
    (stray (bare_shape name) [] [] None 1 word (text_met (bare_shape name).rules (λ byte. refl) (λ text. refl) [] 1 word [] None plain refl) refl)
