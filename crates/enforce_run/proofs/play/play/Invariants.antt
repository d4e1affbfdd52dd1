use Rattle.std.proofs.Common.{◌≡◌, drop, length, take}
use Rattle.enforce_run.specs.EventLines.{AreThere}
use Rattle.bwe_specs.specs.Lists.{lists_of}
use Rattle.enforce_run.specs.Playing.{IsOnScript, played_from, played_of}
use Rattle.enforce_run.proofs.Plays.{IsCounted}
use Rattle.enforce_run.proofs.play.play.Given as goal

abbrev pub invariant-loop-line : goal.invariant-loop-line
invariant-loop-line g l =
    let known = g.M.Maker.plan l.initial.maker in
    record {
      plan : g.M.Maker.plan l.maker ≡ known;
      script : IsOnScript g.M.Table.Posted.covers (g.M.Maker.table_of known) (g.M.Maker.absorbed l.maker) l.script l.world.posted;
      played : played_of g.M.Table.Posted.covers g.M.Table.Posted.limit_at (g.M.Maker.table_of known) l.script (lists_of l.fn.regions.items) l.lines
          ≡ played_from g.M.Table.Posted.covers g.M.Table.Posted.limit_at (g.M.Maker.table_of known) l.script (record { answers = l.answers.items; world = l.world }) (drop l.line-index l.lines);
      counted : IsCounted (length l.fn.regions.items) (take l.line-index l.lines) l.world;
      there : AreThere (length l.fn.regions.items) (take l.line-index l.lines) (drop l.line-index l.lines);
      tasks : l.world.tasks ≡ lists_of l.fn.regions.items;
    }
