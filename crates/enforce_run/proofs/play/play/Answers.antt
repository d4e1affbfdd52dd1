use Rattle.std.proofs.Common.{◌≡◌, ◌<◌, get_or, length, ◌∙◌, arith}
use Rattle.std.proofs.lemmas.List.{get_or_default}
use Rattle.bwe_specs.specs.Lists.{lists_of}
use Rattle.enforce_run.specs.declared.event.EventLine.{EventLine}
use Rattle.enforce_run.specs.declared.event.EventLine.TheVariants.{Post}
use Rattle.enforce_run.specs.Playing.{played_of}
use Rattle.enforce_run.proofs.Plays.{at_end, counted_more, played_more, rest_there, script_same, tasks_more}
use Rattle.enforce_run.proofs.play.play.Goals as goal

pub loop-line-preserved : goal.loop-line-preserved
loop-line-preserved g c =
    let i = c.loop-line.line-index in
    let lines = c.args.lines.now in
    let script = c.args.script.now in
    let known = g.M.Maker.plan c.table.new.self in
    let now = g.M.Maker.plan c.loop-line.maker in
    let line : EventLine = get_or lines i (Post 0) in
    let inside : i < length lines = omega (arith, c.loop-line-test.true) in
    let is : line ≡ get_or lines i line = get_or_default lines i (Post 0) line inside in
    record {
      plan = c.in_ok-play_one.ensures.plan ∙ c.loop-line.invariant.plan;
      script = script_same g.M.Table.Posted.covers g.M.Maker.table_of (g.M.Maker.absorbed c.play_one.new.maker) script c.play_one.new.world.posted now known c.loop-line.invariant.plan
          c.in_ok-play_one.ensures.script;
      played = played_more g.M.Table.Posted.covers g.M.Table.Posted.limit_at g.M.Maker.table_of script known now
          (played_of g.M.Table.Posted.covers g.M.Table.Posted.limit_at (g.M.Maker.table_of known) script (lists_of c.args.regions.items) lines) c.loop-line.answers.items c.push.new.self.items
          c.loop-line.world c.play_one.new.world c.in_ok-play_one.field-0 lines i line c.loop-line.invariant.plan inside is c.loop-line.invariant.played c.in_ok-play_one.ensures.answer
          c.in_ok-play_one.ensures.world c.in_ok-push.ensures.items;
      counted = counted_more g.M.Table.Posted.covers g.M.Table.Posted.limit_at (g.M.Maker.table_of now) script (length c.args.regions.items) lines i c.loop-line.world c.play_one.new.world inside
          c.in_ok-play_one.ensures.world c.loop-line.invariant.counted;
      there = rest_there (length c.args.regions.items) lines i line inside is c.loop-line.invariant.there;
      tasks = tasks_more g.M.Table.Posted.covers g.M.Table.Posted.limit_at (g.M.Maker.table_of now) script line c.loop-line.world c.play_one.new.world (lists_of c.args.regions.items)
          c.in_ok-play_one.ensures.world c.loop-line.invariant.tasks;
    }

pub returns-clause-played : goal.returns-clause-played
returns-clause-played g c =
    at_end g.M.Table.Posted.covers g.M.Table.Posted.limit_at g.M.Maker.table_of c.args.script.now (lists_of c.args.regions.items) (g.M.Maker.plan c.table.new.self) (g.M.Maker.plan c.args.maker)
    (record { answers = c.loop-line.answers.items; world = c.loop-line.world }) c.args.lines.now c.loop-line.line-index c.table.ensures.plan (omega (arith, c.loop-line-test.false)) c.loop-line.invariant.played
