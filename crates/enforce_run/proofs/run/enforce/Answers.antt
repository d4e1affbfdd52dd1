use Rattle.std.proofs.Common.{◌≡◌, ℕ, [], Vec, length, sym, subst, arith}
use Rattle.std.specs.declared.alloc.Global.{Global}
use Rattle.std.proofs.lemmas.List.{length-map}
use Rattle.bwe_specs.specs.Lists.{lists_of}
use Rattle.enforce_run.specs.EventLines.{AreThere}
use Rattle.enforce_run.proofs.Lawful.{written_on_regions}
use Rattle.enforce_run.proofs.Owners.{regions_counted}
use Rattle.enforce_run.proofs.run.enforce.Goals as goal

pub play-requires-clause-there : goal.play-requires-clause-there
play-requires-clause-there g c =
    let regions = c.in_ok-regions.regions.items in
    let counted = regions_counted c.args.reporters c.args.owners.now (lists_of regions) c.in_ok-regions.ensures in
    let count : length regions ≡ c.args.reporters = omega (arith, counted, length-map regions (λ (row : Vec ℕ Global). row.items)) in
    subst (λ (n : ℕ). AreThere n [] c.args.lines.now) (sym count) c.requires.there

pub returns-clause-lawful : goal.returns-clause-lawful
returns-clause-lawful g c =
    let plan = g.M.Maker.plan c.args.maker in
    (written_on_regions g.M.Table.Posted.frame g.M.Table.Posted.covers g.M.Table.Posted.limit_at (g.M.Maker.table_of plan) (g.met.M.Maker.one_frame plan) (g.met.M.Maker.covers_all plan)
    c.args.script.now c.args.reporters c.args.owners.now c.args.lines.now c.requires.there).0

pub returns-clause-settles : goal.returns-clause-settles
returns-clause-settles g c =
    let plan = g.M.Maker.plan c.args.maker in
    (written_on_regions g.M.Table.Posted.frame g.M.Table.Posted.covers g.M.Table.Posted.limit_at (g.M.Maker.table_of plan) (g.met.M.Maker.one_frame plan) (g.met.M.Maker.covers_all plan)
    c.args.script.now c.args.reporters c.args.owners.now c.args.lines.now c.requires.there).1

pub returns-in_err-regions-clause-lawful : goal.returns-in_err-regions-clause-lawful
returns-in_err-regions-clause-lawful g c =
    let plan = g.M.Maker.plan c.args.maker in
    (written_on_regions g.M.Table.Posted.frame g.M.Table.Posted.covers g.M.Table.Posted.limit_at (g.M.Maker.table_of plan) (g.met.M.Maker.one_frame plan) (g.met.M.Maker.covers_all plan)
    c.args.script.now c.args.reporters c.args.owners.now c.args.lines.now c.requires.there).0

pub returns-in_err-regions-clause-settles : goal.returns-in_err-regions-clause-settles
returns-in_err-regions-clause-settles g c =
    let plan = g.M.Maker.plan c.args.maker in
    (written_on_regions g.M.Table.Posted.frame g.M.Table.Posted.covers g.M.Table.Posted.limit_at (g.M.Maker.table_of plan) (g.met.M.Maker.one_frame plan) (g.met.M.Maker.covers_all plan)
    c.args.script.now c.args.reporters c.args.owners.now c.args.lines.now c.requires.there).1

pub returns-in_err-answers-clause-lawful : goal.returns-in_err-answers-clause-lawful
returns-in_err-answers-clause-lawful g c =
    let plan = g.M.Maker.plan c.args.maker in
    (written_on_regions g.M.Table.Posted.frame g.M.Table.Posted.covers g.M.Table.Posted.limit_at (g.M.Maker.table_of plan) (g.met.M.Maker.one_frame plan) (g.met.M.Maker.covers_all plan)
    c.args.script.now c.args.reporters c.args.owners.now c.args.lines.now c.requires.there).0

pub returns-in_err-answers-clause-settles : goal.returns-in_err-answers-clause-settles
returns-in_err-answers-clause-settles g c =
    let plan = g.M.Maker.plan c.args.maker in
    (written_on_regions g.M.Table.Posted.frame g.M.Table.Posted.covers g.M.Table.Posted.limit_at (g.M.Maker.table_of plan) (g.met.M.Maker.one_frame plan) (g.met.M.Maker.covers_all plan)
    c.args.script.now c.args.reporters c.args.owners.now c.args.lines.now c.requires.there).1
