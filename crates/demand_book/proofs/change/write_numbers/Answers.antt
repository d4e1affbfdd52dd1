use Rattle.std.proofs.Common.{◌∙◌, [], arith, refl}
use Rattle.std.proofs.lemmas.List.{drop_all}
use Rattle.demand_book.proofs.Changing.{written-changes, entry_in_range}
use Rattle.demand_book.proofs.change.write_numbers.Goals as goal

pub bounds-numbers-entry : goal.bounds-numbers-entry
bounds-numbers-entry c =
    omega (arith, entry_in_range c.requires.changes.1 c.loop-entry.entry-index (0, 0) c.loop-entry-test.true)

pub returns : goal.returns
returns c = λ later leads.
    let all = drop_all c.loop-entry.entry-index c.args.entries.now c.loop-entry-test.false in
    rw all at c.loop-entry.invariant ∙ written-changes leads [] refl
