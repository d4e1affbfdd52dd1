use Rattle.std.proofs.Common.{◌∙◌, sym, ap, ℕ, [], arith, length, refl, map-id}
use Rattle.std.proofs.lemmas.Iterator.Adapters.{YieldsList-from_vec}
use Rattle.std.proofs.lemmas.Iterator.Consumers.{YieldsList-turn, YieldsList-end}
use Rattle.demand_book.proofs.Changing.{written, written-changes, written-append, entry_in_range}
use Rattle.demand_book.proofs.change.write_lines.Goals as goal

pub bounds-lines-at : goal.bounds-lines-at
bounds-lines-at c =
    let given = c.into_iter-at-iterator.ensures.into_iter_gives in
    let turn = YieldsList-turn (YieldsList-from_vec {s = c.into_iter-at-iterator.result} c.args.entries.items given.0 (given.1 ∙ c.args.entries.ok.0)) c.loop-at.yielded c.loop-at.at-iterator c.loop-at.yielded_by c.next.result c.next.new.self (c.in-Some.at, c.in-Some.line) c.in-Some.is c.next.ensures.steps in
    omega (arith, entry_in_range c.requires.changes.1 (length c.loop-at.yielded) (c.in-Some.at, c.in-Some.line) turn.0, ap (λ (entry : ℕ × _). entry.0) turn.1)

pub loop-at-preserved : goal.loop-at-preserved
loop-at-preserved c =
    rw (written-append c.loop-at.yielded (c.in-Some.at, c.in-Some.line) c.args.lines.now, ← c.loop-at.invariant) refl

pub returns : goal.returns
returns c = λ later leads.
    let given = c.into_iter-at-iterator.ensures.into_iter_gives in
    let end = YieldsList-end (YieldsList-from_vec {s = c.into_iter-at-iterator.result} c.args.entries.items given.0 (given.1 ∙ c.args.entries.ok.0)) c.loop-at.yielded c.loop-at.at-iterator c.loop-at.yielded_by c.next.result c.next.new.self c.in-None.is c.next.ensures.steps in
    let all = sym (map-id c.loop-at.yielded) ∙ end.0 in
    c.loop-at.invariant ∙ ap (λ entries. written entries c.args.lines.now) all ∙ written-changes leads [] refl
