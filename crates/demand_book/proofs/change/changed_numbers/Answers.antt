use Rattle.std.proofs.Common.{◌<◌, arith, length, get_or, sym}
use Rattle.std.proofs.lemmas.Grind.{get_or_default_zero}
use Rattle.demand_book.specs.Changes.{none}
use Rattle.demand_book.proofs.Changing.{next-same, next-differs}
use Rattle.demand_book.proofs.change.changed_numbers.Goals as goal
use Rattle.demand_book.proofs.change.changed_numbers.Goals.{then-old-at+in_ok-push, else-old-at}

pub loop-at-init : goal.loop-at-init
loop-at-init c = rw c.new-entries.ensures.items none

pub loop-at-preserved : goal.loop-at-preserved
loop-at-preserved c =
    let old = c.args.old.now in
    let new = c.args.new.now in
    let at = c.loop-at.at in
    let in_old : at < length old = omega arith in
    let in_new : at < length new = omega arith in
    let old-is = sym (get_or_default_zero old at (get_or old at 0) in_old) in
    let new-is = sym (get_or_default_zero new at (get_or new at 0) in_new) in
    elim c.if-old-at.branch [
      | then-old-at+in_ok-push w ↦
          rw (w.entries-is, w.in_ok-push.ensures.items)
          (next-differs old new c.loop-at.entries.items at (get_or old at 0) (get_or new at 0) in_old in_new old-is new-is w.if-old-at.true c.loop-at.invariant)
      | else-old-at w ↦
          rw w.entries-is
          (next-same old new c.loop-at.entries.items at (get_or old at 0) (get_or new at 0) in_old in_new old-is new-is w.if-old-at.false c.loop-at.invariant)
    ]
