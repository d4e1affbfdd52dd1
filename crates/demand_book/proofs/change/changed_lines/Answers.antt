use Rattle.std.proofs.Common.{◌≡◌, ◌<◌, arith, length, true, ◌∙◌}
use Rattle.demand_book.specs.Changes.{none}
use Rattle.demand_book.proofs.Changing.{next-same, next-differs, same_read}
use Rattle.demand_book.proofs.change.changed_lines.Goals as goal
use Rattle.demand_book.proofs.change.changed_lines.Goals.{then-not-is_equal_line+in_ok-copy_line+in_ok-push, else-not-is_equal_line}

pub loop-at-init : goal.loop-at-init
loop-at-init c = rw c.new-entries.ensures.items none

pub loop-at-preserved : goal.loop-at-preserved
loop-at-preserved c =
    let old = c.args.old.now in
    let new = c.args.new.now in
    let at = c.loop-at.at in
    let in_old : at < length old = omega arith in
    let in_new : at < length new = omega arith in
    elim c.if-not-is_equal_line.branch [
      | then-not-is_equal_line+in_ok-copy_line+in_ok-push w ↦
          let other = w.if-not-is_equal_line.true in
          let copied : w.in_ok-copy_line.field-0 ≡ c.index-new-at.result =
          w.in_ok-copy_line.ensures ∙ same_read new at _ _ in_new w.index-new-at-then-not-is_equal_line.is c.index-new-at.is in
          rw (w.entries-is, w.in_ok-push.ensures.items, copied)
          (next-differs old new c.loop-at.entries.items at c.index-old-at.result c.index-new-at.result in_old in_new c.index-old-at.is c.index-new-at.is
          (λ e. let equal : c.is_equal_line.result ≡ true = c.is_equal_line.ensures.1 e in absurd (cc)) c.loop-at.invariant)
      | else-not-is_equal_line w ↦
          rw w.entries-is
          (next-same old new c.loop-at.entries.items at c.index-old-at.result c.index-new-at.result in_old in_new c.index-old-at.is c.index-new-at.is
          (c.is_equal_line.ensures.0 w.if-not-is_equal_line.false) c.loop-at.invariant)
    ]
