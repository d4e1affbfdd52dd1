use Rattle.std.proofs.Common.{◌∙◌, sym, arith}
use Rattle.tier_text.proofs.Parts.{fault-found, fault-none}
use Rattle.tier_text.proofs.part.first_fault.Goals as goal

pub returns-then-not-is_due : goal.returns-then-not-is_due
returns-then-not-is_due c =
    sym (fault-found c.args.groups c.args.part.now c.loop-at.at (omega (arith, c.from-at-end.ensures)) (sym c.is_due.ensures ∙ c.if-not-is_due.true) c.loop-at.invariant)

pub returns : goal.returns
returns c = sym (fault-none c.args.groups c.args.part.now (λ k lt. c.loop-at.invariant k (omega (arith, c.from-at-end.ensures))))
