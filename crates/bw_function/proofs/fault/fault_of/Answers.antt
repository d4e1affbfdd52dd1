use Rattle.std.proofs.Common.{◌≡◌, ◌+◌, ◌-◌, drop, get_or, [], true, false, sym, ◌∙◌, ap, arith}
use Rattle.std.proofs.lemmas.List.{drop_all}
use Rattle.std.specs.Option.{is_some}
use Rattle.bw_function.specs.Faults.{later_fault}
use Rattle.bw_function.proofs.Faults.{fault-start, fault-step, fault-end, some-or, none-or}
use Rattle.bw_function.proofs.fault.fault_of.Goals as goal

pub loop-at-init : goal.loop-at-init
loop-at-init c = fault-start c.args.points.now c.args.top c.in-len1-up.len_at_least c.if-first-gt0.false c.if-first-gt0-2.false

pub returns-then-is_some : goal.returns-then-is_some
returns-then-is_some c =
    let e : is_some c.fault_after-fault.result ≡ true = sym c.is_some.ensures ∙ c.if-is_some.true in
    c.fault_after-fault.ensures
    ∙ sym (some-or _ _ (ap is_some (sym c.fault_after-fault.ensures) ∙ e))
    ∙ sym (fault-step c.args.points.now c.args.top c.loop-at.at _ c.loop-at-test.true)
    ∙ sym c.loop-at.invariant

pub loop-at-preserved : goal.loop-at-preserved
loop-at-preserved c =
    let e : is_some c.fault_after-fault.result ≡ false = sym c.is_some.ensures ∙ c.if-is_some.false in
    let back : c.loop-at.at + 1 - 1 ≡ c.loop-at.at = omega arith in
    c.loop-at.invariant
    ∙ fault-step c.args.points.now c.args.top c.loop-at.at _ c.loop-at-test.true
    ∙ none-or _ _ (ap is_some (sym c.fault_after-fault.ensures) ∙ e)
    ∙ ap (λ k. later_fault (get_or c.args.points.now k (0, 0)) (drop (c.loop-at.at + 1) c.args.points.now) c.args.top (c.loop-at.at + 1)) (sym back)

pub returns : goal.returns
returns c =
    let none : drop c.loop-at.at c.args.points.now ≡ [] = drop_all c.loop-at.at c.args.points.now c.loop-at-test.false in
    sym (c.loop-at.invariant ∙ fault-end c.args.points.now c.args.top c.loop-at.at _ none)
