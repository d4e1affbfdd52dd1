use Rattle.std.proofs.Common.{◌<◌, ◌∙◌, subst, arith}
use Rattle.policy_tree.proofs.Inverses.{IsInner, inner-is, last-whole, last-past}
use Rattle.policy_tree.proofs.value.last_by_parent.Goals as goal

pub returns-then-inner-end-clause-last : goal.returns-then-inner-end-clause-last
returns-then-inner-end-clause-last g c =
    let sum = g.P.ShareFunction.meaning c.args.sum.now in
    let is = c.last_inner-inner.ensures.meaning in
    let at : IsInner (g.P.ShareFunction.meaning c.args.sum.now) c.args.amount c.args.parent.now.top c.last_inner-inner.result =
    subst (λ end. IsInner (g.P.ShareFunction.meaning c.args.sum.now) c.args.amount end c.last_inner-inner.result) c.top-end.ensures.top (inner-is sum c.args.amount c.top-end.result c.last_inner-inner.result is c.last_inner-inner.ensures.last) in
    last-whole c.args.parent.now sum c.args.amount c.args.top c.last_inner-inner.result is at (c.if-inner-end.true ∙ c.top-end.ensures.top)

pub overflow_add-inner : goal.overflow_add-inner
overflow_add-inner g c =
    let at = inner-is (g.P.ShareFunction.meaning c.args.sum.now) c.args.amount c.top-end.result c.last_inner-inner.result c.last_inner-inner.ensures.meaning c.last_inner-inner.ensures.last in
    omega (arith, at.upto, c.top-end.ensures.top, c.top-end.ensures.function.high)

pub overflow_sub-next : goal.overflow_sub-next
overflow_sub-next g c =
    let at = inner-is (g.P.ShareFunction.meaning c.args.sum.now) c.args.amount c.top-end.result c.last_inner-inner.result c.last_inner-inner.ensures.meaning c.last_inner-inner.ensures.last in
    let lt : c.last_inner-inner.result < c.top-end.result = omega (arith, at.upto, c.if-inner-end.false) in
    omega (arith, at.over lt, c.value-next.ensures.value)

pub returns-clause-last : goal.returns-clause-last
returns-clause-last g c =
    let sum = g.P.ShareFunction.meaning c.args.sum.now in
    let is = c.last_inner-inner.ensures.meaning in
    let here = inner-is sum c.args.amount c.top-end.result c.last_inner-inner.result is c.last_inner-inner.ensures.last in
    let at : IsInner (g.P.ShareFunction.meaning c.args.sum.now) c.args.amount c.args.parent.now.top c.last_inner-inner.result =
    subst (λ end. IsInner (g.P.ShareFunction.meaning c.args.sum.now) c.args.amount end c.last_inner-inner.result) c.top-end.ensures.top here in
    let lt : c.last_inner-inner.result < c.args.parent.now.top = omega (arith, here.upto, c.if-inner-end.false, c.top-end.ensures.top) in
    c.last_share_within.ensures.last ∙ last-past c.args.parent.now sum c.args.amount c.args.top c.last_inner-inner.result c.value-next.result is at lt c.value-next.ensures.value
