use Rattle.std.proofs.Common.{◌∙◌, subst, sym}
use Rattle.std.proofs.lemmas.Result.{IfOk-weaker}
use Rattle.bwe_specs.specs.Allocation.{Plan}
use Rattle.audit_answer.specs.Known.{IsKnown}
use Rattle.audit_answer.proofs.KnownTables.{known-stands}
use Rattle.audit_answer.proofs.known.KnowingAllocatorMaker.table.Goals as goal

pub returns-then-stands-clause-table : goal.returns-then-stands-clause-table
returns-then-stands-clause-table c =
    let knowing = c.args.self.now in
    let known = knowing.known in
    let reported = knowing.allocator.reported in
    IfOk-weaker c.copy.result _ _
    (λ made same reports after.
    same ∙ known-stands reported knowing.allocator.groups reports after known.demands.items known.capacities.items
    (c.stands.ensures.demands c.if-stands.true) (c.stands.ensures.capacities c.if-stands.true) known.table knowing.right
    (c.stands.ensures.prefix c.if-stands.true))
    c.copy.ensures

pub invariant_of-self-2 : goal.invariant_of-self-2
invariant_of-self-2 c = record {
  right = subst (λ (plan : Plan). IsKnown plan c.args.self.now.known) (sym c.table.ensures.plan) c.args.self.now.right;
}
