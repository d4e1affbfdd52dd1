use Rattle.std.proofs.Common.{subst, sym}
use Rattle.bwe_specs.specs.Allocation.{Plan}
use Rattle.audit_answer.specs.Known.{IsKnown}
use Rattle.audit_answer.proofs.known.KnowingAllocatorMaker.absorb.Goals as goal

pub invariant_of-self : goal.invariant_of-self
invariant_of-self c = record {
  right = subst (λ (plan : Plan). IsKnown plan c.args.self.now.known) (sym c.absorb.ensures.plan) c.args.self.now.right;
}
