use Rattle.std.proofs.Common.{◌∙◌, subst, sym}
use Rattle.bwe_specs.specs.Allocation.{Plan}
use Rattle.audit_answer.specs.Known.{IsKnown}
use Rattle.audit_answer.proofs.audit_line.solved_and_rewound.Goals as goal

pub invariant_of-result : goal.invariant_of-result
invariant_of-result c = record {
  right = subst (λ (plan : Plan). IsKnown plan c.in_ok-known.known) (sym (c.in_ok-allocator-2.ensures.plan ∙ c.known_of.ensures.plan)) c.in_ok-known.ensures.known;
}
