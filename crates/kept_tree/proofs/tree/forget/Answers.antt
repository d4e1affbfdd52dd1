use Rattle.std.proofs.Common.{List, subst, sym, arith}
use Rattle.policy_tree.specs.Trees.{asking}
use Rattle.kept_tree.specs.declared.group.KnownGroup.{KnownGroup}
use Rattle.kept_tree.specs.Known.{AreKnown}
use Rattle.kept_tree.proofs.Dropped.{written}
use Rattle.kept_tree.proofs.tree.forget.Goals as goal

pub returns-in-Some-clause-asking : goal.returns-in-Some-clause-asking
returns-in-Some-clause-asking c =
    λ demand. subst (λ (known : List KnownGroup). AreKnown (asking c.args.tree.now c.args.task demand) known)
    (sym (written c.in-Some.known.len c.forget_owner.new.known c.in-Some.known.items (omega (arith, c.in-Some.known.ok.0)) (omega (arith, c.forget_owner.auto.known))))
    (c.forget_owner.ensures.asking demand)
