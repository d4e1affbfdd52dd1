use Rattle.std.proofs.Common.{rules, ◌≡◌, length, sym, subst}
use Rattle.tree_spec.specs.Tasks.{AreInRange}
use Rattle.capped_sum.proofs.Meanings.{idle-in_range, length-idle}
use Rattle.capped_sum.proofs.capped_sum.CappedSum.new.Goals as goal

pub invariant_of-result : goal.invariant_of-result
invariant_of-result c =
    let size : length c.in_ok-tasks.tasks.items ≡ length c.args.weights.now = rw c.in_ok-tasks.ensures (length-idle c.args.weights.now) in
    record {
      in_range = subst AreInRange (sym c.in_ok-tasks.ensures) (idle-in_range c.args.weights.now c.requires.few c.requires.weights);
      ranks = search rules;
      sums = search rules;
      full_sums = search rules;
      index = λ is. absurd (cc);
      when_full = λ is. absurd (cc);
    }
