use Rattle.std.proofs.Common.{◌∙◌, ◌+◌, ◌==◌, sym, ap, get_or}
use Rattle.std.specs.List.{list_any}
use Rattle.std.proofs.lemmas.List.{take_rest}
use Rattle.path_groups.proofs.Chains.{repeats-again, repeats-on, repeats-end}
use Rattle.path_groups.proofs.check.repeats.Goals as goal

pub returns-then-stands_in : goal.returns-then-stands_in
returns-then-stands_in c =
    sym (c.loop-hop.invariant ∙ repeats-again c.args.links.now c.loop-hop.hop c.loop-hop-test.true
    (ap (list_any (λ other. other == get_or c.args.links.now c.loop-hop.hop 0)) (sym (take_rest c.args.links.now (c.loop-hop.hop + 1))) ∙ sym c.stands_in.ensures ∙ c.if-stands_in.true))

pub loop-hop-preserved : goal.loop-hop-preserved
loop-hop-preserved c =
    c.loop-hop.invariant ∙ repeats-on c.args.links.now c.loop-hop.hop c.loop-hop-test.true
    (ap (list_any (λ other. other == get_or c.args.links.now c.loop-hop.hop 0)) (sym (take_rest c.args.links.now (c.loop-hop.hop + 1))) ∙ sym c.stands_in.ensures ∙ c.if-stands_in.false)

pub returns : goal.returns
returns c = sym (c.loop-hop.invariant ∙ repeats-end c.args.links.now c.loop-hop.hop c.loop-hop-test.false)
