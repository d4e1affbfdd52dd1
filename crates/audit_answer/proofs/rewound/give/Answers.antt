use Rattle.std.proofs.Common.{◌≡◌, arith}
use Rattle.std.proofs.lemmas.List.{ext_get_or}
use Rattle.wan_topology.proofs.Networks.{same-network}
use Rattle.audit_answer.proofs.rewound.give.Goals as goal

pub returns : goal.returns
returns c =
    let made = c.loop-link.topology in
    let same : made.capacities ≡ c.args.given.now = ext_get_or 0 made.capacities c.args.given.now (omega (arith, c.loop-link.invariant.count, c.requires.links)) (λ link within. c.loop-link.invariant.given link (omega (arith, within, c.loop-link.invariant.count))) in
    same-network made _ c.loop-link.invariant.names c.loop-link.invariant.sites same
