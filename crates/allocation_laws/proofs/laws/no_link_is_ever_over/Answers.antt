use Rattle.bwe_specs.proofs.Loads.{fits-each}
use Rattle.bwe_specs.proofs.Steps.{reached-sound}
use Rattle.allocation_laws.proofs.laws.no_link_is_ever_over.Goals as goal

pub returns : goal.returns
returns c wan never state reached link lt =
    fits-each wan.groups wan.capacities state.amounts (reached-sound wan never state reached).fits link lt
