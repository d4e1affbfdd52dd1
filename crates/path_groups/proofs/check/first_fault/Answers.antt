use Rattle.std.proofs.Common.{◌∙◌, sym, ◌<◌, length}
use Rattle.std.specs.Prelude.{All}
use Rattle.bwe_specs.specs.Given.{group_of}
use Rattle.path_groups.specs.Faults.{plan_fault, group_fault}
use Rattle.path_groups.proofs.Lists.{All-map_item}
use Rattle.path_groups.proofs.FirstFaults.{first_fault-next, first_fault-found, first_fault-end}
use Rattle.path_groups.proofs.check.first_fault.Goals as goal

pub fault_of_group-requires : goal.fault_of_group-requires
fault_of_group-requires c =
    All-map_item (λ group. All (All (λ path. All (λ link. link < length c.args.topology.now.capacities) path.links)) group.path_groups) group_of c.args.groups.now c.loop-group.group c.index-groups-group.result c.loop-group-test.true c.index-groups-group.is c.requires.in_range

pub returns-in-Some : goal.returns-in-Some
unfolding plan_fault
returns-in-Some c =
    sym (c.loop-group.invariant ∙ first_fault-found (group_fault c.args.topology.now) group_of c.args.groups.now c.loop-group.group c.index-groups-group.result c.loop-group-test.true c.index-groups-group.is c.in-Some.fault (sym c.fault_of_group.ensures ∙ c.in-Some.is))

pub loop-group-preserved : goal.loop-group-preserved
loop-group-preserved c =
    c.loop-group.invariant ∙ first_fault-next (group_fault c.args.topology.now) group_of c.args.groups.now c.loop-group.group c.index-groups-group.result c.loop-group-test.true c.index-groups-group.is (sym c.fault_of_group.ensures ∙ c.in_default.is)

pub returns : goal.returns
unfolding plan_fault
returns c =
    sym (c.loop-group.invariant ∙ first_fault-end (group_fault c.args.topology.now) group_of c.args.groups.now c.loop-group.group c.loop-group-test.false)
