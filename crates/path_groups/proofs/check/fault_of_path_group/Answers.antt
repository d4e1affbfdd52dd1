use Rattle.std.proofs.Common.{◌∙◌, sym, ◌<◌, length}
use Rattle.std.specs.Prelude.{All}
use Rattle.std.proofs.lemmas.List.{length-map}
use Rattle.bwe_specs.specs.Given.{path_of, group_of}
use Rattle.path_groups.specs.Faults.{path_fault}
use Rattle.path_groups.proofs.Lists.{All-map_item}
use Rattle.path_groups.proofs.FirstFaults.{first_fault-next, first_fault-found, first_fault-end}
use Rattle.path_groups.proofs.CauseOrder.{path_group_fault-empty, path_group_fault-many, path_group_fault-read}
use Rattle.path_groups.proofs.check.fault_of_path_group.Goals as goal

pub returns-then-is_empty : goal.returns-then-is_empty
returns-then-is_empty c =
    sym (path_group_fault-empty c.args.topology.now c.args.group (group_of c.args.spec.now) c.args.place _ (rw (length-map c.args.paths.now path_of) (sym c.is_empty.ensures ∙ c.if-is_empty.true)))

pub returns-then-paths-gt-MAX_PATHS : goal.returns-then-paths-gt-MAX_PATHS
returns-then-paths-gt-MAX_PATHS c =
    sym (path_group_fault-many c.args.topology.now c.args.group (group_of c.args.spec.now) c.args.place _ (rw (length-map c.args.paths.now path_of) c.if-paths-gt-MAX_PATHS.true))

pub fault_of_path-requires : goal.fault_of_path-requires
fault_of_path-requires c =
    All-map_item (λ path. All (λ link. link < length c.args.topology.now.capacities) path.links) path_of c.args.paths.now c.loop-number.number c.index-paths-number.result c.loop-number-test.true c.index-paths-number.is c.requires

pub returns-in-Some : goal.returns-in-Some
returns-in-Some c =
    sym (path_group_fault-read c.args.topology.now c.args.group (group_of c.args.spec.now) c.args.place c.args.paths.now (sym c.is_empty.ensures ∙ c.if-is_empty.false) c.if-paths-gt-MAX_PATHS.false ∙ c.loop-number.invariant
    ∙ first_fault-found (path_fault c.args.topology.now c.args.group (group_of c.args.spec.now) c.args.place) path_of c.args.paths.now c.loop-number.number c.index-paths-number.result c.loop-number-test.true c.index-paths-number.is c.in-Some.fault (sym c.fault_of_path.ensures ∙ c.in-Some.is))

pub loop-number-preserved : goal.loop-number-preserved
loop-number-preserved c =
    c.loop-number.invariant
    ∙ first_fault-next (path_fault c.args.topology.now c.args.group (group_of c.args.spec.now) c.args.place) path_of c.args.paths.now c.loop-number.number c.index-paths-number.result c.loop-number-test.true c.index-paths-number.is (sym c.fault_of_path.ensures ∙ c.in_default.is)

pub returns : goal.returns
returns c =
    sym (path_group_fault-read c.args.topology.now c.args.group (group_of c.args.spec.now) c.args.place c.args.paths.now (sym c.is_empty.ensures ∙ c.if-is_empty.false) c.if-paths-gt-MAX_PATHS.false ∙ c.loop-number.invariant
    ∙ first_fault-end (path_fault c.args.topology.now c.args.group (group_of c.args.spec.now) c.args.place) path_of c.args.paths.now c.loop-number.number c.loop-number-test.false)
