use Rattle.std.proofs.Common.{◌∙◌, sym, ap, ◌<◌, length, map, drop, ◌+◌, arith}
use Rattle.std.specs.Prelude.{All}
use Rattle.std.proofs.lemmas.List.{length-map}
use Rattle.bwe_specs.specs.Given.{path_of, path_group_of, group_of}
use Rattle.path_groups.specs.Faults.{first_fault, path_group_fault}
use Rattle.path_groups.proofs.Lists.{All-map_item}
use Rattle.path_groups.proofs.FirstFaults.{first_fault-next, first_fault-found, first_fault-end}
use Rattle.path_groups.proofs.CauseOrder.{group_fault-many, group_fault-empty, group_fault-read}
use Rattle.path_groups.proofs.check.fault_of_group.Goals as goal

pub returns-then-len-gt-MAX_PATH_GROUPS : goal.returns-then-len-gt-MAX_PATH_GROUPS
returns-then-len-gt-MAX_PATH_GROUPS c =
    sym (group_fault-many c.args.topology.now c.args.group (group_of c.args.spec.now) (omega (arith, c.len.ensures, c.args.spec.now.places.ok.0, length-map c.args.spec.now.places.items path_group_of)))

pub returns-then-is_empty : goal.returns-then-is_empty
returns-then-is_empty c =
    sym (group_fault-empty c.args.topology.now c.args.group (group_of c.args.spec.now)
    (omega (arith, c.if-len-gt-MAX_PATH_GROUPS.false, c.len.ensures, c.args.spec.now.places.ok.0, length-map c.args.spec.now.places.items path_group_of))
    (rw (length-map c.args.spec.now.places.items path_group_of, ← c.args.spec.now.places.ok.0) (sym c.is_empty.ensures ∙ c.if-is_empty.true)))

pub fault_of_path_group-requires : goal.fault_of_path_group-requires
fault_of_path_group-requires c =
    rw c.deref.ensures.value
    (All-map_item (All (λ path. All (λ link. link < length c.args.topology.now.capacities) path.links)) path_group_of c.deref-paths-items.result.now c.loop-place.place c.paths-item.result c.loop-place-test.true c.paths-item.is
    (rw c.deref-paths-items.ensures.value c.requires))

pub returns-in-Some : goal.returns-in-Some
returns-in-Some c =
    let fault = path_group_fault c.args.topology.now c.args.group (group_of c.args.spec.now) in
    let found = first_fault-found fault path_group_of c.deref-paths-items.result.now c.loop-place.place c.paths-item.result c.loop-place-test.true c.paths-item.is c.in-Some.fault
    (ap (λ paths. fault c.loop-place.place (map path_of paths)) (sym c.deref.ensures.value) ∙ sym c.fault_of_path_group.ensures ∙ c.in-Some.is) in
    sym (group_fault-read c.args.topology.now c.args.group c.args.spec.now (sym c.len.ensures) c.if-len-gt-MAX_PATH_GROUPS.false (sym c.is_empty.ensures ∙ c.if-is_empty.false) ∙ c.loop-place.invariant
    ∙ ap (λ places. first_fault fault c.loop-place.place (drop c.loop-place.place (map path_group_of places))) (sym c.deref-paths-items.ensures.value) ∙ found)

pub loop-place-preserved : goal.loop-place-preserved
loop-place-preserved c =
    let fault = path_group_fault c.args.topology.now c.args.group (group_of c.args.spec.now) in
    let next = first_fault-next fault path_group_of c.deref-paths-items.result.now c.loop-place.place c.paths-item.result c.loop-place-test.true c.paths-item.is
    (ap (λ paths. fault c.loop-place.place (map path_of paths)) (sym c.deref.ensures.value) ∙ sym c.fault_of_path_group.ensures ∙ c.in_default.is) in
    c.loop-place.invariant
    ∙ ap (λ places. first_fault fault c.loop-place.place (drop c.loop-place.place (map path_group_of places))) (sym c.deref-paths-items.ensures.value) ∙ next
    ∙ ap (λ places. first_fault fault (c.loop-place.place + 1) (drop (c.loop-place.place + 1) (map path_group_of places))) c.deref-paths-items.ensures.value

pub returns : goal.returns
returns c =
    let fault = path_group_fault c.args.topology.now c.args.group (group_of c.args.spec.now) in
    sym (group_fault-read c.args.topology.now c.args.group c.args.spec.now (sym c.len.ensures) c.if-len-gt-MAX_PATH_GROUPS.false (sym c.is_empty.ensures ∙ c.if-is_empty.false) ∙ c.loop-place.invariant
    ∙ ap (λ places. first_fault fault c.loop-place.place (drop c.loop-place.place (map path_group_of places))) (sym c.deref-paths-items.ensures.value)
    ∙ first_fault-end fault path_group_of c.deref-paths-items.result.now c.loop-place.place c.loop-place-test.false)
