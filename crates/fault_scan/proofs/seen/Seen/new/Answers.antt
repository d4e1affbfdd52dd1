use Rattle.std.proofs.Common.{arith}
use Rattle.fault_scan.specs.Seen.{fields_in}
use Rattle.fault_scan.proofs.Keys.{only_none}
use Rattle.fault_scan.proofs.Slots.{fields_more, empty_more}
use Rattle.fault_scan.proofs.seen.Seen.new.Goals as goal

pub fields-preserved : goal.fields-preserved
fields-preserved c =
    let before = c.fields.slots.items in
    let now = c.push_empty.new.slots.items in (
      fields_more before now c.args.fields.now c.fields.field-index _ c.in_ok-push_empty.ensures (omega (arith, c.fields-test.true)) c.fields.invariant.0,
      λ version. empty_more version before now _ c.in_ok-push_empty.ensures (c.fields.invariant.1 version),
    )

pub returns-clause-empty : goal.returns-clause-empty
returns-clause-empty c = λ version. (c.fields.invariant.1 version, only_none (fields_in c.fields.slots.items))
