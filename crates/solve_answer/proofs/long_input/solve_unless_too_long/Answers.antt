use Rattle.std.proofs.Common.{◌<◌, arith, length}
use Rattle.one_run.specs.Endings.{max_input}
use Rattle.solve_answer.proofs.LongInputs.{accepted-for-input}
use Rattle.solve_answer.proofs.long_input.solve_unless_too_long.Goals as goal

pub returns-in-Ok : goal.returns-in-Ok
returns-in-Ok g c =
    let whole : max_input < length c.args.input.items = omega arith in
    let long : max_input < length c.deref-2.result.now = rw c.deref-2.ensures.value whole in
    let found = accepted-for-input c.deref-2.result.now c.in-Ok.document c.in-Ok.ensures.exact long
    c.solve_of_version_4.result c.solve_of_version_4.ensures.table c.solve_of_version_4.ensures.other in
    rw c.deref-2.ensures.value at found
