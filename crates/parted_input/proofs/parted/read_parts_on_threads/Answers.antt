use Rattle.parted_input.proofs.Behind.{accepted_behind}
use Rattle.parted_input.proofs.parted.read_parts_on_threads.Goals as goal

pub returns-in-Ok : goal.returns-in-Ok
returns-in-Ok g c =
    let read = c.in-Ok.ensures.exact in
    (read.0, accepted_behind c.args.input.now c.in-Some.parts _ _ read.0 c.in-Some.ensures.exact read.1 c.document.ensures c.second.ensures, (_, read.1), read.2, c.in-Ok.ensures.usable)
