-- An acknowledgement that holds what was seen holds what that begins with.
use Rattle.std.proofs.Common.{List, Result, Ok, Err}
use Rattle.std.specs.Prelude.{IfOk}
use mathlib.Core.List.{IsPrefix}
use Rattle.bwe_specs.specs.declared.report.Report.{Report}
use Rattle.board_log.proofs.Prefixes.{prefix_trans}

pub holds_more : {E : Type 0} (result : Result (List Report) E) (known seen : List Report) → IsPrefix known seen → IfOk result (λ ack. IsPrefix seen ack) → IfOk result (λ ack. IsPrefix known ack)
holds_more (Ok ack) known seen begins holds = prefix_trans known seen ack begins holds
holds_more (Err error) known seen begins holds = tt
