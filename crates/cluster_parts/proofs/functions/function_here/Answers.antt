use Rattle.std.proofs.Common.{Err, [], ap, ◌∙◌, option_map}
use Rattle.bw_function.specs.declared.fault.FunctionFault.{FunctionFault}
use Rattle.cluster_parts.specs.Functions.{RefusedFunction}
use Rattle.cluster_parts.proofs.functions.function_here.Goals as goal

refused_with : FunctionFault → RefusedFunction
refused_with cause = record { path = []; cause = cause }

pub returns-in-Err-Refused : goal.returns-in-Err-Refused
unfolding refused_with
returns-in-Err-Refused c =
    rw c.new-in-Err-Refused.ensures.items (ap (option_map refused_with) ((c.new.ensures.refused c.in-Err-Refused.fault).0 (c.in-Err-Refused.is ∙ ap Err c.in-Err-Refused.field-0-is)))
