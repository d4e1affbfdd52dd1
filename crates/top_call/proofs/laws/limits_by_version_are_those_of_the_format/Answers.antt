use Rattle.std.proofs.Common.{Bool, ap}
use Rattle.std.specs.Prelude.{if◌then◌else◌}
use Rattle.std.proofs.lemmas.Bool.{ne_eqb}
use Rattle.bwe_specs.specs.DocumentLimits.{limits_before_4, limits_of_4}
use Rattle.top_call.proofs.laws.limits_by_version_are_those_of_the_format.Goals as goal

pub returns-clause-before_4 : goal.returns-clause-before_4
returns-clause-before_4 c = λ version other. ap (λ (is_4 : Bool). if is_4 then limits_of_4 else limits_before_4) (ne_eqb version 4 other)
