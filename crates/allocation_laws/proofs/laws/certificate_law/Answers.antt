use Rattle.std.proofs.Common.{sym, subst}
use Rattle.bwe_specs.specs.RightClosings.{AreRightToTop}
use Rattle.bwe_specs.proofs.Certificates.{right-closings, filling-right}
use Rattle.allocation_laws.proofs.laws.certificate_law.Goals as goal

pub returns : goal.returns
returns c wan never closings =
    (λ right. (right-closings wan never closings right).0, λ e. subst (AreRightToTop wan) (sym e) (filling-right wan never))
