use Rattle.std.proofs.Common.{◌≡◌, Ok, sym, subst}
use Rattle.std.specs.Prelude.{IfSome}
use Rattle.raw_document.specs.Raw.{group_view}
use Rattle.raw_document.specs.Forms.{group_at}
use Rattle.raw_reader.specs.Takes.{Takes}
use Rattle.raw_reader.proofs.groups.RawGroupPart.read.Goals as goal

pub returns-clause-value : goal.returns-clause-value
returns-clause-value c =
    subst (λ ts. IfSome c.read_behind_brace.result (λ x. Takes c.args.depth ts c.read_behind_brace.new.reader (λ d. group_at c.args.version d ≡ Ok (group_view x)))) (sym c.in_ok-open_object.ensures.0) c.read_behind_brace.ensures.value
