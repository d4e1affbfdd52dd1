use Rattle.std.proofs.Common.{ℕ, List, arith, sym, ap, ◌∙◌}
use Rattle.std.specs.Str.{bytes_eq}
use Rattle.doc_names.proofs.NameLists.{found_here, none_found}
use Rattle.doc_names.proofs.name_list.NameList.position.Goals as goal

pub returns-then-eq : goal.returns-then-eq
returns-then-eq c =
    found_here (bytes_eq c.args.name.now) c.args.self.now c.loop-number.number (omega arith)
    (ap (λ (name : List ℕ). bytes_eq c.args.name.now name) (sym (c.as_bytes.ensures.value ∙ c.name.ensures)) ∙ sym c.eq.ensures ∙ c.if-eq.true) c.loop-number.invariant

pub returns : goal.returns
returns c = none_found (bytes_eq c.args.name.now) c.args.self.now c.loop-number.number (omega arith) c.loop-number.invariant
