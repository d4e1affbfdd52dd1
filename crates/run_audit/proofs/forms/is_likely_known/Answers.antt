use Rattle.std.proofs.Common.{arith, rules, sym, ap, ◌∙◌}
use Rattle.std.specs.Str.{bytes_eq}
use Rattle.run_audit.proofs.Names.{known_at}
use Rattle.run_audit.proofs.forms.is_likely_known.Goals as goal

pub returns-then-eq : goal.returns-then-eq
returns-then-eq c =
    sym (known_at c.args.names.now c.in-Some.number c.name.result.now c.args.word.now (omega arith) c.name.ensures
    (ap (λ name. bytes_eq c.args.word.now name) (sym c.as_bytes.ensures.value) ∙ search rules))
