use Rattle.std.proofs.Common.{ℕ, List, Bor, rules, tests, sym, ◌∙◌}
use Rattle.std.specs.Str.{bytes_eq}
use Rattle.std.proofs.lemmas.Iterator.{YieldsList-from_slice}
use Rattle.std.proofs.lemmas.Iterator.Search.{any_from_yields_List}
use Rattle.doc_passes.proofs.NameTables.{list_any-texts}
use Rattle.doc_passes.proofs.few_names.has_name.Goals as goal

pub returns : goal.returns
returns c =
    any_from_yields_List (λ (other : Bor (List ℕ)). bytes_eq c.args.name.now other.now) _ _ c.any.result c.any.ensures.ran (YieldsList-from_slice c.args.names.now cc) (λ x b q k. search (rules, tests))
    ∙ sym (list_any-texts (bytes_eq c.args.name.now) c.args.names.now)
