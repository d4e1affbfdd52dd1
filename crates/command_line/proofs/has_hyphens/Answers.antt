use Rattle.std.proofs.Common.{String, string_bytes, rules, tests, ◌∙◌, Global}
use Rattle.std.proofs.lemmas.Iterator.{YieldsList-from_slice}
use Rattle.std.proofs.lemmas.Iterator.Search.{any_from_yields_List}
use Rattle.clap.proofs.WalkLemmas.{list_any-map}
use Rattle.command_line.specs.Lines.{is_hyphens}
use Rattle.command_line.proofs.has_hyphens.Goals as goal

pub returns : goal.returns
returns c =
    any_from_yields_List (λ (word : String Global). is_hyphens (string_bytes word)) _ _ c.any.result c.any.ensures.ran (YieldsList-from_slice c.args.words.now cc) (λ x b q k. search (rules, tests))
    ∙ list_any-map is_hyphens (λ (word : String Global). string_bytes word) c.args.words.now
