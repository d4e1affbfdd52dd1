use Rattle.std.proofs.Common.{ℕ, List, ap, ◌∙◌}
use Rattle.std.specs.Prelude.{option_map}
use Rattle.text_scan.specs.Words.{words_of}
use Rattle.live_lines.specs.Meaning.{meaning_of_words}
use Rattle.live_lines.proofs.MeaningFacts.{text_line, no_text}
use Rattle.live_lines.proofs.known.Known.meaning.Goals as goal

pub returns-in-Ok-clause-exact : goal.returns-in-Ok-clause-exact
returns-in-Ok-clause-exact c =
    c.meaning_of_words.ensures.exact
    ∙ ap (λ (text : List ℕ). meaning_of_words c.args.self.now (words_of text)) c.in-Ok.ensures.cases.0
    ∙ text_line c.args.self.now (option_map (λ text. text.now) c.args.line) c.in-Some.bytes.now (ap (option_map (λ text. text.now)) c.in-Some.is) c.in-Ok.ensures.cases.1

pub returns-in-Err-clause-exact : goal.returns-in-Err-clause-exact
returns-in-Err-clause-exact c =
    no_text c.args.self.now (option_map (λ text. text.now) c.args.line) c.in-Some.bytes.now (ap (option_map (λ text. text.now)) c.in-Some.is) c.in-Err.ensures.cases.0
