use Rattle.std.proofs.Common.{◌≡◌, [], sym, ◌∙◌}
use Rattle.text_scan.specs.Words.{words_of}
use Rattle.live_lines.proofs.MeaningFacts.{no_words, one_word, two_words, three_words, four_words, five_words, not_some, no_report}
use Rattle.live_lines.proofs.known.Known.meaning_of_words.Goals as goal

pub returns-in_default-clause-exact : goal.returns-in_default-clause-exact
returns-in_default-clause-exact c =
    let none : c.new-words.result ≡ [] = not_some c.next_word.result (c.new-words.result ≡ []) c.in_default.not-Some c.next_word.ensures.none in
    no_words c.args.self.now (words_of c.args.text.now) (sym c.new-words.ensures ∙ none)

pub returns-in_default-next_word-clause-exact : goal.returns-in_default-next_word-clause-exact
returns-in_default-next_word-clause-exact c =
    let none : c.next_word.new.self ≡ [] = not_some c.next_word-2.result (c.next_word.new.self ≡ []) c.in_default-next_word.not-Some c.next_word-2.ensures.none in
    c.command_of.ensures ∙ one_word c.args.self.now (words_of c.args.text.now) c.next_word.new.self c.in-Some.kind.now (sym c.new-words.ensures ∙ c.in-Some.ensures.some) none

pub returns-in_default-next_word-clause-fit : goal.returns-in_default-next_word-clause-fit
returns-in_default-next_word-clause-fit c = rw c.command_of.ensures (no_report c.in-Some.kind.now _)

pub returns-in_default-next_word-clause-owned : goal.returns-in_default-next_word-clause-owned
returns-in_default-next_word-clause-owned c = rw c.command_of.ensures (no_report c.in-Some.kind.now _)

pub returns-in_default-next_word-2-clause-exact : goal.returns-in_default-next_word-2-clause-exact
returns-in_default-next_word-2-clause-exact c =
    let none : c.next_word-2.new.self ≡ [] = not_some c.next_word-3.result (c.next_word-2.new.self ≡ []) c.in_default-next_word-2.not-Some c.next_word-3.ensures.none in
    two_words c.args.self.now (words_of c.args.text.now) c.next_word.new.self c.next_word-2.new.self c.in-Some.kind.now c.in-Some-next_word.reporter.now
    (sym c.new-words.ensures ∙ c.in-Some.ensures.some) c.in-Some-next_word.ensures.some none

pub returns-in_default-next_word-3-clause-exact : goal.returns-in_default-next_word-3-clause-exact
returns-in_default-next_word-3-clause-exact c =
    let none : c.next_word-3.new.self ≡ [] = not_some c.next_word-4.result (c.next_word-3.new.self ≡ []) c.in_default-next_word-3.not-Some c.next_word-4.ensures.none in
    three_words c.args.self.now (words_of c.args.text.now) c.next_word.new.self c.next_word-2.new.self c.next_word-3.new.self c.in-Some.kind.now c.in-Some-next_word.reporter.now c.in-Some-next_word-2.name.now
    (sym c.new-words.ensures ∙ c.in-Some.ensures.some) c.in-Some-next_word.ensures.some c.in-Some-next_word-2.ensures.some none

pub returns-in-Some-next_word-4-clause-exact : goal.returns-in-Some-next_word-4-clause-exact
returns-in-Some-next_word-4-clause-exact c =
    five_words c.args.self.now (words_of c.args.text.now) c.next_word.new.self c.next_word-2.new.self c.next_word-3.new.self c.next_word-4.new.self c.next_word-5.new.self
    c.in-Some.kind.now c.in-Some-next_word.reporter.now c.in-Some-next_word-2.name.now c.in-Some-next_word-3.amount.now c.in-Some-next_word-4.field-0.now
    (sym c.new-words.ensures ∙ c.in-Some.ensures.some) c.in-Some-next_word.ensures.some c.in-Some-next_word-2.ensures.some c.in-Some-next_word-3.ensures.some c.in-Some-next_word-4.ensures.some

pub returns-in-None-clause-exact : goal.returns-in-None-clause-exact
returns-in-None-clause-exact c =
    c.reported.ensures.exact
    ∙ four_words c.args.self.now (words_of c.args.text.now) c.next_word.new.self c.next_word-2.new.self c.next_word-3.new.self c.next_word-4.new.self
    c.in-Some.kind.now c.in-Some-next_word.reporter.now c.in-Some-next_word-2.name.now c.in-Some-next_word-3.amount.now
    (sym c.new-words.ensures ∙ c.in-Some.ensures.some) c.in-Some-next_word.ensures.some c.in-Some-next_word-2.ensures.some c.in-Some-next_word-3.ensures.some c.in-None.ensures.none
