use Rattle.std.proofs.Common.{◌≡◌, ⊎_elim, sym, ap, ◌∙◌, [], subst}
use Rattle.clap.specs.Faults.{fault_of, is_simple_and_free}
use Rattle.clap.specs.Kinds.{HasKind}
use Rattle.clap.specs.Simple.{App, is_simple, subcommand_of}
use Rattle.clap.specs.Words.{kind_of}
use Rattle.command_line.specs.Lines.{texts_of}
use Rattle.command_line.specs.Matches.{bwe_app, line_met}
use Rattle.command_line.proofs.Apps.{is_matched, is_split}
use Rattle.command_line.proofs.Clear.{among-not_clear, is_clear}
use Rattle.command_line.proofs.Split.{clap_agrees}
use Rattle.command_line.proofs.matches.line_split.Goals as goal

pub returns-in-Ok : goal.returns-in-Ok
returns-in-Ok c =
    let words = texts_of c.args.words.now in
    let app = c.in_ok-command.ensures in
    let clear : fault_of bwe_app words ≡ [] = subst (λ (a : App). fault_of a words ≡ []) app (c.in-Ok.ensures.kinds (ap is_simple_and_free app ∙ is_split)) in
    let met = (c.in-Ok.ensures.matches (ap is_simple app ∙ is_matched)).1 ∙ ap (λ (a : App). subcommand_of a words) app in
    c.line_of_matches.ensures ∙ ap line_met met ∙ (clap_agrees words c.requires).0 (ap is_clear clear)

pub returns : goal.returns
returns c =
    let words = texts_of c.args.words.now in
    let app = c.in_ok-command.ensures in
    let kind : HasKind (fault_of bwe_app words) c.in-Err.error = subst (λ (a : App). HasKind (fault_of a words) c.in-Err.error) app (c.in-Err.ensures.kinds (ap is_simple_and_free app ∙ is_split)) in
    sym ((clap_agrees words c.requires).1 (⊎_elim (λ memory. absurd (c.in_default.not-OutOfMemory (c.kind.ensures ∙ memory))) (λ among. among-not_clear (kind_of c.in-Err.error) (fault_of bwe_app words) among) kind))
