use Rattle.std.proofs.Common.{ap, sym, refl, ◌∙◌, codes}
use Rattle.clap.specs.Words.{found_of}
use Rattle.command_line.specs.Lines.{number_given}
use Rattle.command_line.proofs.Found.{texts_are}
use Rattle.command_line.proofs.matches.run_line.Goals as goal

pub returns-in_err-readers : goal.returns-in_err-readers
returns-in_err-readers c =
    let readers = sym (c.number_given.ensures ∙ ap (number_given 2 1 64) (texts_are (found_of c.args.given.now) (codes "readers") c.get_strs.result c.get_strs.ensures)) in
    rw (readers, c.in_err-readers.was) c.from_residual.ensures

pub returns-in_err-reads : goal.returns-in_err-reads
returns-in_err-reads c =
    let readers = sym (c.number_given.ensures ∙ ap (number_given 2 1 64) (texts_are (found_of c.args.given.now) (codes "readers") c.get_strs.result c.get_strs.ensures)) in
    let reads = sym (c.number_given-2.ensures ∙ ap (number_given 4 0 1000) (texts_are (found_of c.args.given.now) (codes "reads") c.get_strs-2.result c.get_strs-2.ensures)) in
    rw (readers, c.in_ok-readers.was, reads, c.in_err-reads.was) c.from_residual-in_err-reads.ensures

pub returns : goal.returns
returns c =
    let readers = sym (c.number_given.ensures ∙ ap (number_given 2 1 64) (texts_are (found_of c.args.given.now) (codes "readers") c.get_strs.result c.get_strs.ensures)) in
    let reads = sym (c.number_given-2.ensures ∙ ap (number_given 4 0 1000) (texts_are (found_of c.args.given.now) (codes "reads") c.get_strs-2.result c.get_strs-2.ensures)) in
    rw (readers, c.in_ok-readers.was, reads, c.in_ok-reads.was) refl
