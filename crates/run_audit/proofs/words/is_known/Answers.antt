use Rattle.std.proofs.Common.{ap, ◌∙◌}
use Rattle.std.specs.Prelude.{is_some}
use Rattle.std.specs.Str.{bytes_eq}
use Rattle.run_audit.proofs.Names.{found_is}
use Rattle.run_audit.proofs.words.is_known.Goals as goal

pub returns : goal.returns
returns c = c.is_some.ensures ∙ ap is_some c.position.ensures ∙ found_is (bytes_eq c.args.word.now) c.args.names.now
