use Rattle.std.proofs.Common.{arith, false}
use Rattle.std.proofs.lemmas.List.FromFn.{get_or-map-range_with_len}
use Rattle.doc_passes.specs.Ranges.{is_name_byte}
use Rattle.doc_passes.proofs.range.is_name_char.Goals as goal

pub returns : goal.returns
returns c = get_or-map-range_with_len is_name_byte 0 256 c.args.byte c.args.byte false c.ranges.byte.fits (omega arith)
