use Rattle.std.proofs.Common.{sym, arith}
use Rattle.raw_shape.proofs.Members.{pair_of_two}
use Rattle.raw_shape.proofs.shape.fields.pair_in.Goals as goal

pub returns : goal.returns
returns c = rw (c.both.ensures, c.as_u64.ensures, c.as_u64-2.ensures) (sym (pair_of_two c.args.items.now c.index-items-0.result c.index-items-1.result (omega arith) c.index-items-0.is c.index-items-1.is))
