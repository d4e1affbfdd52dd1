use Rattle.std.proofs.Common.{refl}
use Rattle.raw_reader.proofs.joined.Joined.new.Goals as goal

pub returns : goal.returns
returns c version start = (refl, c.new.ensures version)
