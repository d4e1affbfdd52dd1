use Rattle.raw_reader.proofs.Joining.{document_joined}
use Rattle.raw_reader.proofs.joined.Joined.document.Goals as goal

pub returns-in-Over : goal.returns-in-Over
returns-in-Over c = document_joined c.args.version c.args.self.slots c.args.self.list c.document_of.result c.in-Over.is c.document_of.ensures
