use Rattle.doc_maker.proofs.accepting.Accepted.{made_documents_are_accepted}
use Rattle.doc_maker.proofs.laws.made_documents_are_accepted.Goals as goal

pub returns : goal.returns
returns c = made_documents_are_accepted
