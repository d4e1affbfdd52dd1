use Rattle.doc_maker.proofs.accepting.Accepted.{made_documents_have_their_counts}
use Rattle.doc_maker.proofs.laws.made_documents_have_their_counts.Goals as goal

pub returns : goal.returns
returns c = made_documents_have_their_counts
