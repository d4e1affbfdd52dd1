-- What `bwe-live` writes: the table text of a document, and the answers to the lines behind it.
use Rattle.live_run.specs.Follow.{Follow}
use Rattle.one_run.specs.Lengths.{document_is_too_long}
use Rattle.live_session.specs.Answers.{accepts, answer_of, first_text}

abbrev pub live : Follow
live = record {
  is_too_long = document_is_too_long;
  accepts = accepts;
  first_text = first_text;
  answer_of = answer_of;
}
