-- The value of a made document passes each refusal.
use Rattle.std.proofs.Common.{◌≡◌, Ok, refl}
use Rattle.doc_parts.specs.Document.{document_by, document_of_raw, document_of_value}
use Rattle.doc_maker.specs.Layout.{document_value}
use Rattle.doc_maker.specs.Made.{Size, IsSize, made}
use Rattle.doc_maker.specs.Accepting.{made_names, made_numbers, made_accepted}
use Rattle.doc_maker.proofs.accepting.Layouts.{made_back}
use Rattle.doc_maker.proofs.accepting.Limits.{made_within}
use Rattle.doc_maker.proofs.accepting.Ranges.{made_in_range}
use Rattle.doc_maker.proofs.accepting.NameLists.{made_named}
use Rattle.doc_maker.proofs.accepting.Numbering.{made_numbered}
use Rattle.doc_maker.proofs.accepting.Parts.{made_functions, made_network}
use Rattle.doc_maker.proofs.accepting.Plans.{made_plan, made_tree, made_owned}

module _ (size : Size) (right : IsSize size) where
  built : document_by (made size) (made_names size) (made_numbers size) ≡ Ok (made_accepted size)
  unfolding document_by
  built = rw (made_functions size, made_network size right, made_plan size right, made_tree size right, made_owned size right) refl

  passed : document_of_raw (made size) ≡ Ok (made_accepted size)
  unfolding document_of_raw
  passed = rw (made_within size right, made_in_range size right, made_named size right, made_numbered size right) built

  pub made_value_accepted : document_of_value (document_value (made size)) ≡ Ok (made_accepted size)
  unfolding document_of_value
  made_value_accepted = rw (made_back size) passed
