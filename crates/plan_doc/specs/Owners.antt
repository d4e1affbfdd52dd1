-- Refusal 11: the first entry of the script that its reporter has no right to make.
pub use Rattle.doc_names.specs.Owners.{owner_of, not_owned}
