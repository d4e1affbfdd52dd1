use Rattle.std.proofs.Common.{◌≡◌, drop}
use Rattle.std.specs.List.{position_from}
use Rattle.std.specs.Str.{bytes_eq}
use Rattle.doc_names.proofs.name_list.NameList.position.Given as goal

abbrev pub invariant-loop-number : goal.invariant-loop-number
invariant-loop-number l = position_from (bytes_eq l.name) l.number (drop l.number l.self) ≡ position_from (bytes_eq l.name) 0 l.self
