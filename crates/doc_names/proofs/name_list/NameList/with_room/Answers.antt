use Rattle.std.proofs.Common.{string_bytes, sym}
use Rattle.doc_names.proofs.NameLists.{no_names, no_ends}
use Rattle.doc_names.proofs.name_list.NameList.with_room.Goals as goal

pub invariant_of-result : goal.invariant_of-result
invariant_of-result c = no_ends (string_bytes c.new.result) c.in_ok-ends.ends.items c.new.ensures.bytes c.in_ok-ends.ensures.items

pub returns : goal.returns
returns c = sym (no_names (string_bytes c.new.result) c.in_ok-ends.ends.items c.in_ok-ends.ensures.items)
