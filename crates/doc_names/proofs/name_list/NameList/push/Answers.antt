use Rattle.std.proofs.Common.{string_bytes}
use Rattle.std.proofs.lemmas.Str.{IsUtf8-string_bytes}
use Rattle.doc_names.proofs.NameLists.{names_after, ends_after}
use Rattle.doc_names.proofs.name_list.NameList.push.Goals as goal

pub invariant_of-self : goal.invariant_of-self
invariant_of-self c =
    let list = c.self.inside in
    let put = c.push_name in
    ends_after (string_bytes list.text) (string_bytes put.new.text) c.args.name.now list.ends.items put.new.ends.items put.result
    put.ensures.text put.ensures.ends put.ensures.same_text put.ensures.same_ends (IsUtf8-string_bytes put.new.text) c.self.invariant

pub returns-clause-ok : goal.returns-clause-ok
returns-clause-ok c =
    let list = c.self.inside in
    let put = c.push_name in
    rw (← c.self.view_is)
    (names_after (string_bytes list.text) (string_bytes put.new.text) c.args.name.now list.ends.items put.new.ends.items put.result put.ensures.text put.ensures.ends c.self.invariant)
