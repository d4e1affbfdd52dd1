use Rattle.std.proofs.Common.{ℕ, List, length, string_bytes, ap, sym, ◌∙◌}
use Rattle.doc_names.proofs.NameLists.{names_count}
use Rattle.doc_names.proofs.name_list.NameList.len.Goals as goal

pub returns : goal.returns
returns c =
    let list = c.self.inside in
    c.len.ensures ∙ list.ends.ok.0
    ∙ sym (names_count (string_bytes list.text) 0 list.ends.items)
    ∙ ap (λ (names : List (List ℕ)). length names) c.self.view_is
