use Rattle.std.proofs.Common.{◌≡◌, ℕ, List, [], get_or, string_bytes, ap, sym, subst, ◌∙◌}
use Rattle.std.proofs.lemmas.List.{get_or_read}
use Rattle.std.proofs.lemmas.Str.{IsUtf8-string_bytes}
use Rattle.std.specs.Prelude.{slice_range}
use Rattle.std.specs.Str.{IsCharBoundary}
use Rattle.doc_names.specs.NameList.{start_in}
use Rattle.doc_names.proofs.NameLists.{number_within, name_at, start-le-end, cut_at_start, cut_at_end}
use Rattle.doc_names.proofs.name_list.NameList.name.Goals as goal

start_is : (ends lent : List ℕ) (number start : ℕ) → lent ≡ ends → start ≡ start_in 0 lent number → start_in 0 ends number ≡ start
start_is ends lent number start same is = sym (is ∙ ap (λ (ends : List ℕ). start_in 0 ends number) same)

pub start_of-start-requires : goal.start_of-start-requires
start_of-start-requires c =
    let list = c.self.inside in
    rw c.deref.ensures.value (number_within (string_bytes list.text) list.ends.items c.args.self.now c.args.number c.self.view_is c.requires)

pub index-requires : goal.index-requires
index-requires c =
    let list = c.self.inside in
    rw list.ends.ok.0 (number_within (string_bytes list.text) list.ends.items c.args.self.now c.args.number c.self.view_is c.requires)

pub range-requires-clause-start_le_end : goal.range-requires-clause-start_le_end
range-requires-clause-start_le_end c =
    let list = c.self.inside in
    let within = number_within (string_bytes list.text) list.ends.items c.args.self.now c.args.number c.self.view_is c.requires in
    rw (
      ← start_is list.ends.items c.deref.result.now c.args.number c.start_of-start.result c.deref.ensures.value c.start_of-start.ensures,
      get_or_read list.ends.items c.args.number c.index.result.now within c.index.ensures 0,
    )
    (start-le-end (string_bytes list.text) 0 list.ends.items c.args.number c.self.invariant within)

pub range-requires-clause-start_boundary : goal.range-requires-clause-start_boundary
range-requires-clause-start_boundary c =
    let list = c.self.inside in
    let within = number_within (string_bytes list.text) list.ends.items c.args.self.now c.args.number c.self.view_is c.requires in
    let start = start_is list.ends.items c.deref.result.now c.args.number c.start_of-start.result c.deref.ensures.value c.start_of-start.ensures in
    let cut = cut_at_start (string_bytes list.text) list.ends.items c.args.number (IsUtf8-string_bytes list.text) c.self.invariant within in
    λ later. subst (λ (text : List ℕ). IsCharBoundary text c.start_of-start.result) (sym c.as_str.ensures.value) (subst (IsCharBoundary (string_bytes list.text)) start cut)

pub range-requires-clause-end_boundary : goal.range-requires-clause-end_boundary
range-requires-clause-end_boundary c =
    let list = c.self.inside in
    let within = number_within (string_bytes list.text) list.ends.items c.args.self.now c.args.number c.self.view_is c.requires in
    let end = sym (get_or_read list.ends.items c.args.number c.index.result.now within c.index.ensures 0) in
    let cut = cut_at_end (string_bytes list.text) list.ends.items c.args.number (IsUtf8-string_bytes list.text) c.self.invariant within in
    subst (λ (text : List ℕ). IsCharBoundary text c.index.result.now) (sym c.as_str.ensures.value) (subst (IsCharBoundary (string_bytes list.text)) end cut)

pub returns : goal.returns
returns c =
    let list = c.self.inside in
    let within = number_within (string_bytes list.text) list.ends.items c.args.self.now c.args.number c.self.view_is c.requires in
    let start = start_is list.ends.items c.deref.result.now c.args.number c.start_of-start.result c.deref.ensures.value c.start_of-start.ensures in
    let end = get_or_read list.ends.items c.args.number c.index.result.now within c.index.ensures 0 in
    c.range.ensures.value
    ∙ ap (λ (text : List ℕ). slice_range text c.start_of-start.result c.index.result.now) c.as_str.ensures.value
    ∙ ap (λ (from : ℕ). slice_range (string_bytes list.text) from c.index.result.now) (sym start)
    ∙ ap (λ (to : ℕ). slice_range (string_bytes list.text) (start_in 0 list.ends.items c.args.number) to) end
    ∙ sym (name_at (string_bytes list.text) 0 list.ends.items c.args.number within)
    ∙ ap (λ (names : List (List ℕ)). get_or names c.args.number []) c.self.view_is
