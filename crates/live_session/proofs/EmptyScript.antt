-- An accepted document whose script is left empty is accepted as the same without a script.
use Rattle.std.proofs.Common.{◌≡◌, ℕ, List, [], length, Option, Some, None, Result, Ok, Err, refl, ap, ◌∙◌, arith, le-ltb}
use Rattle.std.specs.Prelude.{⊤}
use Rattle.std.specs.Option.{option_or}
use Rattle.bwe_specs.specs.DocumentLimits.{limits_of}
use Rattle.bwe_specs.specs.declared.limits.TheConstants.{MAX_SHARE}
use Rattle.bwe_specs.specs.declared.report.Report.{Report}
use Rattle.bwe_specs.specs.Given.{Group}
use Rattle.raw_document.specs.declared.key.DocKey.TheVariants as keys
use Rattle.raw_document.specs.declared.doc_path.PathStep.{PathStep}
use Rattle.raw_document.specs.declared.doc_path.PathStep.TheVariants.{Key}
use Rattle.raw_document.specs.Reading.{◌>>=◌, each, under}
use Rattle.raw_document.specs.Raw.{Raw}
use Rattle.doc_names.specs.Owners.{not_owned}
use Rattle.doc_names.specs.NameTexts.{NameTexts}
use Rattle.doc_passes.specs.declared.limit.What.TheVariants as counts
use Rattle.doc_passes.specs.Limits.{first_some, group_overrun, hops, lists_overrun, overrun, overrun_of, overrun_within}
use Rattle.doc_passes.specs.Ranges as ranges
use Rattle.doc_passes.specs.Ranges.{is_within, items_range, member_range}
use Rattle.doc_passes.specs.Names.{fold_member, name_lists}
use Rattle.doc_passes.specs.Numbers.{Numbers, add_group_numbers, closing_numbers, link_owner, numbers, report_numbers}
use Rattle.doc_passes.proofs.Readings.{bind_ok, ok_is}
use Rattle.wan_topology.specs.Network.{network_of}
use Rattle.doc_parts.specs.Document.{Accepted, document_of_raw, links_of}
use Rattle.doc_parts.proofs.PassFacts.{document_is}
use Rattle.live_session.specs.Laws.{EmptyScriptIsAccepted, without_script}
use Rattle.live_session.proofs.Documents.{IsReadOf, by_raw}

abbrev pub without : Raw → Raw
without raw = record raw { script = [] }

-- ---- counts

or-none : {A : Type 0} (first second : Option A) → option_or first second ≡ None → (first ≡ None) × (second ≡ None)
or-none None second e = (refl, e)
or-none (Some x) second e = absurd cc

pub few-without : (raw : Raw) → overrun raw ≡ None → overrun (without raw) ≡ None
unfolding overrun overrun_within
few-without raw e =
    let limits = limits_of raw.version in
    let groups = or-none (overrun_of counts.Groups limits.groups (length raw.groups)) (option_or (first_some group_overrun raw.groups) (option_or (overrun_of counts.Hops limits.hops (hops raw.groups)) (lists_overrun limits raw))) e in
    let points = or-none (first_some group_overrun raw.groups) (option_or (overrun_of counts.Hops limits.hops (hops raw.groups)) (lists_overrun limits raw)) groups.1 in
    let crossed = or-none (overrun_of counts.Hops limits.hops (hops raw.groups)) (lists_overrun limits raw) points.1 in
    let reporters = or-none (overrun_of counts.Reporters limits.reporters (length raw.reporters)) (option_or (overrun_of counts.Script limits.reports (length raw.script)) (overrun_of counts.Closings limits.closings (length raw.closings))) crossed.1 in
    let script = or-none (overrun_of counts.Script limits.reports (length raw.script)) (overrun_of counts.Closings limits.closings (length raw.closings)) reporters.1 in
    rw (groups.0, points.0, crossed.0, reporters.0, le-ltb limits.reports 0 (omega arith)) script.1

-- ---- ranges

then-ok : {A B : Type 0} (r : Result A (List PathStep)) (x : A) (f : A → Result B (List PathStep)) (y : Result B (List PathStep)) → r ≡ Ok x → f x ≡ y → (r >>= f) ≡ y
then-ok (Ok z) x f y e same = ap f (ok_is z x e) ∙ same
then-ok (Err path) x f y e same = absurd cc

abbrev after_reporters : Raw → Result ⊤ (List PathStep)
after_reporters raw = items_range keys.Script ranges.report_range raw.script >>= λ _. items_range keys.Closings ranges.closing_range raw.closings

abbrev after_groups : Raw → Result ⊤ (List PathStep)
after_groups raw = items_range keys.Reporters ranges.name_range raw.reporters >>= λ _. after_reporters raw

abbrev after_links : Raw → Result ⊤ (List PathStep)
after_links raw = items_range keys.Groups ranges.group_range raw.groups >>= λ _. after_groups raw

abbrev after_top : Raw → Result ⊤ (List PathStep)
after_top raw = items_range keys.Links ranges.link_range raw.links >>= λ _. after_links raw

abbrev after_version : Raw → Result ⊤ (List PathStep)
after_version raw = member_range keys.Top (is_within 1 MAX_SHARE raw.top) >>= λ _. after_top raw

pub range-without : (raw : Raw) (u : ⊤) → ranges.ranges raw ≡ Ok u → ranges.ranges (without raw) ≡ Ok u
unfolding ranges.ranges each
range-without raw u e =
    let version = bind_ok (member_range keys.Version (is_within 1 4 raw.version)) (λ _. after_version raw) u e in
    let top = bind_ok (member_range keys.Top (is_within 1 MAX_SHARE raw.top)) (λ _. after_top raw) u version.2 in
    let links = bind_ok (items_range keys.Links ranges.link_range raw.links) (λ _. after_links raw) u top.2 in
    let groups = bind_ok (items_range keys.Groups ranges.group_range raw.groups) (λ _. after_groups raw) u links.2 in
    let reporters = bind_ok (items_range keys.Reporters ranges.name_range raw.reporters) (λ _. after_reporters raw) u groups.2 in
    let script = bind_ok (items_range keys.Script ranges.report_range raw.script) (λ _. items_range keys.Closings ranges.closing_range raw.closings) u reporters.2 in
    then-ok (member_range keys.Version (is_within 1 4 raw.version)) version.0 (λ _. after_version (without raw)) (Ok u) version.1
    (then-ok (member_range keys.Top (is_within 1 MAX_SHARE raw.top)) top.0 (λ _. after_top (without raw)) (Ok u) top.1
    (then-ok (items_range keys.Links ranges.link_range raw.links) links.0 (λ _. after_links (without raw)) (Ok u) links.1
    (then-ok (items_range keys.Groups ranges.group_range raw.groups) groups.0 (λ _. after_groups (without raw)) (Ok u) groups.1
    (then-ok (items_range keys.Reporters ranges.name_range raw.reporters) reporters.0 (λ _. after_reporters (without raw)) (Ok u) reporters.1 script.2))))

-- ---- names and numbers

pub listed-without : (raw : Raw) (names : NameTexts) → name_lists raw ≡ Ok names → name_lists (without raw) ≡ Ok names
unfolding name_lists
listed-without raw names e = e

module _ (links tasks reporters : List (List ℕ)) (raw : Raw) where
  abbrev with_script : List (Option ℕ) → List Group × List ℕ → List Report → Result Numbers (List PathStep)
  with_script link_owners groups script =
      under (Key keys.Closings) (each (closing_numbers links) 0 raw.closings) >>= λ closings. Ok (record { link_owners = link_owners; groups = groups.0; task_owners = groups.1; script = script; closings = closings })

  abbrev with_groups : List (Option ℕ) → List Group × List ℕ → Result Numbers (List PathStep)
  with_groups link_owners groups = under (Key keys.Script) (each (report_numbers links tasks reporters) 0 raw.script) >>= λ script. with_script link_owners groups script

  abbrev with_links : List (Option ℕ) → Result Numbers (List PathStep)
  with_links link_owners = fold_member keys.Groups (add_group_numbers links reporters) ([], []) raw.groups >>= λ groups. with_groups link_owners groups

  pub known-without : (found : Numbers) → numbers links tasks reporters raw ≡ Ok found → numbers links tasks reporters (without raw) ≡ Ok (record found { script = [] })
  unfolding numbers each
  known-without found e =
      let owners = bind_ok (under (Key keys.Links) (each (link_owner reporters) 0 raw.links)) with_links found e in
      let groups = bind_ok (fold_member keys.Groups (add_group_numbers links reporters) ([], []) raw.groups) (with_groups owners.0) found owners.2 in
      let script = bind_ok (under (Key keys.Script) (each (report_numbers links tasks reporters) 0 raw.script)) (with_script owners.0 groups.0) found groups.2 in
      let closings = bind_ok (under (Key keys.Closings) (each (closing_numbers links) 0 raw.closings)) (λ closings. Ok (record { link_owners = owners.0; groups = groups.0.0; task_owners = groups.0.1; script = script.0; closings = closings })) found script.2 in
      let made : Numbers = record { link_owners = owners.0; groups = groups.0.0; task_owners = groups.0.1; script = script.0; closings = closings.0 } in
      let same : made ≡ found = ok_is made found closings.2 in
      then-ok (under (Key keys.Links) (each (link_owner reporters) 0 raw.links)) owners.0
      (λ link_owners. fold_member keys.Groups (add_group_numbers links reporters) ([], []) raw.groups >>= λ groups. with_script link_owners groups []) (Ok (record found { script = [] })) owners.1
      (then-ok (fold_member keys.Groups (add_group_numbers links reporters) ([], []) raw.groups) groups.0 (λ groups. with_script owners.0 groups []) (Ok (record found { script = [] })) groups.1
      (then-ok (under (Key keys.Closings) (each (closing_numbers links) 0 raw.closings)) closings.0
      (λ closings. Ok (record { link_owners = owners.0; groups = groups.0.0; task_owners = groups.0.1; script = []; closings = closings })) (Ok (record found { script = [] })) closings.1
      (ap (λ (numbers : Numbers). Ok (record numbers { script = [] })) same)))

-- ---- the whole document

nothing-owned : (task_owners : List ℕ) (link_owners : List (Option ℕ)) → not_owned task_owners link_owners 0 [] ≡ None
unfolding not_owned
nothing-owned task_owners link_owners = refl

pub empty_script : EmptyScriptIsAccepted
unfolding document_of_raw
empty_script raw accepted e =
    let read : IsReadOf raw accepted = by_raw raw accepted e in
    let names : NameTexts = read.names in
    let numbered : Numbers = record read.numbered { script = [] } in
    rw (
      few-without raw read.few,
      range-without raw read.u read.range,
      listed-without raw names read.listed,
      known-without names.links names.tasks names.reporters raw read.numbered read.known,
    )
    (document_is (without raw) names numbered (network_of (links_of raw)) read.functions read.links refl read.paths read.tree (nothing-owned read.numbered.task_owners read.numbered.link_owners)
    ∙ ap (λ (accepted : Accepted). Ok (without_script accepted)) read.same)
