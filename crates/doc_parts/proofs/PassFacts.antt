-- What each pass of the definition leaves of a document, and the refusal of the first to refuse.
use Rattle.std.proofs.Common.{◌≡◌, length, Option, Some, None, Result, Ok, Err, refl, sym, ap, subst, ◌∙◌}
use Rattle.std.specs.Prelude.{IfSome, ⊤}
use Rattle.wan_topology.specs.Network.{Network, network_of}
use Rattle.path_groups.specs.Faults.{plan_fault}
use Rattle.raw_document.specs.Raw as raw
use Rattle.doc_passes.specs.Counts.{task_count}
use Rattle.doc_passes.specs.Limits.{overrun}
use Rattle.doc_passes.specs.Ranges.{ranges}
use Rattle.doc_names.specs.NameTexts.{NameTexts}
use Rattle.doc_passes.specs.Names.{name_lists}
use Rattle.doc_passes.specs.Numbers.{Numbers, numbers}
use Rattle.cluster_parts.specs.Functions.{refused_in_groups}
use Rattle.doc_names.specs.Owners.{not_owned}
use Rattle.doc_refusals.specs.Refusals.{Refusal, unknown_name, refused_function, refused_links, refused_paths, refused_tree, not_owner}
use Rattle.doc_parts.specs.Document as documents
use Rattle.doc_parts.specs.Document.{accepted, unless, links_of, network_fault, policy_fault, document_by}
use Rattle.doc_passes.specs.Passed.{AreNamesOf, AreNumbersOf, HasPassed}
use Rattle.doc_passes.proofs.LimitFacts.{are_few}
use Rattle.doc_passes.proofs.RangeFacts.{in_range}
use Rattle.doc_passes.proofs.NameFacts.{names_of}
use Rattle.doc_passes.proofs.NumberFacts.{numbers_of}

-- ---- the passes on names and numbers

pub passed_of : (raw : raw.Raw) (lists names : NameTexts) (found : Numbers) (u : ⊤) → overrun raw ≡ None → ranges raw ≡ Ok u → name_lists raw ≡ Ok lists → names ≡ lists → numbers lists.links lists.tasks lists.reporters raw ≡ Ok found → HasPassed raw names found
passed_of raw lists names found u few range listed same known =
    let within = in_range raw u range in
    let named : AreNamesOf raw lists = names_of raw lists listed in
    let numbered : AreNumbersOf (length lists.links) (length lists.tasks) (length lists.reporters) raw found = numbers_of lists.links lists.tasks lists.reporters raw found within.amounts within.shares known in
    let by_links : AreNumbersOf (length raw.links) (length lists.tasks) (length lists.reporters) raw found = subst (λ n. AreNumbersOf n (length lists.tasks) (length lists.reporters) raw found) named.links numbered in
    let by_tasks : AreNumbersOf (length raw.links) (task_count raw.groups) (length lists.reporters) raw found = subst (λ n. AreNumbersOf (length raw.links) n (length lists.reporters) raw found) named.tasks by_links in
    record {
      few = are_few raw few;
      range = within;
      each_named = subst (AreNamesOf raw) (sym same) named;
      each_numbered = subst (λ n. AreNumbersOf (length raw.links) (task_count raw.groups) n raw found) named.reporters by_tasks;
    }

-- where each name is known, the refusals 7 to 11 are left
pub numbered_left : (raw : raw.Raw) (lists names : NameTexts) (found : Numbers) → names ≡ lists → numbers lists.links lists.tasks lists.reporters raw ≡ Ok found → documents.document_numbered raw lists ≡ document_by raw names found
numbered_left raw lists names found same known =
    ap (λ read. documents.◌>>=◌ (documents.refused_by unknown_name read) (document_by raw lists)) known ∙ ap (λ texts. document_by raw texts found) (sym same)

-- ---- the builders, in the order of their refusals

-- a refusal of the first of two passes is one of both
refused_here : {A : Type 0} (named : Option Refusal) (read : Result ⊤ Refusal) (next : ⊤ → Result A Refusal)
    → IfSome named (λ refusal. read ≡ Err refusal) → IfSome named (λ refusal. documents.◌>>=◌ read next ≡ Err refusal)
refused_here None read next refused = refused
refused_here (Some refusal) (Ok u) next refused = absurd cc
refused_here (Some refusal) (Err found) next refused = let same : found ≡ refusal = cc in ap Err same

-- the first builder that refuses has the refusal of the document
module _ (raw : raw.Raw) (names : NameTexts) (numbers : Numbers) (named : Option Refusal) where
  pub functions_refused : IfSome named (λ refusal. unless refused_function (refused_in_groups raw.top raw.groups) ≡ Err refusal)
      → IfSome named (λ refusal. document_by raw names numbers ≡ Err refusal)
  unfolding document_by
  functions_refused refused = refused_here named (unless refused_function (refused_in_groups raw.top raw.groups)) _ refused

  pub links_refused : refused_in_groups raw.top raw.groups ≡ None → IfSome named (λ refusal. unless refused_links (network_fault raw) ≡ Err refusal)
      → IfSome named (λ refusal. document_by raw names numbers ≡ Err refusal)
  unfolding document_by
  links_refused functions refused = rw functions (refused_here named (unless refused_links (network_fault raw)) _ refused)

  pub paths_refused : (network : Network) → refused_in_groups raw.top raw.groups ≡ None → network_fault raw ≡ None → network ≡ network_of (links_of raw)
      → IfSome named (λ refusal. unless refused_paths (plan_fault network numbers.groups) ≡ Err refusal) → IfSome named (λ refusal. document_by raw names numbers ≡ Err refusal)
  unfolding document_by
  paths_refused network functions links topology refused =
      rw (functions, links, sym topology) (refused_here named (unless refused_paths (plan_fault network numbers.groups)) _ refused)

  pub tree_refused : (network : Network) → refused_in_groups raw.top raw.groups ≡ None → network_fault raw ≡ None → network ≡ network_of (links_of raw) → plan_fault network numbers.groups ≡ None
      → IfSome named (λ refusal. unless refused_tree (policy_fault raw) ≡ Err refusal) → IfSome named (λ refusal. document_by raw names numbers ≡ Err refusal)
  unfolding document_by
  tree_refused network functions links topology paths refused =
      rw (functions, links, sym topology, paths) (refused_here named (unless refused_tree (policy_fault raw)) _ refused)

  pub owners_refused : (network : Network) → refused_in_groups raw.top raw.groups ≡ None → network_fault raw ≡ None → network ≡ network_of (links_of raw) → plan_fault network numbers.groups ≡ None
      → policy_fault raw ≡ None → IfSome named (λ refusal. unless not_owner (not_owned numbers.task_owners numbers.link_owners 0 numbers.script) ≡ Err refusal)
      → IfSome named (λ refusal. document_by raw names numbers ≡ Err refusal)
  unfolding document_by
  owners_refused network functions links topology paths tree refused =
      rw (functions, links, sym topology, paths, tree) (refused_here named (unless not_owner (not_owned numbers.task_owners numbers.link_owners 0 numbers.script)) _ refused)

-- where no builder refuses, the document is of their parts
pub document_is : (raw : raw.Raw) (names : NameTexts) (numbers : Numbers) (network : Network) → refused_in_groups raw.top raw.groups ≡ None → network_fault raw ≡ None → network ≡ network_of (links_of raw)
    → plan_fault network numbers.groups ≡ None → policy_fault raw ≡ None → not_owned numbers.task_owners numbers.link_owners 0 numbers.script ≡ None
    → document_by raw names numbers ≡ Ok (accepted raw names numbers)
unfolding document_by
document_is raw names numbers network functions links topology paths tree owners = rw (functions, links, sym topology, paths, tree, owners) refl
