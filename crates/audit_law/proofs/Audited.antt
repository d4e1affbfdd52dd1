-- An accepted document has what the law of the audit asks.
use Rattle.std.proofs.Common.{◌≡◌, ◌<◌, ◌≤◌, ◌^◌, ◌==◌, ℕ, List, [], ◌∷◌, Vec, Global, length, get_or, Option, Some, None, Result, Ok, Err, refl, sym, ap, ◌∙◌, subst, arith, All}
use Rattle.std.specs.Prelude.{⊤, slice_index_or, unwrap_or}
use Rattle.std.proofs.lemmas.List.Elements.{All-head, All-map, All-tail, All-weaker}
use Rattle.std.proofs.lemmas.List.Sums.{count_by-le-length, length-filter}
use Rattle.bwe_specs.specs.declared.limits.TheConstants.{MAX_AMOUNT}
use Rattle.bwe_specs.specs.declared.report.Report.{Report}
use Rattle.bwe_specs.specs.declared.report.Target.{Target}
use Rattle.bwe_specs.specs.Allocation.{allocation}
use Rattle.bwe_specs.specs.DocumentLimits.{limits_of}
use Rattle.bwe_specs.specs.TreeFunctions.{AreClusters}
use Rattle.bwe_specs.specs.Reports.{numbers as numbers_below, reports_of}
use Rattle.crew_log.specs.Scripts.{AreOfReporters}
use Rattle.bwe_specs.specs.Lists.{lists_of}
use Rattle.document_scripts.specs.Scripts.{scripts_of}
use Rattle.bwe_specs.specs.Fit.{IsFit}
use Rattle.document_scripts.proofs.Owned.{are-scripts, few-scripts, history-table, room-scripts}
use Rattle.document_scripts.proofs.Split.{split-count}
use Rattle.limit_table.specs.Tables.{total_of as table_total}
use Rattle.tree_spec.specs.Trees.{task_numbers}
use Rattle.tree_spec.specs.Walk.{tree_fault}
use Rattle.raw_document.specs.Json.{json}
use Rattle.raw_document.specs.Forms.{document_at}
use Rattle.raw_document.specs.Raw.{Raw}
use Rattle.doc_passes.specs.Limits.{overrun}
use Rattle.doc_passes.specs.Ranges.{ranges}
use Rattle.doc_passes.specs.Names.{name_lists}
use Rattle.doc_passes.specs.Numbers.{Numbers, numbers}
use Rattle.plan_doc.specs.declared.document.Document as code
use Rattle.plan_doc.specs.Accepted.{IsAccepted}
use Rattle.plan_doc.specs.Conditions.{IsUsable, link_count, reporter_count, tasks_in}
use Rattle.doc_parts.specs.Document as documents
use Rattle.doc_parts.specs.Document.{Accepted, accepted as accepted_by, clusters_of, document, document_by, document_of_raw, document_of_value, links_of, network_fault, policy_fault, over_limit, refused_by, unless, value_of}
use Rattle.cluster_parts.specs.Functions.{refused_in_groups}
use Rattle.doc_parts.proofs.TooManyFacts.{no_tree_fault}
use Rattle.plan_doc.specs.Owners.{not_owned, owner_of}
use Rattle.doc_refusals.specs.Refusals.{Refusal, bad_shape, not_owner, out_of_range, refused_function, refused_links, refused_paths, refused_tree, repeated_name, unknown_name}
use Rattle.path_groups.specs.Faults.{plan_fault}
use Rattle.wan_topology.specs.Network.{network_of}
use Rattle.raw_document.specs.declared.doc_path.PathStep.{PathStep}
use Rattle.doc_names.specs.NameTexts.{texts_of, NameTexts}
use Rattle.run_audit.proofs.Counts.{total_counted}
use Rattle.audit_law.specs.ClosedRun.{AreAudited, AreNames, AreScripts, IsInterleaving}
use Rattle.audit_law.proofs.Vectors.{vec_of}
use Rattle.audit_law.proofs.Logs.{each_from, script_at, script_count}
use Rattle.audit_law.specs.DocumentLaws.{AreScriptsOf}
use Rattle.plan_doc.specs.Plans.{plan_in}
use Rattle.audit_law.proofs.DocumentNames.{ArePlain, names_plain}
use Rattle.audit_law.proofs.DocumentTree.{clusters_right, few_tasks}
use Rattle.audit_law.proofs.DocumentTotals.{total_small}

-- ---- what was not refused

bind_ok : {A B : Type 0} (r : Result A Refusal) (f : A → Result B Refusal) (y : B) → documents.◌>>=◌ r f ≡ Ok y → (x : A) × (r ≡ Ok x) × (f x ≡ Ok y)
bind_ok (Ok x) f y e = (x, refl, e)
bind_ok (Err refusal) f y e = absurd cc

refused_ok : {A : Type 0} (number : List PathStep → Refusal) (r : Result A (List PathStep)) (x : A) → refused_by number r ≡ Ok x → r ≡ Ok x
refused_ok number (Ok y) x e = cc
refused_ok number (Err path) x e = absurd cc

unless_ok : {C : Type 0} (number : C → Refusal) (fault : Option C) (u : ⊤) → unless number fault ≡ Ok u → fault ≡ None
unless_ok number None u e = refl
unless_ok number (Some cause) u e = absurd cc

-- what an accepted document was read of
record IsReadOf (accepted : Accepted) : Type 0 where
  raw : Raw
  u : ⊤
  range : ranges raw ≡ Ok u
  listed : name_lists raw ≡ Ok accepted.names
  functions : refused_in_groups raw.top raw.groups ≡ None
  tree : tree_fault accepted.clusters ≡ None
  clusters_so : accepted.clusters ≡ clusters_of raw
  top_so : accepted.top ≡ raw.top

by_parts : (raw : Raw) (u : ⊤) (names : NameTexts) (numbered : Numbers) (accepted : Accepted) → ranges raw ≡ Ok u → name_lists raw ≡ Ok names → document_by raw names numbered ≡ Ok accepted → IsReadOf accepted
unfolding document_by
by_parts raw u names numbered accepted range listed e =
    let functions = bind_ok (unless refused_function (refused_in_groups raw.top raw.groups)) (λ _. documents.◌>>=◌ (unless refused_links (network_fault raw)) (λ _. documents.◌>>=◌ (unless refused_paths (plan_fault (network_of (links_of raw)) numbered.groups)) (λ _. documents.◌>>=◌ (unless refused_tree (policy_fault raw)) (λ _. documents.◌>>=◌ (unless not_owner (not_owned numbered.task_owners numbered.link_owners 0 numbered.script)) (λ _. Ok (accepted_by raw names numbered)))))) accepted e in
    let links = bind_ok (unless refused_links (network_fault raw)) (λ _. documents.◌>>=◌ (unless refused_paths (plan_fault (network_of (links_of raw)) numbered.groups)) (λ _. documents.◌>>=◌ (unless refused_tree (policy_fault raw)) (λ _. documents.◌>>=◌ (unless not_owner (not_owned numbered.task_owners numbered.link_owners 0 numbered.script)) (λ _. Ok (accepted_by raw names numbered))))) accepted functions.2 in
    let paths = bind_ok (unless refused_paths (plan_fault (network_of (links_of raw)) numbered.groups)) (λ _. documents.◌>>=◌ (unless refused_tree (policy_fault raw)) (λ _. documents.◌>>=◌ (unless not_owner (not_owned numbered.task_owners numbered.link_owners 0 numbered.script)) (λ _. Ok (accepted_by raw names numbered)))) accepted links.2 in
    let tree = bind_ok (unless refused_tree (policy_fault raw)) (λ _. documents.◌>>=◌ (unless not_owner (not_owned numbered.task_owners numbered.link_owners 0 numbered.script)) (λ _. Ok (accepted_by raw names numbered))) accepted paths.2 in
    let owners = bind_ok (unless not_owner (not_owned numbered.task_owners numbered.link_owners 0 numbered.script)) (λ _. Ok (accepted_by raw names numbered)) accepted tree.2 in
    let same : accepted_by raw names numbered ≡ accepted = ok_is (accepted_by raw names numbered) accepted owners.2 in
    record {
      raw = raw;
      u = u;
      range = range;
      listed = listed ∙ ap (λ (a : Accepted). Ok a.names) same;
      functions = unless_ok refused_function (refused_in_groups raw.top raw.groups) functions.0 functions.1;
      tree = ap (λ (a : Accepted). tree_fault a.clusters) (sym same) ∙ no_tree_fault (limits_of raw.version).tasks (clusters_of raw) (unless_ok refused_tree (policy_fault raw) tree.0 tree.1);
      clusters_so = ap (λ (a : Accepted). a.clusters) (sym same);
      top_so = ap (λ (a : Accepted). a.top) (sym same);
    }
  where
    ok_is : (x y : Accepted) → ◌≡◌ {A = Result Accepted Refusal} (Ok x) (Ok y) → x ≡ y
    ok_is x y e = cc

by_raw : (raw : Raw) (accepted : Accepted) → document_of_raw raw ≡ Ok accepted → IsReadOf accepted
unfolding document_of_raw
by_raw raw accepted e =
    let counts = bind_ok (unless over_limit (overrun raw)) (λ _. documents.◌>>=◌ (refused_by out_of_range (ranges raw)) (λ _. documents.◌>>=◌ (refused_by repeated_name (name_lists raw)) (λ names. documents.◌>>=◌ (refused_by unknown_name (numbers names.links names.tasks names.reporters raw)) (λ numbered. document_by raw names numbered)))) accepted e in
    let range = bind_ok (refused_by out_of_range (ranges raw)) (λ _. documents.◌>>=◌ (refused_by repeated_name (name_lists raw)) (λ names. documents.◌>>=◌ (refused_by unknown_name (numbers names.links names.tasks names.reporters raw)) (λ numbered. document_by raw names numbered))) accepted counts.2 in
    let names = bind_ok (refused_by repeated_name (name_lists raw)) (λ names. documents.◌>>=◌ (refused_by unknown_name (numbers names.links names.tasks names.reporters raw)) (λ numbered. document_by raw names numbered)) accepted range.2 in
    let numbered = bind_ok (refused_by unknown_name (numbers names.0.links names.0.tasks names.0.reporters raw)) (λ numbered. document_by raw names.0 numbered) accepted names.2 in
    by_parts raw range.0 names.0 numbered.0 accepted (refused_ok out_of_range (ranges raw) range.0 range.1) (refused_ok repeated_name (name_lists raw) names.0 names.1) numbered.2

read_of : (bytes : List ℕ) (accepted : Accepted) → document bytes ≡ Ok accepted → IsReadOf accepted
unfolding document document_of_value
read_of bytes accepted e =
    let value = bind_ok (value_of (json bytes)) document_of_value accepted e in
    let raw = bind_ok (refused_by bad_shape (document_at value.0)) document_of_raw accepted value.2 in
    by_raw raw.0 accepted raw.2

-- ---- what the law of the audit asks

module _ (bytes : List ℕ) (document : code.Document) (usable : IsUsable document) (accepted : IsAccepted (documents.document bytes) document) where
  read : IsReadOf accepted.0
  read = read_of bytes accepted.0 accepted.1

  plain : ArePlain (texts_of document.names)
  plain = subst ArePlain (sym accepted.2.names) (names_plain read.raw read.u accepted.0.names read.range read.listed)

  names-are : AreNames (texts_of document.names)
  names-are = record { tasks = plain.tasks; links = plain.links; reporters = plain.reporters; apart = plain.apart }

  clusters-are : AreClusters document.tree.top document.tree.clusters
  clusters-are =
      let made : AreClusters accepted.0.top accepted.0.clusters =
      subst (λ (top : ℕ). AreClusters top accepted.0.clusters) (sym read.top_so) (subst (AreClusters read.raw.top) (sym read.clusters_so) (clusters_right read.raw.top read.raw.groups read.functions)) in
      subst (λ tree. AreClusters tree.top tree.clusters) (sym accepted.2.tree) made

  tasks-few : length (task_numbers document.tree.clusters) ≤ 1_048_576
  tasks-few = subst (λ tree. length (task_numbers tree.clusters) ≤ 1_048_576) (sym accepted.2.tree) (few_tasks accepted.0.clusters read.tree)

  totals-are : (reports : List Report) → All (IsFit (tasks_in document) (link_count document)) reports → table_total (allocation (plan_in document) reports) < 2 ^ 64
  totals-are reports fit =
      total_small (plan_in document) reports clusters-are usable.groups tasks-few (All-weaker (IsFit (tasks_in document) (link_count document)) (λ (report : Report). report.amount ≤ MAX_AMOUNT) (λ report is. is.1) reports fit)

  module _ (scripts : List (Vec Report Global)) (split : AreScriptsOf document scripts) where
    counted : length scripts ≡ reporter_count document
    counted = split-count (reporter_count document) document.script.items scripts split

    scripts-are : AreScripts (texts_of document.names) (tasks_in document) (link_count document) (lists_of scripts)
    scripts-are = record {
      tasks_named = omega (arith, usable.task_names);
      links_named = omega (arith, usable.link_names);
      reporters_named = omega (arith, script_count scripts, counted);
      own = λ number lt. own number (omega (arith, lt, script_count scripts));
      few_reporters = omega (arith, script_count scripts, few-scripts document usable scripts split);
      few = subst (λ count. count ≤ 4_194_304) (sym (total_counted scripts)) (room-scripts document usable scripts split);
    }
      where
        are : AreOfReporters (tasks_in document) (link_count document) scripts
        are = are-scripts document usable scripts split

        own_at : (number : ℕ) (other : Vec Report Global) → number < length scripts → All (λ report. (report.reporter ≡ number) × IsFit (tasks_in document) (link_count document) report) (slice_index_or (lists_of scripts) number [])
        own_at number other lt =
            subst (All (λ report. (report.reporter ≡ number) × IsFit (tasks_in document) (link_count document) report)) (sym (script_at scripts number other lt))
            (λ k d within. ((are number other lt).0 k d within, (are number other lt).1 k d within))

        own : (number : ℕ) → number < length scripts → All (λ report. (report.reporter ≡ number) × IsFit (tasks_in document) (link_count document) report) (slice_index_or (lists_of scripts) number [])
        own number lt = own_at number (vec_of [] (omega arith)) lt

    owner : Target → ℕ
    owner target = unwrap_or (owner_of document.task_owners.items document.link_owners.items target) 0

    tables-are : (history : List Report) → IsInterleaving (tasks_in document) (link_count document) (lists_of scripts) history
        → allocation (plan_in document) history ≡ allocation (plan_in document) document.script.items
    unfolding owner
    tables-are history legal =
        history-table (plan_in document) owner (reporter_count document) document.script.items history scripts split (each_from (tasks_in document) (link_count document) scripts history legal)
        (λ k d lt. sym (ap (λ (o : Option ℕ). unwrap_or o 0) (usable.by_owners k d lt)))
        (λ k d lt. (usable.reports k d lt).0)
        (λ k d lt. subst (λ (count : ℕ). (get_or history k d).reporter < count) (script_count scripts ∙ counted) (legal.no_other k d lt).0)

    pub audited : AreAudited (texts_of document.names) (allocation (plan_in document)) (allocation (plan_in document) document.script.items) (tasks_in document) (link_count document) scripts
    audited = record { names_so = names-are; scripts_so = scripts-are; totals = totals-are; table_so = tables-are }

-- ---- scripts of lists

vecs_of : (lists : List (List Report)) → All (λ list. length list < 2 ^ 63) lists → List (Vec Report Global)
vecs_of [] few = []
vecs_of (list ∷ lists) few =
    vec_of list (All-head (λ (list : List Report). length list < 2 ^ 63) list lists few) ∷ vecs_of lists (All-tail (λ (list : List Report). length list < 2 ^ 63) list lists few)

items-vecs_of : (lists : List (List Report)) (few : All (λ list. length list < 2 ^ 63) lists) → lists_of (vecs_of lists few) ≡ lists
unfolding vecs_of
items-vecs_of [] few = refl
items-vecs_of (list ∷ lists) few = ap (λ (rest : List (List Report)). list ∷ rest) (items-vecs_of lists (All-tail (λ (list : List Report). length list < 2 ^ 63) list lists few))

reports-le : (reporter : ℕ) (reports : List Report) → length (reports_of reporter reports) ≤ length reports
reports-le reporter reports = omega (arith, length-filter (λ (report : Report). report.reporter == reporter) reports, count_by-le-length (λ (report : Report). report.reporter == reporter) reports)

-- there are scripts that are the document's script split by reporter
pub some_scripts : (document : code.Document) → IsUsable document → (scripts : List (Vec Report Global)) × AreScriptsOf document scripts
some_scripts document usable = (vecs_of lists few, items-vecs_of lists few) where
  lists : List (List Report)
  lists = scripts_of (reporter_count document) document.script.items

  few : All (λ list. length list < 2 ^ 63) lists
  few = All-map (λ (list : List Report). length list < 2 ^ 63) (λ (reporter : ℕ). reports_of reporter document.script.items) (numbers_below (reporter_count document))
      (λ k d lt. omega (arith, reports-le (get_or (numbers_below (reporter_count document)) k d) document.script.items, usable.few_reports))
