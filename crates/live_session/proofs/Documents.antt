-- What is known of each accepted document: its names, how many there are, and its script.
use Rattle.std.proofs.Common.{inl, inr, ◌≡◌, ◌≢◌, ◌<◌, ◌==◌, ◌&&◌, ◌||◌, eqb-true, ltb-false, ℕ, Bool, true, false, cond, List, [], ◌∷◌, length, get_or, Option, Some, None, Result, Ok, Err, refl, sym, ap, ◌∙◌, subst, arith, All, nat_le, nat_lt}
use Rattle.std.specs.Prelude.{⊤, position}
use Rattle.std.specs.List.{list_all, position_or_len}
use Rattle.std.specs.Str.{bytes_eq}
use Rattle.std.proofs.lemmas.Bool.{and_parts, cases_lt, false≢true, leb-true, lt-ltb}
use Rattle.std.proofs.lemmas.List.{length-map}
use Rattle.std.proofs.lemmas.List.Elements.{All-cons, All-nil}
use Rattle.std.proofs.lemmas.List.Quantifiers.{position-Some}
use Rattle.std.proofs.lemmas.List.Sums.{fails_before_first}
use Rattle.std.proofs.lemmas.Slice.Eq.{bytes_eq-Decides}
use Rattle.bwe_specs.specs.declared.report.Report.{Report}
use Rattle.bwe_specs.specs.Fit.{IsFit}
use Rattle.allocator.specs.Frames.{task_count}
use Rattle.bwe_specs.specs.Given.{Group}
use Rattle.path_groups.specs.Faults.{plan_fault}
use Rattle.wan_topology.specs.Network.{network_of}
use Rattle.doc_names.specs.Owners.{not_owned}
use Rattle.doc_names.proofs.OwnerFacts.{IsOwned, by_owners}
use Rattle.raw_document.specs.declared.doc_path.PathStep.{PathStep}
use Rattle.raw_document.specs.Json.{json}
use Rattle.raw_document.specs.Forms.{document_at}
use Rattle.raw_document.specs.Raw.{Raw}
use Rattle.doc_names.specs.NameTexts.{IsPlain, NameTexts, entry_at}
use Rattle.doc_passes.specs.Limits.{overrun}
use Rattle.doc_passes.specs.Ranges.{is_name, is_name_byte, ranges}
use Rattle.doc_passes.specs.Names.{name_lists}
use Rattle.doc_passes.specs.Numbers.{Numbers, numbers}
use Rattle.doc_passes.specs.Passed.{HasPassed, IsReport}
use Rattle.doc_parts.specs.Document as documents
use Rattle.doc_parts.specs.Document.{Accepted, accepted as accepted_by, document, document_by, document_of_raw, document_of_value, links_of, network_fault, policy_fault, over_limit, refused_by, unless, value_of}
use Rattle.cluster_parts.specs.Functions.{refused_in_groups}
use Rattle.doc_parts.specs.Plans.{plan_of}
use Rattle.doc_refusals.specs.Refusals.{Refusal, bad_shape, not_owner, out_of_range, refused_function, refused_links, refused_paths, refused_tree, repeated_name, unknown_name}
use Rattle.doc_parts.proofs.PassFacts.{passed_of}
use Rattle.doc_parts.proofs.NodeFacts.{length-task_numbers}
use Rattle.plan_doc.proofs.PlanFacts.{length-capacities}
use Rattle.text_scan.specs.Names.{number_of_name}
use Rattle.change_text.specs.StateLaw.{AreNames, AreReadable, IsName, is_plain}
use Rattle.change_text.specs.Laws.{AreTold}
use Rattle.live_session.specs.Answers.{known_of}
use Rattle.live_session.proofs.DocumentNames.{AreAllSingle, AreApart, AreSingle, names_single}
use Rattle.live_session.proofs.Said.{IsSaid}

-- ---- what was not refused

bind_ok : {A B : Type 0} (r : Result A Refusal) (f : A → Result B Refusal) (y : B) → documents.◌>>=◌ r f ≡ Ok y → (x : A) × (r ≡ Ok x) × (f x ≡ Ok y)
bind_ok (Ok x) f y e = (x, refl, e)
bind_ok (Err refusal) f y e = absurd cc

refused_ok : {A : Type 0} (number : List PathStep → Refusal) (r : Result A (List PathStep)) (x : A) → refused_by number r ≡ Ok x → r ≡ Ok x
refused_ok number (Ok y) x e = cc
refused_ok number (Err path) x e = absurd cc

unless_ok : {C : Type 0} (number : C → Refusal) (fault : Option C) (u : ⊤) → unless number fault ≡ Ok u → fault ≡ None
unless_ok number None u e = refl
unless_ok number (Some cause) u e = absurd cc

-- what an accepted document was read of
pub record IsReadOf (raw : Raw) (accepted : Accepted) : Type 0 where
  pub u : ⊤
  pub names : NameTexts
  pub numbered : Numbers
  pub few : overrun raw ≡ None
  pub range : ranges raw ≡ Ok u
  pub listed : name_lists raw ≡ Ok names
  pub known : numbers names.links names.tasks names.reporters raw ≡ Ok numbered
  pub functions : refused_in_groups raw.top raw.groups ≡ None
  pub links : network_fault raw ≡ None
  pub paths : plan_fault (network_of (links_of raw)) numbered.groups ≡ None
  pub tree : policy_fault raw ≡ None
  pub owned : not_owned numbered.task_owners numbered.link_owners 0 numbered.script ≡ None
  pub same : accepted_by raw names numbered ≡ accepted

by_parts : (raw : Raw) (u : ⊤) (names : NameTexts) (numbered : Numbers) (accepted : Accepted) → overrun raw ≡ None → ranges raw ≡ Ok u → name_lists raw ≡ Ok names
    → numbers names.links names.tasks names.reporters raw ≡ Ok numbered → document_by raw names numbered ≡ Ok accepted → IsReadOf raw accepted
unfolding document_by
by_parts raw u names numbered accepted few range listed known e =
    let functions = bind_ok (unless refused_function (refused_in_groups raw.top raw.groups)) (λ _. documents.◌>>=◌ (unless refused_links (network_fault raw)) (λ _. documents.◌>>=◌ (unless refused_paths (plan_fault (network_of (links_of raw)) numbered.groups)) (λ _. documents.◌>>=◌ (unless refused_tree (policy_fault raw)) (λ _. documents.◌>>=◌ (unless not_owner (not_owned numbered.task_owners numbered.link_owners 0 numbered.script)) (λ _. Ok (accepted_by raw names numbered)))))) accepted e in
    let links = bind_ok (unless refused_links (network_fault raw)) (λ _. documents.◌>>=◌ (unless refused_paths (plan_fault (network_of (links_of raw)) numbered.groups)) (λ _. documents.◌>>=◌ (unless refused_tree (policy_fault raw)) (λ _. documents.◌>>=◌ (unless not_owner (not_owned numbered.task_owners numbered.link_owners 0 numbered.script)) (λ _. Ok (accepted_by raw names numbered))))) accepted functions.2 in
    let paths = bind_ok (unless refused_paths (plan_fault (network_of (links_of raw)) numbered.groups)) (λ _. documents.◌>>=◌ (unless refused_tree (policy_fault raw)) (λ _. documents.◌>>=◌ (unless not_owner (not_owned numbered.task_owners numbered.link_owners 0 numbered.script)) (λ _. Ok (accepted_by raw names numbered)))) accepted links.2 in
    let tree = bind_ok (unless refused_tree (policy_fault raw)) (λ _. documents.◌>>=◌ (unless not_owner (not_owned numbered.task_owners numbered.link_owners 0 numbered.script)) (λ _. Ok (accepted_by raw names numbered))) accepted paths.2 in
    let owners = bind_ok (unless not_owner (not_owned numbered.task_owners numbered.link_owners 0 numbered.script)) (λ _. Ok (accepted_by raw names numbered)) accepted tree.2 in
    record {
      u = u;
      names = names;
      numbered = numbered;
      few = few;
      range = range;
      listed = listed;
      known = known;
      functions = unless_ok refused_function (refused_in_groups raw.top raw.groups) functions.0 functions.1;
      links = unless_ok refused_links (network_fault raw) links.0 links.1;
      paths = unless_ok refused_paths (plan_fault (network_of (links_of raw)) numbered.groups) paths.0 paths.1;
      tree = unless_ok refused_tree (policy_fault raw) tree.0 tree.1;
      owned = unless_ok not_owner (not_owned numbered.task_owners numbered.link_owners 0 numbered.script) owners.0 owners.1;
      same = ok_is (accepted_by raw names numbered) accepted owners.2;
    }
  where
    ok_is : (x y : Accepted) → ◌≡◌ {A = Result Accepted Refusal} (Ok x) (Ok y) → x ≡ y
    ok_is x y e = cc

pub by_raw : (raw : Raw) (accepted : Accepted) → document_of_raw raw ≡ Ok accepted → IsReadOf raw accepted
unfolding document_of_raw
by_raw raw accepted e =
    let counts = bind_ok (unless over_limit (overrun raw)) (λ _. documents.◌>>=◌ (refused_by out_of_range (ranges raw)) (λ _. documents.◌>>=◌ (refused_by repeated_name (name_lists raw)) (λ names. documents.◌>>=◌ (refused_by unknown_name (numbers names.links names.tasks names.reporters raw)) (λ numbered. document_by raw names numbered)))) accepted e in
    let range = bind_ok (refused_by out_of_range (ranges raw)) (λ _. documents.◌>>=◌ (refused_by repeated_name (name_lists raw)) (λ names. documents.◌>>=◌ (refused_by unknown_name (numbers names.links names.tasks names.reporters raw)) (λ numbered. document_by raw names numbered))) accepted counts.2 in
    let names = bind_ok (refused_by repeated_name (name_lists raw)) (λ names. documents.◌>>=◌ (refused_by unknown_name (numbers names.links names.tasks names.reporters raw)) (λ numbered. document_by raw names numbered)) accepted range.2 in
    let numbered = bind_ok (refused_by unknown_name (numbers names.0.links names.0.tasks names.0.reporters raw)) (λ numbered. document_by raw names.0 numbered) accepted names.2 in
    by_parts raw range.0 names.0 numbered.0 accepted (unless_ok over_limit (overrun raw) counts.0 counts.1) (refused_ok out_of_range (ranges raw) range.0 range.1)
    (refused_ok repeated_name (name_lists raw) names.0 names.1) (refused_ok unknown_name (numbers names.0.links names.0.tasks names.0.reporters raw) numbered.0 numbered.1) numbered.2

read_of : (bytes : List ℕ) (accepted : Accepted) → document bytes ≡ Ok accepted → (raw : Raw) × IsReadOf raw accepted
unfolding document document_of_value
read_of bytes accepted e =
    let value = bind_ok (value_of (json bytes)) document_of_value accepted e in
    let raw = bind_ok (refused_by bad_shape (document_at value.0)) document_of_raw accepted value.2 in
    (raw.0, by_raw raw.0 accepted raw.2)

-- ---- what is known of it

pub record IsRead (accepted : Accepted) : Type 0 where
  pub names : AreAllSingle accepted.names
  pub links : length accepted.names.links ≡ length (plan_of accepted).capacities
  pub groups : length accepted.names.groups ≡ length (plan_of accepted).groups
  pub tasks : length accepted.names.tasks ≡ task_count (plan_of accepted)
  pub script : All (IsSaid (known_of accepted)) accepted.script

said-all : (known_names : NameTexts) (task_owners : List ℕ) (link_owners : List (Option ℕ)) (links tasks reporters : ℕ) → links ≡ length known_names.links → tasks ≡ length known_names.tasks → reporters ≡ length known_names.reporters
    → (script : List Report) → All (IsReport links tasks reporters) script → All (IsOwned task_owners link_owners) script
    → All (IsSaid (record { names = known_names; task_owners = task_owners; link_owners = link_owners })) script
said-all known_names task_owners link_owners links tasks reporters is_links is_tasks is_reporters script fit owned = λ k d lt.
    record {
      reporter = subst (λ n. (get_or script k d).reporter < n) is_reporters (fit k d lt).0;
      fit = subst (λ n. IsFit n (length known_names.links) (get_or script k d)) is_tasks (subst (λ n. IsFit tasks n (get_or script k d)) is_links (fit k d lt).1);
      owner = owned k d lt;
    }

made : (raw : Raw) (u : ⊤) (names : NameTexts) (numbered : Numbers) → overrun raw ≡ None → ranges raw ≡ Ok u → name_lists raw ≡ Ok names
    → numbers names.links names.tasks names.reporters raw ≡ Ok numbered → not_owned numbered.task_owners numbered.link_owners 0 numbered.script ≡ None → IsRead (accepted_by raw names numbered)
made raw u names numbered few range listed known owned =
    let passed : HasPassed raw names numbered = passed_of raw names names numbered u few range listed refl known in
    record {
      names = names_single raw u names range listed;
      links = passed.each_named.links ∙ sym (length-capacities raw.links);
      groups = passed.each_named.groups ∙ sym (length-map numbered.groups (λ (group : Group). group.path_groups) ∙ passed.each_numbered.groups);
      tasks = passed.each_named.tasks ∙ sym (length-task_numbers raw.top raw.groups);
      script = said-all names numbered.task_owners numbered.link_owners _ _ _ (sym passed.each_named.links) (sym passed.each_named.tasks) (sym passed.each_named.reporters) numbered.script passed.each_numbered.reports
          (by_owners numbered.task_owners numbered.link_owners 0 numbered.script owned);
    }

pub is-read : (bytes : List ℕ) (accepted : Accepted) → document bytes ≡ Ok accepted → IsRead accepted
is-read bytes accepted e =
    let found = read_of bytes accepted e in
    let read = found.1 in
    subst IsRead read.same (made found.0 read.u read.names read.numbered read.few read.range read.listed read.known read.owned)

-- ---- its names can be read back

-- a byte of a name is above the space, and of ASCII
abbrev IsBetween : ℕ → Type 0
IsBetween byte = (32 < byte) × (byte < 128)

in-range : (low high byte : ℕ) → 32 < low → high < 128 → (nat_le low byte && nat_le byte high) ≡ true → IsBetween byte
in-range low high byte above below is =
    let parts = and_parts (nat_le low byte) (nat_le byte high) is in
    (omega (arith, above, leb-true low byte parts.0), omega (arith, below, leb-true byte high parts.1))

same-byte : (byte other : ℕ) → 32 < other → other < 128 → (byte == other) ≡ true → IsBetween byte
same-byte byte other above below is = let same : byte ≡ other = eqb-true byte other is in (omega (arith, above, same), omega (arith, below, same))

between : (byte : ℕ) → is_name_byte byte ≡ true → IsBetween byte
between byte is =
    go (nat_le 97 byte && nat_le byte 122) (nat_le 65 byte && nat_le byte 90) (nat_le 48 byte && nat_le byte 57) (byte == 45) (byte == 95) (byte == 46) refl refl refl refl refl refl is
  where
    go : (a b c d e f : Bool) → (nat_le 97 byte && nat_le byte 122) ≡ a → (nat_le 65 byte && nat_le byte 90) ≡ b → (nat_le 48 byte && nat_le byte 57) ≡ c → (byte == 45) ≡ d → (byte == 95) ≡ e → (byte == 46) ≡ f
        → (a || b || c || d || e || f) ≡ true → IsBetween byte
    go true b c d e f h1 h2 h3 h4 h5 h6 is = in-range 97 122 byte (omega arith) (omega arith) h1
    go false true c d e f h1 h2 h3 h4 h5 h6 is = in-range 65 90 byte (omega arith) (omega arith) h2
    go false false true d e f h1 h2 h3 h4 h5 h6 is = in-range 48 57 byte (omega arith) (omega arith) h3
    go false false false true e f h1 h2 h3 h4 h5 h6 is = same-byte byte 45 (omega arith) (omega arith) h4
    go false false false false true f h1 h2 h3 h4 h5 h6 is = same-byte byte 95 (omega arith) (omega arith) h5
    go false false false false false true h1 h2 h3 h4 h5 h6 is = same-byte byte 46 (omega arith) (omega arith) h6
    go false false false false false false h1 h2 h3 h4 h5 h6 is = absurd (cc)

byte-plain : (byte : ℕ) → is_name_byte byte ≡ true → is_plain byte ≡ true
byte-plain byte is = let parts = between byte is in rw (lt-ltb 32 byte parts.0, lt-ltb byte 128 parts.1) refl

bytes-plain : (name : List ℕ) → list_all is_name_byte name ≡ true → list_all is_plain name ≡ true
bytes-plain [] is = refl
bytes-plain (byte ∷ name) is =
    let parts = and_parts (is_name_byte byte) (list_all is_name_byte name) is in
    rw (byte-plain byte parts.0) (bytes-plain name parts.1)

bytes-apart : (name : List ℕ) → list_all is_name_byte name ≡ true → IsPlain name
bytes-apart [] is = All-nil (λ byte. (byte ≢ 10) × (byte ≢ 32))
bytes-apart (byte ∷ name) is =
    let parts = and_parts (is_name_byte byte) (list_all is_name_byte name) is in
    let range = between byte parts.0 in
    All-cons (λ byte. (byte ≢ 10) × (byte ≢ 32)) byte name (λ feed. omega (arith, feed, range.0), λ space. omega (arith, space, range.0)) (bytes-apart name parts.1)

name-is : (name : List ℕ) → is_name name ≡ true → IsName name
unfolding is_name
name-is name is =
    let parts = and_parts (nat_le 1 (length name) && nat_le (length name) 64) (list_all is_name_byte name) is in
    let range = and_parts (nat_le 1 (length name)) (nat_le (length name) 64) parts.0 in
    record { some = leb-true 1 (length name) range.0; few = leb-true (length name) 64 range.1; plain = bytes-plain name parts.1 }

name-apart : (name : List ℕ) → is_name name ≡ true → IsPlain name
unfolding is_name
name-apart name is = bytes-apart name (and_parts (nat_le 1 (length name) && nat_le (length name) 64) (list_all is_name_byte name) is).1

-- a name that stands once is found where it stands
found-at : (names : List (List ℕ)) → AreSingle names → (number : ℕ) → number < length names → number_of_name names (entry_at names number) ≡ Some number
unfolding AreApart
found-at names single number lt = go (position (bytes_eq (entry_at names number)) names) refl where
  never : position (bytes_eq (entry_at names number)) names ≡ None → bytes_eq (entry_at names number) (get_or names number []) ≡ false
  never none = step (nat_lt (position_or_len (bytes_eq (entry_at names number)) names) (length names)) refl none where
    step : (b : Bool) → nat_lt (position_or_len (bytes_eq (entry_at names number)) names) (length names) ≡ b
        → ◌≡◌ {A = Option ℕ} (cond {A = Option ℕ} b (Some (position_or_len (bytes_eq (entry_at names number)) names)) None) None → bytes_eq (entry_at names number) (get_or names number []) ≡ false
    step true e none = absurd (cc)
    step false e none =
        fails_before_first (bytes_eq (entry_at names number)) names number []
        (omega (arith, lt, ltb-false (position_or_len (bytes_eq (entry_at names number)) names) (length names) e))

  go : (found : Option ℕ) → position (bytes_eq (entry_at names number)) names ≡ found → found ≡ Some number
  go None none = absurd (false≢true (sym (never none) ∙ (bytes_eq-Decides (entry_at names number) (get_or names number [])).1 refl))
  go (Some place) some =
      let at = position-Some (bytes_eq (entry_at names number)) names place [] some in
      let same : entry_at names number ≡ get_or names place [] = (bytes_eq-Decides (entry_at names number) (get_or names place [])).0 at.1 in
      ap Some (elim (cases_lt place number) [
        | inl before ↦ absurd (single.apart place number before lt (sym same))
        | inr past ↦ elim (cases_lt number place) [
          | inl behind ↦ absurd (single.apart number place behind at.0 same)
          | inr back ↦ omega (arith, past, back)
        ]
      ])

are-names : (names : List (List ℕ)) → AreSingle names → AreNames names
are-names names single = λ number lt. (name-is (entry_at names number) (single.each number [] lt), found-at names single number lt)

pub are-readable : (accepted : Accepted) → AreAllSingle accepted.names → AreReadable (known_of accepted)
are-readable accepted single = record {
  reporters = are-names accepted.names.reporters single.reporters;
  tasks = are-names accepted.names.tasks single.tasks;
  links = are-names accepted.names.links single.links;
}

pub are-told : (names : List (List ℕ)) → AreSingle names → AreTold names
unfolding AreApart
are-told names single = record { plain = λ k d lt. name-apart (get_or names k d) (single.each k d lt); apart = single.apart }
