-- Nothing is refused of the functions and the links of a made document.
use Rattle.std.proofs.Common.{◌≡◌, ℕ, zero, suc, ◌+◌, ◌*◌, ◌<◌, ◌≤◌, ◌%◌, ◌==◌, Bool, true, false, List, [], ◌∷◌, ◌++◌, length, map, Some, None, refl, ◌∙◌, arith}
use Rattle.std.specs.Prelude.{All, if◌then◌else◌}
use Rattle.std.specs.List.{range_with_len}
use Rattle.std.proofs.lemmas.Bool.{le-ltb}
use Rattle.std.proofs.lemmas.List.{length-map, map_push}
use Rattle.std.proofs.lemmas.List.Elements.{All-nil, All-weaker, All-push}
use Rattle.std.proofs.lemmas.List.FromFn.{length-range_with_len}
use Rattle.bwe_specs.specs.Reports.{numbers}
use Rattle.bwe_specs.specs.declared.limits.TheConstants.{MAX_AMOUNT}
use Rattle.bw_function.specs.Faults.{later_fault, function_fault}
use Rattle.wan_topology.specs.Faults.{link_fault, first_link_fault, topology_fault}
use Rattle.cluster_parts.specs.Functions.{first_refused, refused_configured, refused_in_job, refused_in_user, refused_in_group, refused_in_groups}
use Rattle.doc_parts.specs.Links.{link_part}
use Rattle.doc_parts.specs.Document.{links_of, network_fault}
use Rattle.doc_parts.proofs.TooManyFacts.{few_links}
use Rattle.doc_maker.specs.Made.{Size, IsSize, drawn, link_name, made_link, made_function, user_function, made_job, made_user, made_group, made}
use Rattle.doc_maker.proofs.accepting.NameLists.{IsOther, absent}

-- ---- functions

tasks_function : (size : Size) (group : ℕ) → function_fault (made_function size group) 1_000_000 ≡ None
unfolding later_fault
tasks_function size group =
    rw (le-ltb (100 + drawn size group) 0 (omega arith), le-ltb MAX_AMOUNT (100 + drawn size group) (omega arith), le-ltb (200 + 2 * drawn size group) (100 + drawn size group) (omega arith), le-ltb MAX_AMOUNT (200 + 2 * drawn size group) (omega arith)) refl

users_function : (group : ℕ) → refused_configured 1_000_000 (user_function group) ≡ None
unfolding later_fault
users_function group = go (group % 3 == 0) where
  go : (capped : Bool) → refused_configured 1_000_000 (if capped then Some ((0, 0) ∷ (1_000_000, 2_000) ∷ []) else None) ≡ None
  go true = refl
  go false = refl

job_function : (size : Size) (group : ℕ) → refused_in_job 1_000_000 (made_job size group) ≡ None
unfolding refused_in_job
job_function size group = rw (tasks_function size group) refl

user_functions : (size : Size) (group : ℕ) → refused_in_user 1_000_000 (made_user size group) ≡ None
unfolding refused_in_user first_refused
user_functions size group = rw (users_function group, job_function size group) refl

group_functions : (size : Size) (group : ℕ) → refused_in_group 1_000_000 (made_group size group) ≡ None
unfolding refused_in_group first_refused
group_functions size group = rw (user_functions size group) refl

groups_functions : (size : Size) (place : ℕ) (groups : List ℕ) → first_refused (refused_in_group 1_000_000) place (map (made_group size) groups) ≡ None
unfolding first_refused
groups_functions size place [] = refl
groups_functions size place (group ∷ groups) = rw (group_functions size group, groups_functions size (suc place) groups) refl

pub made_functions : (size : Size) → refused_in_groups 1_000_000 (made size).groups ≡ None
made_functions size = rw (groups_functions size 0 (numbers size.groups)) refl

-- ---- links

link_right : (size : Size) (before : List ℕ) (place link : ℕ) → link < 100_000 → All (IsOther link) before → link_fault (map link_name before) place (link_part (made_link size link)) ≡ None
unfolding link_fault
link_right size before place link small others = rw (absent 108 before link small others, le-ltb 1_000_000_000_000 (1_000 + drawn size link) (omega arith)) refl

links_right : (size : Size) (low n place : ℕ) (before : List ℕ) → low + n ≤ 100_000 → All (λ other. other < low) before
    → first_link_fault (map link_name before) place (map link_part (map (made_link size) (range_with_len low n))) ≡ None
unfolding first_link_fault
links_right size low zero place before few below = refl
links_right size low (suc n) place before few below =
    rw (link_right size before place low (omega arith) (All-weaker (λ other. other < low) (IsOther low) (λ other small. record { small = omega arith; different = λ same. omega arith }) before below), ← map_push link_name before low)
    (links_right size (low + 1) n (suc place) (before ++ low ∷ []) (omega arith) (All-push (λ other. other < low + 1) before low (All-weaker (λ other. other < low) (λ other. other < low + 1) (λ other small. omega arith) before below) (omega arith)))

pub length-links : (size : Size) → length (links_of (made size)) ≡ size.groups
length-links size = length-map (map (made_link size) (numbers size.groups)) link_part ∙ length-map (numbers size.groups) (made_link size) ∙ length-range_with_len 0 size.groups

made_topology : (size : Size) → IsSize size → topology_fault (links_of (made size)) ≡ None
unfolding topology_fault
made_topology size right = rw (le-ltb 65_536 (length (links_of (made size))) (omega (arith, length-links size))) (links_right size 0 size.groups 0 [] (omega arith) (All-nil (λ other. other < 0)))

pub made_network : (size : Size) → IsSize size → network_fault (made size) ≡ None
made_network size right =
    few_links 4_096 (links_of (made size)) (le-ltb 4_096 (length (links_of (made size))) (omega (arith, length-links size))) ∙ made_topology size right
