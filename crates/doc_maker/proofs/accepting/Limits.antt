-- A made document has no count above its limit.
use Rattle.std.proofs.Common.{◌≡◌, ℕ, ◌*◌, ◌≤◌, ◌%◌, ◌==◌, Bool, true, false, List, [], ◌∷◌, length, map, Some, None, refl, ◌∙◌, arith}
use Rattle.std.specs.Prelude.{if◌then◌else◌}
use Rattle.std.proofs.lemmas.Bool.{le-ltb}
use Rattle.std.proofs.lemmas.List.{length-map}
use Rattle.std.proofs.lemmas.List.FromFn.{length-range_with_len}
use Rattle.bwe_specs.specs.Reports.{numbers}
use Rattle.doc_passes.specs.declared.limit.What.{What}
use Rattle.doc_passes.specs.declared.limit.What.TheVariants as counts
use Rattle.doc_passes.specs.Limits.{first_some, sum_of, overrun_of, configured_overrun, job_overrun, user_overrun, group_overrun, group_hops, hops, overrun_within, overrun}
use Rattle.doc_maker.specs.Made.{Size, IsSize, user_function, made_job, made_user, made_group, made_report, made}

within : (what : What) (limit count : ℕ) → count ≤ limit → overrun_of what limit count ≡ None
within what limit count few = rw (le-ltb limit count few) refl

job_within : (size : Size) (group : ℕ) → job_overrun (made_job size group) ≡ None
unfolding job_overrun
job_within size group = refl

user_function_within : (group : ℕ) → configured_overrun (user_function group) ≡ None
user_function_within group = go (group % 3 == 0) where
  go : (capped : Bool) → configured_overrun (if capped then Some ((0, 0) ∷ (1_000_000, 2_000) ∷ []) else None) ≡ None
  go true = refl
  go false = refl

user_within : (size : Size) (group : ℕ) → user_overrun (made_user size group) ≡ None
unfolding user_overrun first_some
user_within size group = rw (user_function_within group, job_within size group) refl

group_within : (size : Size) (group : ℕ) → group_overrun (made_group size group) ≡ None
unfolding group_overrun first_some
group_within size group = rw (user_within size group) refl

groups_within : (size : Size) (groups : List ℕ) → first_some group_overrun (map (made_group size) groups) ≡ None
unfolding first_some
groups_within size [] = refl
groups_within size (group ∷ groups) = rw (group_within size group, groups_within size groups) refl

-- three links a group
group_hops_are : (size : Size) (group : ℕ) → group_hops (made_group size group) ≡ 3
unfolding sum_of
group_hops_are size group = refl

hops_are : (size : Size) (groups : List ℕ) → hops (map (made_group size) groups) ≡ 3 * length groups
unfolding sum_of
hops_are size [] = refl
hops_are size (group ∷ groups) = let later : hops (map (made_group size) groups) ≡ 3 * length groups = hops_are size groups in omega (arith, group_hops_are size group)

pub length-numbers : {A : Type 0} (f : ℕ → A) (n : ℕ) → length (map f (numbers n)) ≡ n
length-numbers f n = length-map (numbers n) f ∙ length-range_with_len 0 n

pub made_within : (size : Size) → IsSize size → overrun (made size) ≡ None
unfolding overrun overrun_within
made_within size right =
    rw (
      within counts.Groups 1_024 (length (made size).groups) (omega (arith, length-numbers (made_group size) size.groups)),
      groups_within size (numbers size.groups),
      within counts.Hops 1_000_000 (hops (made size).groups) (omega (arith, hops_are size (numbers size.groups), length-range_with_len 0 size.groups)),
      within counts.Script 200_000 (length (made size).script) (omega (arith, length-numbers (made_report size) size.tasks)),
    ) refl
