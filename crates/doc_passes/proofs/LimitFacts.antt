-- A document without a count above its limit has few of everything.
use Rattle.std.proofs.Common.{◌≡◌, ℕ, ◌≤◌, ◌==◌, Bool, true, false, cond, length, Option, Some, None, refl, arith}
use Rattle.std.specs.Prelude.{nat_lt}
use Rattle.std.specs.Option.{option_or}
use Rattle.std.proofs.lemmas.Bool.{ltb-false}
use Rattle.raw_document.specs.Raw.{Raw}
use Rattle.bwe_specs.proofs.Lists.{neither}
use Rattle.bwe_specs.specs.declared.document_limits.DocumentLimits.{DocumentLimits}
use Rattle.bwe_specs.specs.declared.limits.TheConstants.{MAX_CLOSINGS, MAX_GROUPS, MAX_REPORTERS, MAX_REPORTS}
use Rattle.bwe_specs.specs.DocumentLimits.{limits_before_4, limits_of_4, limits_of}
use Rattle.doc_passes.specs.declared.limit.What.{What}
use Rattle.doc_passes.specs.declared.limit.What.TheVariants as counts
use Rattle.doc_passes.specs.declared.limit.Overrun.{Overrun}
use Rattle.doc_passes.specs.Limits.{first_some, overrun_of, group_overrun, hops, lists_overrun, overrun_within, overrun}
use Rattle.doc_passes.specs.Passed.{AreFew}

within : (what : What) (limit count : ℕ) → overrun_of what limit count ≡ None → count ≤ limit
within what limit count e = go (nat_lt limit count) refl e where
  go : (over : Bool) → nat_lt limit count ≡ over → ◌≡◌ {A = Option Overrun} (cond {A = Option Overrun} over (Some (record { what = what; count = count })) None) None → count ≤ limit
  go true is h = absurd cc
  go false is h = ltb-false limit count is

-- what every version lets pass
record IsWithin (limits : DocumentLimits) : Type 0 where
  groups : limits.groups ≤ MAX_GROUPS
  reporters : limits.reporters ≤ MAX_REPORTERS
  reports : limits.reports ≤ MAX_REPORTS
  closings : limits.closings ≤ MAX_CLOSINGS

each_within : (is_4 : Bool) → IsWithin (cond is_4 limits_of_4 limits_before_4)
each_within true = record { groups = omega arith; reporters = omega arith; reports = omega arith; closings = omega arith }
each_within false = record { groups = omega arith; reporters = omega arith; reports = omega arith; closings = omega arith }

few_within : (limits : DocumentLimits) → IsWithin limits → (raw : Raw) → overrun_within limits raw ≡ None → AreFew raw
unfolding overrun_within
few_within limits is raw e =
    let groups = neither (overrun_of counts.Groups limits.groups (length raw.groups)) (option_or (first_some group_overrun raw.groups) (option_or (overrun_of counts.Hops limits.hops (hops raw.groups)) (lists_overrun limits raw))) e in
    let points = neither (first_some group_overrun raw.groups) (option_or (overrun_of counts.Hops limits.hops (hops raw.groups)) (lists_overrun limits raw)) groups.1 in
    let hops = neither (overrun_of counts.Hops limits.hops (hops raw.groups)) (lists_overrun limits raw) points.1 in
    let reporters = neither (overrun_of counts.Reporters limits.reporters (length raw.reporters)) (option_or (overrun_of counts.Script limits.reports (length raw.script)) (overrun_of counts.Closings limits.closings (length raw.closings))) hops.1 in
    let script = neither (overrun_of counts.Script limits.reports (length raw.script)) (overrun_of counts.Closings limits.closings (length raw.closings)) reporters.1 in
    record {
      groups = omega (arith, within counts.Groups limits.groups (length raw.groups) groups.0, is.groups);
      reporters = omega (arith, within counts.Reporters limits.reporters (length raw.reporters) reporters.0, is.reporters);
      script = omega (arith, within counts.Script limits.reports (length raw.script) script.0, is.reports);
      closings = omega (arith, within counts.Closings limits.closings (length raw.closings) script.1, is.closings);
    }

pub are_few : (raw : Raw) → overrun raw ≡ None → AreFew raw
unfolding overrun
are_few raw e = few_within (limits_of raw.version) (each_within (raw.version == 4)) raw e
