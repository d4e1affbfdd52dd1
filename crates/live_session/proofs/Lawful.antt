-- The laws of all inputs.
use Rattle.std.proofs.Common.{◌≡◌, ◌+◌, Bool, cond, not, List, [], ◌∷◌, ◌++◌, map, filter, length, refl, sym, ◌∙◌, ap, arith, le_refl}
use Rattle.bwe_specs.specs.declared.report.Report.{Report}
use Rattle.bwe_specs.specs.Allocation.{Plan, allocation}
use Rattle.allocator.specs.Frames.{task_count}
use Rattle.allocator.specs.FrameLaws.{covers-allocation, one_frame-allocation}
use Rattle.last_reports.specs.Snapshot.{snapshot}
use Rattle.last_reports.proofs.Snapshots.{snapshot-same}
use Rattle.doc_parts.specs.Document.{Accepted}
use Rattle.doc_parts.specs.Plans.{plan_of}
use Rattle.table_text.specs.TableText.{text_of}
use Rattle.live_lines.specs.Cutting.{Held}
use Rattle.live_lines.specs.Known.{Known}
use Rattle.live_lines.specs.Meaning.{meaning_of}
use Rattle.live_lines.specs.declared.line.LineMeaning.{LineMeaning}
use Rattle.live_lines.specs.declared.line.LineMeaning.TheVariants.{NewReport, Post, State, Refused}
use Rattle.change_text.specs.ChangeText.{change_text_of}
use Rattle.change_text.proofs.LawFacts.{kept_are_made}
use Rattle.live_session.specs.Standing.{Standing, at_first, after_line, after_lines}
use Rattle.live_session.specs.Answers.{known_of, standing_in, answer_in}
use Rattle.live_session.specs.Laws.{written_table, with_reports, is_refused, KeptTables, PostsAlone, NeverBack, RefusedLinesAreNoReports, SnapshotPromise}
use Rattle.live_session.proofs.Lines.{standing-more, accepted-is, written-other, IsFurther, further, accepted-reports}

-- a post writes what was accepted
written-post : (accepted : Accepted) (lines : List Held) (line : Held) → meaning_of (known_of accepted) line ≡ Post
    → (standing_in accepted (lines ++ line ∷ [])).written ≡ (standing_in accepted lines).accepted
written-post accepted lines line is =
    ap (λ standing. standing.written) (standing-more accepted lines (line ∷ []))
    ∙ ap (λ meaning. (after_line (standing_in accepted lines) meaning).written) is

made-post : (accepted : Accepted) (lines : List Held) (line : Held) → meaning_of (known_of accepted) line ≡ Post
    → written_table accepted (lines ++ line ∷ []) ≡ allocation (plan_of accepted) (with_reports accepted lines).script
made-post accepted lines line is =
    ap (allocation (plan_of accepted)) (written-post accepted lines line is ∙ accepted-is (known_of accepted) (at_first accepted.script) lines)

pub kept : KeptTables
kept accepted lines line is =
    let known : Known = known_of accepted in
    let plan : Plan = plan_of accepted in
    let standing : Standing = standing_in accepted lines in
    record {
      change =
          ap (answer_in known plan standing (length lines + 1)) is
          ∙ ap (λ reports. change_text_of known.names (allocation plan standing.written) (allocation plan reports)) (sym (written-post accepted lines line is));
      made = made-post accepted lines line is;
      kept =
          kept_are_made known.names (written_table accepted lines) (written_table accepted (lines ++ line ∷ []))
          (one_frame-allocation plan standing.written (standing_in accepted (lines ++ line ∷ [])).written)
          ∙ ap (text_of known.names) (made-post accepted lines line is);
    }

pub alone : PostsAlone
alone accepted lines line other =
    ap (λ standing. allocation (plan_of accepted) standing.written) (standing-more accepted lines (line ∷ []))
    ∙ ap (allocation (plan_of accepted)) (written-other (standing_in accepted lines) (meaning_of (known_of accepted) line) other)

pub never : NeverBack
never accepted lines more =
    let plan : Plan = plan_of accepted in
    let now : Standing = standing_in accepted lines in
    let so_far : IsFurther (at_first accepted.script) now =
    further (at_first accepted.script) (map (meaning_of (known_of accepted)) lines) (le_refl (length accepted.script)) in
    let then : IsFurther now (after_lines now (map (meaning_of (known_of accepted)) more)) =
    further now (map (meaning_of (known_of accepted)) more) so_far.within in
    let on = standing-more accepted lines more in
    record {
      accepted_so_far = omega (arith, then.accepted, ap (λ standing. length standing.accepted) on);
      written_so_far = omega (arith, then.written, ap (λ standing. length standing.written) on, covers-allocation plan now.written, covers-allocation plan (standing_in accepted (lines ++ more)).written);
      written_of_accepted = omega (arith, so_far.within, covers-allocation plan now.written);
    }

-- a line that is left out where it is refused
abbrev is_answered : Known → Held → Bool
is_answered known line = not (is_refused (meaning_of known line))

left_out : (known : Known) (standing : Standing) (line : Held) (lines : List Held) (meaning : LineMeaning) → meaning_of known line ≡ meaning
    → ((standing : Standing) → after_lines standing (map (meaning_of known) (filter (is_answered known) lines)) ≡ after_lines standing (map (meaning_of known) lines))
    → after_lines standing (map (meaning_of known) (cond (not (is_refused meaning)) (line ∷ filter (is_answered known) lines) (filter (is_answered known) lines)))
    ≡ after_lines (after_line standing meaning) (map (meaning_of known) lines)
left_out known standing line lines (NewReport report) is rest =
    rest (after_line standing (meaning_of known line)) ∙ ap (λ meaning. after_lines (after_line standing meaning) (map (meaning_of known) lines)) is
left_out known standing line lines Post is rest =
    rest (after_line standing (meaning_of known line)) ∙ ap (λ meaning. after_lines (after_line standing meaning) (map (meaning_of known) lines)) is
left_out known standing line lines State is rest =
    rest (after_line standing (meaning_of known line)) ∙ ap (λ meaning. after_lines (after_line standing meaning) (map (meaning_of known) lines)) is
left_out known standing line lines (Refused cause) is rest = rest standing

without-refused : (known : Known) (lines : List Held) (standing : Standing)
    → after_lines standing (map (meaning_of known) (filter (is_answered known) lines)) ≡ after_lines standing (map (meaning_of known) lines)
without-refused known [] standing = refl
without-refused known (line ∷ lines) standing =
    left_out known standing line lines (meaning_of known line) refl (λ standing. without-refused known lines standing)

pub refused : RefusedLinesAreNoReports
refused accepted lines = without-refused (known_of accepted) lines (at_first accepted.script)

pub promised : SnapshotPromise
promised accepted lines said all same =
    let plan : Plan = plan_of accepted in
    let reports : List Report = (standing_in accepted lines).accepted in
    ap (λ reports'. record (allocation plan reports') { prefix = length reports })
    (ap (λ meanings. (after_lines (at_first []) meanings).accepted) same
    ∙ accepted-reports (at_first []) (snapshot (task_count plan) (length plan.capacities) reports))
    ∙ snapshot-same plan (task_count plan) (length plan.capacities) reports all
