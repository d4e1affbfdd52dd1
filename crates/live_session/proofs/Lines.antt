-- What lines make of a document, line by line.
use Rattle.std.proofs.Common.{◌≡◌, ◌≢◌, ◌≤◌, List, [], ◌∷◌, ◌++◌, map, flat_map, length, refl, sym, ◌∙◌, ap, append_assoc, append-nil, arith, le_refl}
use Rattle.std.proofs.lemmas.List.{map-append, length_push}
use Rattle.std.proofs.lemmas.List.Concat.{flat_map-cons}
use Rattle.std.proofs.lemmas.List.Sums.{fold-append}
use Rattle.bwe_specs.specs.declared.report.Report.{Report}
use Rattle.doc_parts.specs.Document.{Accepted}
use Rattle.live_lines.specs.Cutting.{Held}
use Rattle.live_lines.specs.Known.{Known}
use Rattle.live_lines.specs.Meaning.{meaning_of}
use Rattle.live_lines.specs.declared.line.LineMeaning.{LineMeaning}
use Rattle.live_lines.specs.declared.line.LineMeaning.TheVariants.{NewReport, Post, State, Refused}
use Rattle.live_session.specs.Standing.{Standing, at_first, after_line, after_lines}
use Rattle.live_session.specs.Answers.{known_of, standing_in}
use Rattle.live_session.specs.Laws.{reports_in}

-- further lines go on from what stands
pub standing-more : (accepted : Accepted) (lines more : List Held)
    → standing_in accepted (lines ++ more) ≡ after_lines (standing_in accepted lines) (map (meaning_of (known_of accepted)) more)
standing-more accepted lines more =
    ap (after_lines (at_first accepted.script)) (map-append (meaning_of (known_of accepted)) lines more)
    ∙ fold-append after_line (at_first accepted.script) (map (meaning_of (known_of accepted)) lines) (map (meaning_of (known_of accepted)) more)

accepted-one : (standing : Standing) (meaning : LineMeaning) → (after_line standing meaning).accepted ≡ standing.accepted ++ reports_in meaning
accepted-one standing (NewReport report) = refl
accepted-one standing Post = sym (append-nil standing.accepted)
accepted-one standing State = sym (append-nil standing.accepted)
accepted-one standing (Refused cause) = sym (append-nil standing.accepted)

-- the reports of the lines stand behind those that were accepted
pub accepted-is : (known : Known) (standing : Standing) (lines : List Held)
    → (after_lines standing (map (meaning_of known) lines)).accepted ≡ standing.accepted ++ flat_map (λ line. reports_in (meaning_of known line)) lines
accepted-is known standing [] = sym (append-nil standing.accepted)
accepted-is known standing (line ∷ lines) =
    let reports = flat_map (λ line. reports_in (meaning_of known line)) lines in
    accepted-is known (after_line standing (meaning_of known line)) lines
    ∙ ap (λ front. front ++ reports) (accepted-one standing (meaning_of known line))
    ∙ (append_assoc standing.accepted (reports_in (meaning_of known line)) reports
    ∙ ap (λ rest. standing.accepted ++ rest) (sym (flat_map-cons (λ line. reports_in (meaning_of known line)) line lines)))

-- no line but a post writes
pub written-other : (standing : Standing) (meaning : LineMeaning) → meaning ≢ Post → (after_line standing meaning).written ≡ standing.written
written-other standing (NewReport report) other = refl
written-other standing Post other = absurd (other refl)
written-other standing State other = refl
written-other standing (Refused cause) other = refl

-- nothing falls, and no more is written than was accepted
pub record IsFurther (old new : Standing) : Type 0 where
  pub accepted : length old.accepted ≤ length new.accepted
  pub written : length old.written ≤ length new.written
  pub within : length new.written ≤ length new.accepted

further-one : (standing : Standing) (meaning : LineMeaning) → length standing.written ≤ length standing.accepted → IsFurther standing (after_line standing meaning)
further-one standing (NewReport report) within = record {
  accepted = omega (arith, length_push standing.accepted report);
  written = le_refl (length standing.written);
  within = omega (arith, length_push standing.accepted report);
}
further-one standing Post within = record { accepted = le_refl (length standing.accepted); written = within; within = le_refl (length standing.accepted) }
further-one standing State within = record { accepted = le_refl (length standing.accepted); written = le_refl (length standing.written); within = within }
further-one standing (Refused cause) within = record { accepted = le_refl (length standing.accepted); written = le_refl (length standing.written); within = within }

pub further : (standing : Standing) (meanings : List LineMeaning) → length standing.written ≤ length standing.accepted → IsFurther standing (after_lines standing meanings)
further standing [] within = record { accepted = le_refl (length standing.accepted); written = le_refl (length standing.written); within = within }
further standing (meaning ∷ meanings) within =
    let one : IsFurther standing (after_line standing meaning) = further-one standing meaning within in
    let rest : IsFurther (after_line standing meaning) (after_lines (after_line standing meaning) meanings) = further (after_line standing meaning) meanings one.within in
    record { accepted = omega (arith, one.accepted, rest.accepted); written = omega (arith, one.written, rest.written); within = rest.within }

-- reports alone are accepted one behind the other
pub accepted-reports : (standing : Standing) (reports : List Report) → (after_lines standing (map (λ report. NewReport report) reports)).accepted ≡ standing.accepted ++ reports
accepted-reports standing [] = sym (append-nil standing.accepted)
accepted-reports standing (report ∷ reports) =
    accepted-reports (after_line standing (NewReport report)) reports ∙ append_assoc standing.accepted (report ∷ []) reports
