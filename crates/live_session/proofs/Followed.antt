-- A session that goes on by one line, and one that begins.
use Rattle.std.proofs.Common.{◌≡◌, ℕ, ◌+◌, List, [], ◌∷◌, ◌++◌, length, Option, Some, None, IfSome, Result, Err, is_ok, false, sym, ◌∙◌, ap, ap₂, subst}
use Rattle.std.specs.Option.{option_map}
use Rattle.std.proofs.lemmas.List.{length_push}
use Rattle.bwe_specs.specs.Fit.{IsFit}
use Rattle.allocator.specs.Frames.{task_count}
use Rattle.doc_parts.specs.Document.{Accepted, document}
use Rattle.plan_doc.specs.declared.document.Document.{Document}
use Rattle.plan_doc.specs.Accepted.{IsDocumentOf}
use Rattle.doc_names.specs.NameTexts.{NameTexts}
use Rattle.doc_parts.specs.Plans.{plan_of}
use Rattle.plan_doc.specs.Plans.{plan_in}
use Rattle.doc_refusals.specs.Refusals.{Refusal}
use Rattle.refusal_text.specs.RefusalLines.{refusal_line}
use Rattle.plan_doc.proofs.PlanFacts.{plan-is}
use Rattle.live_lines.specs.Cutting.{Held}
use Rattle.live_lines.specs.Known.{Known, known_by}
use Rattle.live_lines.specs.Meaning.{meaning_of, IfNewReport}
use Rattle.live_lines.specs.declared.line.LineMeaning.{LineMeaning}
use Rattle.live_core.specs.Live as live
use Rattle.live_core.specs.Live.{Live, IsLive}
use Rattle.live_session.specs.Standing.{Standing, after_line}
use Rattle.live_session.specs.Answers.{known_of, standing_in, answer_in, answer_by, answer_of, first_by}
use Rattle.live_session.specs.Following.{Session, HasOwners, Stands, IsSession, HasFollowed}
use Rattle.live_session.proofs.Lines.{standing-more}

abbrev pub session_of : Live → Known → ℕ → Session
session_of core known lines = record { core = core; known = known; lines = lines }

-- owners go with the plan
pub owners-same : (known : Known) (old new : Live) → live.plan_of new ≡ live.plan_of old → HasOwners known old → HasOwners known new
owners-same known old new same is = record {
  tasks = is.tasks ∙ ap task_count (sym same);
  links = is.links ∙ ap (λ plan. length plan.capacities) (sym same);
}

-- a report of tasks and links that have owners fits
pub fits-owned : (meaning : LineMeaning) (known : Known) (core : Live) → HasOwners known core
    → IfNewReport meaning (IsFit (length known.task_owners) (length known.link_owners)) → IfNewReport meaning (IsFit (live.tasks_of core) (live.links_of core))
fits-owned meaning known core owners fit =
    subst (λ tasks. IfNewReport meaning (IsFit tasks (live.links_of core))) owners.tasks
    (subst (λ links. IfNewReport meaning (IsFit (length known.task_owners) links)) owners.links fit)

-- the answer to a line is that of the definition
pub answers : (session : Session) (bytes : List ℕ) (lines : List Held) (line : Held) (number : ℕ) (meaning : LineMeaning) (text : List ℕ)
    → number ≡ session.lines + 1 → meaning ≡ meaning_of session.known line
    → ((standing : Standing) → Stands session.core standing → text ≡ answer_in session.known (live.plan_of session.core) standing number meaning)
    → HasFollowed session bytes lines → text ≡ answer_of bytes lines line
unfolding answer_of
answers session bytes lines line number meaning text count means answered followed =
    let accepted : Accepted = followed.0 in
    let is : IsSession session accepted lines = followed.2 in
    answered (standing_in accepted lines) is.stands
    ∙ ap₂ (λ known plan. answer_in known plan (standing_in accepted lines) number meaning) is.known is.plan
    ∙ ap₂ (answer_in (known_of accepted) (plan_of accepted) (standing_in accepted lines)) (count ∙ ap (λ lines. lines + 1) is.count)
    (means ∙ ap (λ known. meaning_of known line) is.known)
    ∙ ap (λ read. answer_by read lines line) (sym followed.1)

-- and so the session has answered one line more
pub follows : (session new : Session) (bytes : List ℕ) (lines : List Held) (line : Held) (meaning : LineMeaning) → new.known ≡ session.known
    → new.lines ≡ session.lines + 1 → live.plan_of new.core ≡ live.plan_of session.core → meaning ≡ meaning_of session.known line
    → ((standing : Standing) → Stands session.core standing → Stands new.core (after_line standing meaning))
    → HasFollowed session bytes lines → HasFollowed new bytes (lines ++ line ∷ [])
follows session new bytes lines line meaning known count plan means stands followed =
    let accepted : Accepted = followed.0 in
    let is : IsSession session accepted lines = followed.2 in
    let after : after_line (standing_in accepted lines) meaning ≡ standing_in accepted (lines ++ line ∷ []) =
    ap (after_line (standing_in accepted lines)) (means ∙ ap (λ known. meaning_of known line) is.known) ∙ sym (standing-more accepted lines (line ∷ [])) in (
      accepted,
      followed.1,
      record {
        plan = plan ∙ is.plan;
        known = known ∙ is.known;
        count = count ∙ ap (λ lines. lines + 1) is.count ∙ sym (length_push lines line);
        stands = subst (Stands new.core) after (stands (standing_in accepted lines) is.stands);
      },
    )

-- ---- before any line

abbrev known_parts : NameTexts → List ℕ → List (Option ℕ) → Known
known_parts names task_owners link_owners = record {
  names = names;
  task_owners = task_owners;
  link_owners = link_owners;
}

known-is : (accepted : Accepted) (document : Document) → IsDocumentOf accepted document
    → known_by document.names document.task_owners.items document.link_owners.items ≡ known_of accepted
known-is accepted document is =
    ap (λ names. known_parts names document.task_owners.items document.link_owners.items) is.names
    ∙ ap₂ (known_parts accepted.names) is.task_owners is.link_owners

pub begins : (session : Session) (accepted : Accepted) (document : Document) → IsDocumentOf accepted document → live.plan_of session.core ≡ plan_in document
    → session.known ≡ known_by document.names document.task_owners.items document.link_owners.items → session.lines ≡ 0
    → IsLive session.core document.script.items document.script.items → IsSession session accepted []
begins session accepted document is plan known lines stands = record {
  plan = plan ∙ plan-is accepted document is;
  known = known ∙ known-is accepted document is;
  count = lines;
  stands = subst (λ script. IsLive session.core script script) is.script stands;
}

-- what is written for a refused document is the line of its refusal
pub refused-is : (read : Result Accepted Refusal) (named : Option Refusal) (text : List ℕ) → IfSome named (λ refusal. read ≡ Err refusal)
    → option_map refusal_line named ≡ Some text → (text ≡ first_by read) × (is_ok read ≡ false)
refused-is read (Some refusal) text is printed =
    let line : refusal_line refusal ≡ text = cc in (sym line ∙ ap first_by (sym is), ap is_ok is)
refused-is read None text is printed = cc
