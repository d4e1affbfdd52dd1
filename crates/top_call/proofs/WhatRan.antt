-- A call for `audit` finds legal what a call for `run` wrote, by how the two ended.
use Rattle.std.proofs.Common.{◌≡◌, ◌≤◌, ◌<◌, ◌+◌, ◌++◌, ℕ, Bool, true, false, List, length, Option, Some, None, IfSome, codes, cond, inl, refl, sym, ap, subst, ◌∙◌, arith, append-nil, length-append}
use Rattle.std.specs.List.{list_any}
use Rattle.std.proofs.lemmas.Bool.{false≢true}
use Rattle.std.proofs.lemmas.List.{append_cancel_left}
use Rattle.std.specs.Io.KnownBytes.{Appends, Consumes, IsAtEnd}
use Rattle.bwe_io.specs.Bytes.{AppendsPrefix, Takes}
use Rattle.command_line.specs.Lines.{Text, command_line_of, is_hyphens, line_of_texts}
use Rattle.command_line.specs.Ranges.{IsInRange}
use Rattle.command_line.specs.declared.CommandLine.{CommandLine}
use Rattle.command_line.specs.declared.CommandLine.TheVariants.{Audit, Run}
use Rattle.command_line.proofs.Ranges.{texts-in_range}
use Rattle.one_run.specs.Endings.{IsDue, IsInput, Reply, Served, answered, done, far_too_long, max_long_input, no_line, out_of_memory, read_fault, too_long, whole, write_fault}
use Rattle.two_part.specs.TwoPart.{IsTwoPart}
use Rattle.top_call.specs.Laws.{HasGot, IsFoundLegal, WhatRanIsFoundLegal}
use Rattle.top_call.specs.Laws as found
use Rattle.top_call.specs.Statuses.{IsAnswered}
use Rattle.top_call.specs.TopCall.{IsServed, is_too_long, reads as reads_of, replies}
use Rattle.top_call.proofs.RunsAreLegal.{runs-are-legal}
use Rattle.top_call.proofs.Statuses.{an-answer-is-whole}

-- ---- what is known of a source or a sink

some_is : (xs ys : List ℕ) → Some xs ≡ Some ys → xs ≡ ys
some_is xs ys e = cc

-- known bytes that are all consumed are those that were given
all-consumed : (old new : Option (List ℕ)) (input bytes : List ℕ) → old ≡ Some input → Consumes old new bytes → IsAtEnd new → bytes ≡ input
all-consumed None new input bytes e taken end = absurd (let f : None ≡ Some input = e in cc)
all-consumed (Some xs) None input bytes e taken end = absurd taken
all-consumed (Some xs) (Some ys) input bytes e taken end =
    sym (taken ∙ ap (λ (rest : List ℕ). bytes ++ rest) end ∙ append-nil bytes) ∙ some_is xs input e

-- so many bytes are not taken from fewer
not-taken : (old new : Option (List ℕ)) (input : List ℕ) (count : ℕ) → old ≡ Some input → length input < count → Takes count old new → ⊥
not-taken None new input count e few taken = let f : None ≡ Some input = e in cc
not-taken (Some xs) None input count e few taken = taken.1
not-taken (Some xs) (Some ys) input count e few taken =
    omega (arith, few, ap length (sym (some_is xs input e) ∙ taken.1), length-append taken.0 ys, taken.2)

-- ---- what the ends of calls say

module _ {S : Type 0} (left : S → Option (List ℕ)) (source source_after : S) where
  input-is : (does : Bool) (input bytes : List ℕ) → does ≡ true → left source ≡ Some input → IsInput left source source_after does bytes → bytes ≡ input
  input-is false input bytes e given is = absurd (let f : false ≡ true = e in cc)
  input-is true input bytes e given (whole consumed end few) = all-consumed (left source) (left source_after) input bytes given consumed end

appended-is : (old new : Option (List ℕ)) (before text bytes : List ℕ) → old ≡ Some before → new ≡ Some (before ++ text) → Appends old new bytes → bytes ≡ text
appended-is None new before text bytes first last appends = absurd (let f : None ≡ Some before = first in cc)
appended-is (Some xs) None before text bytes first last appends = absurd appends
appended-is (Some xs) (Some ys) before text bytes first last appends =
    append_cancel_left before bytes text (ap (λ (b : List ℕ). b ++ bytes) (sym (some_is xs before first)) ∙ sym appends ∙ some_is ys (before ++ text) last)

some_line : (line other : CommandLine) → Some line ≡ Some other → line ≡ other
some_line line other e = cc

-- the numbers of a command that arguments are lie in their ranges
in-range : (words : List Text) (line : CommandLine) → command_line_of words ≡ Some line → IsInRange line
in-range words line is = go (list_any is_hyphens words) is where
  at : (found : Option CommandLine) → found ≡ Some line → IfSome found IsInRange → IsInRange line
  at None e range = absurd (let f : None ≡ Some line = e in cc)
  at (Some other) e range = subst IsInRange (some_line other line e) range

  go : (b : Bool) → ◌≡◌ {A = Option CommandLine} (cond {A = Option CommandLine} b None (line_of_texts words)) (Some line) → IsInRange line
  go true e = absurd cc
  go false e = at (line_of_texts words) e (texts-in_range words)

-- what a call for `run` that ended with exit status 0 wrote is what it may get for its document
record HasRun (readers reads : ℕ) (document text : List ℕ) : Type 0 where
  reply : Reply
  replied : replies (Run readers reads) document reply
  status_is : reply.status ≡ 0
  text_is : reply.text ≡ text

module _ {S K : Type 0} (line : Option CommandLine) (readers reads : ℕ) (ran : Served S K) (document text : List ℕ) where
  has-run : line ≡ Some (Run readers reads) → IsServed line ran 0 → HasGot ran document text → HasRun readers reads document text
  has-run is served got = go ((an-answer-is-whole S K line ran 0 (inl refl)).0 served) where
    go : IsAnswered line ran 0 → HasRun readers reads document text
    go answer =
        let same : answer.is ≡ Run readers reads = some_line answer.is (Run readers reads) (sym answer.line_is ∙ is) in
        let given : answer.input ≡ document = input-is ran.left ran.source ran.source_after (reads_of answer.is) document answer.input (ap reads_of same) got.given answer.taken_in in
        record {
          reply = answer.reply;
          replied = subst (λ (input : List ℕ). replies (Run readers reads) input answer.reply) given (subst (λ (line : CommandLine). replies line answer.input answer.reply) same answer.replied);
          status_is = answer.status_is;
          text_is = appended-is (ran.written ran.sink) (ran.written ran.sink_after) got.before text answer.reply.text got.first got.last answer.written;
        }

-- ---- the law

module _ {T L : Type 0} (readers reads : ℕ) (document text digits input : List ℕ) (range : IsInRange (Run readers reads)) (run : HasRun readers reads document text)
    (two : IsTwoPart input digits document text) (few : length input ≤ max_long_input) (short : is_too_long Audit input ≡ false) (audited : Served T L) (given : audited.left audited.source ≡ Some input) where
  legal_reply : Reply
  legal_reply = record { status = 0; text = codes "legal\n" }

  replied-legal : (bytes : List ℕ) (reply : Reply) → bytes ≡ input → replies Audit bytes reply → reply ≡ legal_reply
  unfolding legal_reply
  replied-legal bytes reply same replied =
      runs-are-legal readers reads document digits input run.reply reply range run.replied run.status_is
      (subst (λ (wrote : List ℕ). IsTwoPart input digits document wrote) (sym run.text_is) two)
      (subst (λ (input : List ℕ). replies Audit input reply) same replied)

  due-legal : {status : ℕ} {due : List ℕ} → IsDue (record { reads = reads_of; is_too_long = is_too_long; replies = replies }) (Some Audit) audited status due → (status ≡ 0) × (due ≡ codes "legal\n")
  unfolding legal_reply
  due-legal (no_line none kept) = absurd (let f : Some Audit ≡ None = none in cc)
  due-legal (answered {is = is} {input = bytes} {reply = reply} same taken within replied) =
      let line : is ≡ Audit = sym (some_line Audit is same) in
      let all : bytes ≡ input = input-is audited.left audited.source audited.source_after (reads_of is) input bytes (ap reads_of line) given taken in
      let legal : reply ≡ legal_reply = replied-legal bytes reply all (subst (λ (line : CommandLine). replies line bytes reply) line replied) in
      (ap (λ (reply : Reply). reply.status) legal, ap (λ (reply : Reply). reply.text) legal)
  due-legal (too_long {is = is} {input = bytes} same taken long) =
      let line : is ≡ Audit = sym (some_line Audit is same) in
      let all : bytes ≡ input = input-is audited.left audited.source audited.source_after (reads_of is) input bytes (ap reads_of line) given taken in
      absurd (false≢true (sym short ∙ subst (λ (bytes : List ℕ). is_too_long Audit bytes ≡ true) all (subst (λ line. is_too_long line bytes ≡ true) line long)))
  due-legal (far_too_long same read taken) = absurd (not-taken (audited.left audited.source) (audited.left audited.source_after) input (max_long_input + 1) given (omega (arith, few)) taken)

  found-legal : {status : ℕ} → IsServed (Some Audit) audited status → IsFoundLegal audited status
  found-legal (done due written) =
      let legal = due-legal due in
      subst (IsFoundLegal audited) (sym legal.0) (found.legal (subst (λ (due : List ℕ). Appends (audited.written audited.sink) (audited.written audited.sink_after) due) legal.1 written))
  found-legal (read_fault same read risen keeps) = found.read_fault risen keeps
  found-legal (write_fault due risen prefix) =
      found.write_fault risen (subst (λ (due : List ℕ). AppendsPrefix (audited.written audited.sink) (audited.written audited.sink_after) due) (due-legal due).1 prefix)
  found-legal (out_of_memory unread keeps) = found.out_of_memory keeps

module _ (S K T L : Type 0) where
  pub what-ran-is-found-legal : WhatRanIsFoundLegal S K T L
  what-ran-is-found-legal words readers reads ran document text is served got digits input audited status two few short given ended =
      found-legal readers reads document text digits input (in-range words (Run readers reads) is) (has-run (command_line_of words) readers reads ran document text is served got) two few short audited given ended
