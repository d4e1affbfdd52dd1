use Rattle.std.proofs.Common.{◌∙◌, List, [], ℕ, arith, refl, subst, sym, take, length}
use Rattle.std.proofs.lemmas.Bool.{eqb-true}
use Rattle.live_run.specs.Answers.{GivesFirst}
use Rattle.live_run.specs.Endings.{Ending, for_words, no_words, usage_line, write_fault}
use Rattle.live_run.proofs.Conversing.{Converses-gives}
use Rattle.live_run.proofs.Ends.{Ending-stopped, served}
use Rattle.live_run.proofs.Fronts.{some-of}
use Rattle.live_run.proofs.Giving.{Gives-same}
use Rattle.live_run.proofs.served.serve.Goals as goal

pub returns-in-Ok : goal.returns-in-Ok
returns-in-Ok g c = record {
  passed = record { read = []; written = usage_line };
  conversation = Converses-gives g.F.Follower.follow _ _ [] [] usage_line usage_line (Gives-same _ _ _ _ c.as_bytes.ensures.value c.in-Ok.ensures.given) refl;
  ending = no_words (omega (arith, some-of (length c.args.words.now) (sym c.is_empty.ensures ∙ c.if-not-is_empty.true))) refl refl;
  untouched = λ _. refl;
}

pub returns-in-Err : goal.returns-in-Err
returns-in-Err g c =
    let first : GivesFirst (g.S.Stream.talk c.args.stream.now) (g.S.Stream.talk c.write_line.new.stream) usage_line =
    subst (λ (t : List ℕ). GivesFirst (g.S.Stream.talk c.args.stream.now) (g.S.Stream.talk c.write_line.new.stream) t) c.as_bytes.ensures.value c.in-Err.ensures.partly in
    record {
      passed = record { read = []; written = take first.count usage_line };
      conversation = Converses-gives g.F.Follower.follow _ _ [] [] (take first.count usage_line) (take first.count usage_line) first.gives refl;
      ending = write_fault c.in-Err.ensures.fault (record {
        text = usage_line;
        due = for_words (omega (arith, some-of (length c.args.words.now) (sym c.is_empty.ensures ∙ c.if-not-is_empty.true)));
        count = first.count;
        within = first.within;
        written_so = refl;
      });
      untouched = λ _. refl;
    }

pub returns-in-Err-converse : goal.returns-in-Err-converse
returns-in-Err-converse g c =
    let ended = c.in-Err-converse.ensures in
    served g.F.Follower.follow (length c.args.words.now) _ _ _ _ ended.0 _
    (eqb-true (length c.args.words.now) 0 (sym c.is_empty.ensures ∙ c.if-not-is_empty.false)) ended.1
    (subst (λ s. Ending g.F.Follower.follow 0 (g.S.Stream.talk c.converse.new.stream) (g.S.Stream.faults c.args.stream.now) (g.S.Stream.faults c.converse.new.stream) ended.0 s)
    (sym c.status_of.ensures)
    (Ending-stopped g.F.Follower.follow 0 _ _ _ ended.0 c.in-Err-converse.stop ended.2))
