use Rattle.std.proofs.Common.{◌≡◌, ◌++◌, [], ◌∷◌, None, sym, ◌∙◌, ap, append-nil, append_assoc}
use Rattle.last_reports.proofs.Putting.{given-more}
use Rattle.last_reports.proofs.kept.push_told.Goals as goal
use Rattle.last_reports.proofs.kept.push_told.Goals.{in-Some+in_ok-push, in_default}

pub loop-last-preserved : goal.loop-last-preserved
loop-last-preserved c =
    elim c.match-last.branch [
      | in-Some+in_ok-push w ↦
          let more = given-more c.args.told.now c.loop-last.last-index _ _ c.loop-last-test.true w.in-Some.is in
          let pushed : c.match-last.list.items ≡ c.loop-last.list.items ++ w.in-Some.report ∷ [] = cc (w.in_ok-push.ensures.items) in
          pushed ∙ ap (λ xs. xs ++ w.in-Some.report ∷ []) c.loop-last.invariant ∙ (append_assoc c.args.list.now.items _ _ ∙ ap (λ xs. c.args.list.now.items ++ xs) (sym more))
      | in_default w ↦
          let more = given-more c.args.told.now c.loop-last.last-index None _ c.loop-last-test.true w.in_default.is in
          ap (λ list. list.items) w.list-is ∙ c.loop-last.invariant ∙ ap (λ xs. c.args.list.now.items ++ xs) (sym (more ∙ append-nil _))
    ]
