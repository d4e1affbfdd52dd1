use Rattle.std.proofs.Common.{◌≡◌, ◌++◌, ◌∙◌, ap, sym, subst, arith, length, drop, List, append_assoc}
use Rattle.std.specs.List.{All}
use Rattle.std.proofs.lemmas.List.{take_rest}
use mathlib.Core.List.{IsPrefix}
use Rattle.bwe_specs.specs.declared.report.Report.{Report}
use Rattle.bwe_specs.specs.Fit.{IsFit}
use Rattle.board_core.specs.Core.{IsAllowed}
use Rattle.board_log.proofs.Prefixes.{followed}
use Rattle.board_workshop.proofs.Workshop.look.Goals as goal

pub invariant_of-self-2 : goal.invariant_of-self-2
invariant_of-self-2 g c =
    let i = c.self.invariant in
    let known = c.self.inside.known in
    let log = c.args.log.now in
    let seen = c.len-seen.result in
    let waiting = c.queue.new.waiting.items in
    let begins : IsPrefix known log = subst (IsPrefix known) c.requires.whole c.if-not-begins.ensures.begins in
    let more : waiting ≡ c.self.inside.waiting.items ++ drop seen log = c.in_ok-queue.ensures.ok ∙ ap (λ (l : List Report). c.self.inside.waiting.items ++ l) (take_rest log seen) in
    let whole : known ++ drop seen log ≡ log = followed known log (drop seen log) seen begins (sym c.len-seen.ensures.length) (λ k. drop seen log) in
    let regrouped : log ≡ i.taken ++ waiting =
    sym whole ∙ ap (λ (l : List Report). l ++ drop seen log) i.seen_so ∙ append_assoc i.taken c.self.inside.waiting.items (drop seen log) ∙ ap (λ (l : List Report). i.taken ++ l) (sym more) in
    let P : Report → Type 0 = IsAllowed g.N.Profile.reporters (IsFit g.N.Profile.tasks g.N.Profile.links) in
    record {
      taken = i.taken;
      absorbed_so = i.absorbed_so;
      seen_so = c.requires.whole ∙ regrouped;
      room = omega (arith, c.requires.room, ap length c.requires.whole);
      allowed = subst (All P) (sym c.requires.whole) c.requires.allowed;
      names = i.names;
      tasks_so = i.tasks_so;
      links_so = i.links_so;
    }
