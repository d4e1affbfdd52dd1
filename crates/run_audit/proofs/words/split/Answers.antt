use Rattle.std.proofs.Common.{◌≡◌, List, ℕ, Bor, Some, None, arith, rules, refl, ◌∙◌, length-set}
use Rattle.text_scan.specs.Cuts.{Cut, cut_at}
use Rattle.run_audit.proofs.WordFacts.{cut_last, cut_more, cut_past}
use Rattle.run_audit.proofs.words.split.Goals as goal

pub returns-in_default-clause-some : goal.returns-in_default-clause-some
returns-in_default-clause-some c =
    let none : None ≡ cut_at 32 c.loop-count.rest.now = search rules in
    cut_last (λ (word : Bor (List ℕ)). word.now) c.loop-count.words c.loop-count.count c.loop-count.rest.now c.args.line.now
    c.loop-count.rest (omega arith) refl none c.loop-count.invariant.so_far

pub loop-count-preserved : goal.loop-count-preserved
loop-count-preserved c =
    let cut : Cut = record { before = c.cut.inside.before.now; behind = c.cut.inside.behind.now } in
    let some : Some cut ≡ cut_at 32 c.loop-count.rest.now = search rules in
    record {
      places = length-set c.loop-count.words c.loop-count.count c.cut.inside.before ∙ c.loop-count.invariant.places;
      so_far = cut_more (λ (word : Bor (List ℕ)). word.now) c.loop-count.words c.loop-count.count c.loop-count.rest.now c.args.line.now
          c.cut.inside.before cut (omega arith) refl some c.loop-count.invariant.so_far;
    }

pub returns-clause-none : goal.returns-clause-none
returns-clause-none c =
    cut_past (λ (word : Bor (List ℕ)). word.now) c.loop-count.words c.loop-count.count c.loop-count.rest.now c.args.line.now
    (omega arith) c.loop-count.invariant.places c.loop-count.invariant.so_far
