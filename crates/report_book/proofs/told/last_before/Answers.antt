use Rattle.std.proofs.Common.{◌≡◌, ◌-◌, suc, ℕ, sym, ◌∙◌, ap, arith}
use Rattle.report_book.specs.declared.told.Told.{Told}
use Rattle.report_book.proofs.Amounts.{amount_before-split, amount_of}
use Rattle.report_book.proofs.told.last_before.Goals as goal

nothing : Told
nothing = record { place = 0; amount = 0 }

pub returns-in-0 : goal.returns-in-0
returns-in-0 c =
    sym (amount_before-split c.args.first c.args.told.now c.args.place c.count_before.result nothing c.count_before.ensures.within c.count_before.ensures.before
    ∙ ap (λ (count : ℕ). amount_of c.args.first c.args.told.now count nothing) c.in-0.is)

pub returns-in_default : goal.returns-in_default
unfolding nothing
returns-in_default c =
    let more : c.count_before.result ≡ suc (c.count_before.result - 1) = omega arith in
    sym (amount_before-split c.args.first c.args.told.now c.args.place c.count_before.result nothing c.count_before.ensures.within c.count_before.ensures.before
    ∙ ap (λ (count : ℕ). amount_of c.args.first c.args.told.now count nothing) more)
