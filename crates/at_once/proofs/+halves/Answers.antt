use Rattle.std.proofs.Common.{◌++◌, List, sym, subst, rules}
use Rattle.at_once.specs.Calls.{CallsEach}
use Rattle.at_once.proofs.Calling.{calls_both}
use Rattle.at_once.proofs.+halves.Goals as goal

pub map_halves-returns : goal.map_halves-returns
map_halves-returns g t c =
    let front : CallsEach g.F.Fn c.args.call.now c.args.first c.args.front.now c.in_ok-answers.answers.items c.front-1.given.0 = search rules in
    let back : CallsEach g.F.Fn c.args.call.now c.args.next c.args.back.now c.in_ok-others.others.items c.back-1.given.0 = search rules in
    record {
      calls = subst (λ (answers : List g.row.A.Denot). CallsEach g.F.Fn c.args.call.now c.args.first (c.args.front.now ++ c.args.back.now) answers (c.front-1.given.0 ++ c.back-1.given.0))
          (sym c.in_ok-append.ensures.items)
          (calls_both g.F.Fn c.args.call.now c.args.first c.args.next c.args.front.now c.args.back.now c.in_ok-answers.answers.items c.in_ok-others.others.items c.front-1.given.0 c.back-1.given.0
          c.requires.next front back);
    }
