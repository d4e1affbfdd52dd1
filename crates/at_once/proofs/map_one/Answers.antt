use Rattle.std.proofs.Common.{◌<◌, ◌++◌, ◌∷◌, [], List, length, set, sym, subst, ap, ◌∙◌, rules}
use Rattle.at_once.specs.Calls.{CallsEach}
use Rattle.at_once.proofs.Calling.{calls_single}
use Rattle.at_once.proofs.map_one.Goals as goal

pub returns : goal.returns
returns g c =
    let items = c.args.items.now in
    let some : 0 < length items = search rules in
    record {
      calls = subst (λ (answers : List g.row.A.Denot). CallsEach g.F.Fn c.args.call.now c.args.first items answers (set items 0 c.call_with-answer.new.item)) (sym (c.in_ok-push.ensures.items ∙ ap (λ (answers : List g.row.A.Denot). answers ++ c.call_with-answer.result ∷ []) c.new-answers.ensures.items))
          (calls_single g.F.Fn c.args.call.now c.args.first items c.index-items-0.result c.call_with-answer.result c.call_with-answer.new.item some c.requires.few c.call_with-answer.ensures.calls);
    }
