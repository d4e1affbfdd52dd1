use Rattle.std.proofs.Common.{◌∷◌, [], List, length, ap, sym, subst, arith}
use Rattle.std.specs.Prelude.{All}
use Rattle.std.proofs.lemmas.List.{length_push}
use Rattle.std.proofs.lemmas.List.Elements.{All-append, All-cons, All-nil}
use Rattle.kept_tree.specs.declared.group.KnownGroup.{KnownGroup}
use Rattle.kept_tree.specs.Known.{IsKnownOf}
use Rattle.kept_tree.proofs.tree.nothing.Goals as goal

pub loop-preserved : goal.loop-preserved
loop-preserved c =
    let before = c.loop.known.items in
    let one = c.new.result in
    record {
      count = omega (arith, ap (λ (list : List KnownGroup). length list) c.in_ok-push.ensures.items, length_push before one, c.loop.invariant.count);
      each = λ value_of limits_of.
          let are = IsKnownOf value_of limits_of in
          subst (λ (list : List KnownGroup). All are list) (sym c.in_ok-push.ensures.items)
          (All-append are before (one ∷ []) (c.loop.invariant.each value_of limits_of) (All-cons are one [] (c.new.ensures value_of limits_of) (All-nil are)));
    }
