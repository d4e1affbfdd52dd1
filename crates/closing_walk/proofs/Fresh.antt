-- Before any value was asked for, each group has nothing at share 0.
use Rattle.std.proofs.Common.{◌≡◌, ℕ, List, length, sym, ◌∙◌, ap, subst}
use Rattle.std.proofs.lemmas.List.{length-replicate, get_or-replicate}
use Rattle.bwe_specs.specs.Filling.{Wan}
use Rattle.mpfa_fill.specs.declared.growth.ValueAt.{ValueAt}
use Rattle.link_front.specs.Front.{AreKnown}
use Rattle.closing_walk.specs.declared.known.KnownValues.{KnownValues}
use Rattle.closing_walk.specs.Known.{AreKnownTwice, IsFresh, nothing}

fresh-known : (wan : Wan) → ((group : ℕ) → wan.value group 0 ≡ 0) → (known : List ValueAt) → known ≡ nothing (length wan.groups) → AreKnown wan known
fresh-known wan starts known is = subst (AreKnown wan) (sym is) (record {
  each_group = length-replicate {A = ValueAt} (length wan.groups) first;
  each = λ group lt.
      subst (λ (known : ValueAt). known.value ≡ wan.value group known.share) (sym (get_or-replicate {A = ValueAt} (length wan.groups) group first first lt)) (sym (starts group));
}) where
  first : ValueAt
  first = record { share = 0; value = 0 }

pub fresh-twice : (wan : Wan) → ((group : ℕ) → wan.value group 0 ≡ 0) → (groups : ℕ) → groups ≡ length wan.groups → (known : KnownValues) → IsFresh groups known → AreKnownTwice wan known
fresh-twice wan starts groups count known fresh = record {
  even = fresh-known wan starts known.even.items (fresh.even ∙ ap nothing count);
  odd = fresh-known wan starts known.odd.items (fresh.odd ∙ ap nothing count);
}
