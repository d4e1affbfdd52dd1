use Rattle.std.proofs.Common.{◌≡◌, ℕ, ◌+◌, List, ◌++◌, ◌∷◌, [], sym, ◌∙◌, ap, subst, arith, All, slice_index}
use Rattle.std.proofs.lemmas.List.Elements.{All-push}
use Rattle.bwe_specs.specs.declared.network.Closing.{Closing}
use Rattle.bwe_specs.specs.Filling.{Wan}
use Rattle.mpfa_fill.specs.declared.growth.Term.{Term}
use Rattle.link_front.specs.ByLink.{AreGroupsOn}
use Rattle.mpfa_fill.specs.Growth.{IsTermOf}
use Rattle.link_front.specs.Front.{wan_in, closings_in, added_in}
use Rattle.mpfa_fill.proofs.Terms.{Follows, follows-start, follows-none, follows-some, follows-end}
use Rattle.link_front.proofs.Walks.{reached, walk-start, walk-here, walk-next, walk-end}
use Rattle.link_front.proofs.front.Front.terms_on.Goals as goal
use Rattle.link_front.proofs.front.Front.terms_on.Goals.{in-Some+in_ok-push, in_default}

pub loop-at-init : goal.loop-at-init
loop-at-init g c =
    let wan : Wan = wan_in g.V.GroupValues.meaning c.args.self.now in
    let closings : List Closing = closings_in c.args.self.now in
    let added : ℕ → ℕ → ℕ = added_in c.args.self.now in
    let items : List ℕ = c.uses_on.result.0.now in
    let are : AreGroupsOn wan.groups c.args.link items = subst (λ groups. AreGroupsOn groups c.args.link items) c.requires.front.listed c.uses_on.ensures.groups in
    subst (λ (terms : List Term). record { each : All (λ term. IsTermOf wan closings added c.args.link term.group term) terms; follows : Follows wan closings added c.args.link (reached items wan.groups 0) terms }) (sym c.new-terms.ensures.items)
    (record {
      each = λ k d lt. absurd (omega arith);
      follows = walk-start wan.groups c.args.link items are (λ count. Follows wan closings added c.args.link count []) (follows-start wan closings added c.args.link c.requires.front.growth.elsewhere)
          (λ group lt unused follows. follows-none wan closings added c.args.link c.requires.front.growth.elsewhere group [] (λ place current. unused place) follows);
    })

pub term_of_use-requires-clause-group : goal.term_of_use-requires-clause-group
term_of_use-requires-clause-group g c =
    let items : List ℕ = c.uses_on.result.0.now in
    let are : AreGroupsOn (wan_in g.V.GroupValues.meaning c.args.self.now).groups c.args.link items = subst (λ groups. AreGroupsOn groups c.args.link items) c.requires.front.listed c.uses_on.ensures.groups in
    are.ascending.below c.loop-at.at c.loop-at-test.true

pub loop-at-preserved : goal.loop-at-preserved
loop-at-preserved g c =
    let wan : Wan = wan_in g.V.GroupValues.meaning c.args.self.now in
    let closings : List Closing = closings_in c.args.self.now in
    let added : ℕ → ℕ → ℕ = added_in c.args.self.now in
    let items : List ℕ = c.uses_on.result.0.now in
    let at : ℕ = c.loop-at.at in
    let group : ℕ = slice_index items at in
    let are : AreGroupsOn wan.groups c.args.link items = subst (λ groups. AreGroupsOn groups c.args.link items) c.requires.front.listed c.uses_on.ensures.groups in
    let i = c.loop-at.invariant in
    let here : Follows wan closings added c.args.link group c.loop-at.terms.items =
    walk-here wan.groups c.args.link items are (λ count. Follows wan closings added c.args.link count c.loop-at.terms.items) at c.loop-at-test.true i.follows in
    elim c.match-term_of_use.branch [
      | in-Some+in_ok-push w ↦
          let items_now : c.match-term_of_use.terms.items ≡ c.loop-at.terms.items ++ w.in-Some.term ∷ [] = ap (λ terms. terms.items) w.terms-is ∙ w.in_ok-push.ensures.items in
          let is : IsTermOf wan closings added c.args.link group w.in-Some.term = w.in-Some.ensures in
          subst (λ (terms : List Term). record { each : All (λ term. IsTermOf wan closings added c.args.link term.group term) terms; follows : Follows wan closings added c.args.link (reached items wan.groups (at + 1)) terms }) (sym items_now)
          (record {
            each = All-push (λ term. IsTermOf wan closings added c.args.link term.group term) c.loop-at.terms.items w.in-Some.term i.each
                (subst (λ group. IsTermOf wan closings added c.args.link group w.in-Some.term) (sym is.group_is) is);
            follows = walk-next wan.groups c.args.link items are (λ count. Follows wan closings added c.args.link count (c.loop-at.terms.items ++ w.in-Some.term ∷ [])) at c.loop-at-test.true
                (follows-some wan closings added c.args.link c.requires.front.growth.elsewhere group c.loop-at.terms.items w.in-Some.term is here)
                (λ group lt unused follows. follows-none wan closings added c.args.link c.requires.front.growth.elsewhere group (c.loop-at.terms.items ++ w.in-Some.term ∷ []) (λ place current. unused place) follows);
          })
      | in_default w ↦
          subst (λ (terms : List Term). record { each : All (λ term. IsTermOf wan closings added c.args.link term.group term) terms; follows : Follows wan closings added c.args.link (reached items wan.groups (at + 1)) terms }) (sym (ap (λ terms. terms.items) w.terms-is))
          (record {
            each = i.each;
            follows = walk-next wan.groups c.args.link items are (λ count. Follows wan closings added c.args.link count c.loop-at.terms.items) at c.loop-at-test.true
                (follows-none wan closings added c.args.link c.requires.front.growth.elsewhere group c.loop-at.terms.items w.in_default.ensures here)
                (λ group lt unused follows. follows-none wan closings added c.args.link c.requires.front.growth.elsewhere group c.loop-at.terms.items (λ place current. unused place) follows);
          })
    ]

pub returns : goal.returns
returns g c =
    let wan : Wan = wan_in g.V.GroupValues.meaning c.args.self.now in
    let closings : List Closing = closings_in c.args.self.now in
    let added : ℕ → ℕ → ℕ = added_in c.args.self.now in
    let items : List ℕ = c.uses_on.result.0.now in
    let are : AreGroupsOn wan.groups c.args.link items = subst (λ groups. AreGroupsOn groups c.args.link items) c.requires.front.listed c.uses_on.ensures.groups in
    record {
      each = c.loop-at.invariant.each;
      load = follows-end wan closings added c.args.link c.requires.front.growth.elsewhere c.loop-at.terms.items
          (walk-end wan.groups c.args.link items are (λ count. Follows wan closings added c.args.link count c.loop-at.terms.items) c.loop-at.at c.loop-at-test.false c.loop-at.invariant.follows);
    }
