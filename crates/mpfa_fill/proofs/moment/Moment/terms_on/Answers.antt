use Rattle.std.proofs.Common.{◌≡◌, ℕ, ◌+◌, List, ◌++◌, ◌∷◌, [], length, sym, ◌∙◌, ap, subst, arith, All}
use Rattle.std.proofs.lemmas.List.Elements.{All-push}
use Rattle.bwe_specs.specs.declared.network.Closing.{Closing}
use Rattle.bwe_specs.specs.Filling.{Wan}
use Rattle.mpfa_fill.specs.declared.growth.Term.{Term}
use Rattle.mpfa_fill.specs.Growth.{closings_in, added_in, IsTermOf}
use Rattle.mpfa_fill.specs.Moment.{wan_in}
use Rattle.mpfa_fill.proofs.Terms.{Follows, follows-start, follows-none, follows-some, follows-end}
use Rattle.mpfa_fill.proofs.moment.Moment.terms_on.Goals as goal
use Rattle.mpfa_fill.proofs.moment.Moment.terms_on.Goals.{in-Some+in_ok-push, in_default}

pub loop-group-init : goal.loop-group-init
loop-group-init g c =
    let wan : Wan = wan_in g.V.GroupValues.meaning c.args.self.now in
    let closings : List Closing = closings_in c.args.self.now.growth in
    let added : ℕ → ℕ → ℕ = added_in c.args.self.now.growth in
    subst (λ (terms : List Term). record { each : All (λ term. IsTermOf wan closings added c.args.link term.group term) terms; follows : Follows wan closings added c.args.link 0 terms }) (sym c.new-terms.ensures.items)
    (record {
      each = λ k d lt. absurd (omega arith);
      follows = follows-start wan closings added c.args.link c.requires.moment.growth.elsewhere;
    })

pub loop-group-preserved : goal.loop-group-preserved
loop-group-preserved g c =
    let elsewhere = c.requires.moment.growth.elsewhere in
    let wan : Wan = wan_in g.V.GroupValues.meaning c.args.self.now in
    let closings : List Closing = closings_in c.args.self.now.growth in
    let added : ℕ → ℕ → ℕ = added_in c.args.self.now.growth in
    let group = c.loop-group.group in
    let i = c.loop-group.invariant in
    elim c.match-term_of.branch [
      | in-Some+in_ok-push w ↦
          let items : c.match-term_of.terms.items ≡ c.loop-group.terms.items ++ w.in-Some.term ∷ [] = ap (λ terms. terms.items) w.terms-is ∙ w.in_ok-push.ensures.items in
          let is : IsTermOf wan closings added c.args.link group w.in-Some.term = w.in-Some.ensures in
          subst (λ (terms : List Term). record { each : All (λ term. IsTermOf wan closings added c.args.link term.group term) terms; follows : Follows wan closings added c.args.link (group + 1) terms }) (sym items)
          (record {
            each = All-push (λ term. IsTermOf wan closings added c.args.link term.group term) c.loop-group.terms.items w.in-Some.term i.each
                (subst (λ group. IsTermOf wan closings added c.args.link group w.in-Some.term) (sym is.group_is) is);
            follows = follows-some wan closings added c.args.link elsewhere group c.loop-group.terms.items w.in-Some.term is i.follows;
          })
      | in_default w ↦
          subst (λ (terms : List Term). record { each : All (λ term. IsTermOf wan closings added c.args.link term.group term) terms; follows : Follows wan closings added c.args.link (group + 1) terms }) (sym (ap (λ terms. terms.items) w.terms-is))
          (record {
            each = i.each;
            follows = follows-none wan closings added c.args.link elsewhere group c.loop-group.terms.items w.in_default.ensures i.follows;
          })
    ]

pub returns : goal.returns
returns g c =
    let wan : Wan = wan_in g.V.GroupValues.meaning c.args.self.now in
    let closings : List Closing = closings_in c.args.self.now.growth in
    let added : ℕ → ℕ → ℕ = added_in c.args.self.now.growth in
    let end : c.loop-group.group ≡ length wan.groups = omega (arith, c.groups-group-end.ensures, c.loop-group-test.false, c.loop-group.auto.group-end) in
    record {
      each = c.loop-group.invariant.each;
      load = follows-end wan closings added c.args.link c.requires.moment.growth.elsewhere c.loop-group.terms.items
          (subst (λ (count : ℕ). Follows wan closings added c.args.link count c.loop-group.terms.items) end c.loop-group.invariant.follows);
    }
