use Rattle.std.proofs.Common.{◌≡◌, ℕ, List, ◌∙◌, sym, ap, subst}
use Rattle.bwe_specs.specs.Paths.{PathGroups}
use Rattle.link_front.specs.declared.by_link.LinkGroups.{LinkGroups}
use Rattle.link_front.specs.ByLink.{listed_of, listed_on, AreGroupsOn, AreUsesOn, IsListed, AreListed}
use Rattle.link_front.proofs.Listing.{listed_on-read, listed_on-past}
use Rattle.link_front.proofs.by_link.GroupsByLink.uses_on.Goals as goal

-- what is listed of a link, as the code sees it
listed : (inside groups : List PathGroups) (held lists : List LinkGroups) (link : ℕ) → inside ≡ groups → lists ≡ held → AreListed inside held → IsListed groups link (listed_on lists link)
listed inside groups held lists link seen is all =
    subst (λ gs. IsListed gs link (listed_on lists link)) seen (subst (AreListed inside) (sym is) all link)

pub returns-in-Some-clause-groups : goal.returns-in-Some-clause-groups
returns-in-Some-clause-groups c =
    let lookup = c.in-Some.ensures.lookup in
    let is : IsListed c.args.self.now c.args.link (listed_of c.in-Some.list.now) =
    subst (IsListed c.args.self.now c.args.link) (listed_on-read c.deref.result.now c.args.link c.in-Some.list.now lookup.3.0 ∙ ap listed_of (sym (lookup.3.1 c.in-Some.list.now)))
    (listed _ _ _ c.deref.result.now c.args.link c.self.view_is c.deref.ensures.value c.self.invariant) in
    subst (AreGroupsOn c.args.self.now c.args.link) (sym c.deref-in-Some.ensures.value) is.groups_on

pub returns-in-Some-clause-uses : goal.returns-in-Some-clause-uses
returns-in-Some-clause-uses c =
    let lookup = c.in-Some.ensures.lookup in
    let is : IsListed c.args.self.now c.args.link (listed_of c.in-Some.list.now) =
    subst (IsListed c.args.self.now c.args.link) (listed_on-read c.deref.result.now c.args.link c.in-Some.list.now lookup.3.0 ∙ ap listed_of (sym (lookup.3.1 c.in-Some.list.now)))
    (listed _ _ _ c.deref.result.now c.args.link c.self.view_is c.deref.ensures.value c.self.invariant) in
    subst (AreUsesOn c.args.self.now c.args.link c.deref-in-Some.result.now) (sym c.deref-in-Some-2.ensures.value)
    (subst (λ list. AreUsesOn c.args.self.now c.args.link list c.in-Some.list.now.uses.items) (sym c.deref-in-Some.ensures.value) is.uses_on)

pub returns-in-None-clause-groups : goal.returns-in-None-clause-groups
returns-in-None-clause-groups c =
    let is : IsListed c.args.self.now c.args.link _ =
    subst (IsListed c.args.self.now c.args.link) (listed_on-past c.deref.result.now c.args.link c.in-None.ensures.lookup.3)
    (listed _ _ _ c.deref.result.now c.args.link c.self.view_is c.deref.ensures.value c.self.invariant) in
    is.groups_on
