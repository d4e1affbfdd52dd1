use Rattle.std.proofs.Common.{◌≡◌, ℕ, ◌<◌, ◌+◌, ◌&&◌, Bool, true, false, arith, ap, refl, sym, ◌∙◌, subst, List, get_or, take, length, None}
use Rattle.std.proofs.lemmas.List.{take_more}
use Rattle.std.proofs.lemmas.List.Sums.{sum_by_push}
use Rattle.bwe_specs.specs.declared.network.Closing.{Closing}
use Rattle.bwe_specs.specs.Filling.{Wan, closed_links}
use Rattle.bwe_specs.specs.Paths.{path_group_at, load_on, link_load}
use Rattle.bwe_specs.specs.RightClosings.{amounts_at}
use Rattle.bwe_specs.proofs.Loads.{current-open}
use Rattle.path_groups.proofs.Parts.{IsPartOn-load}
use Rattle.link_sums.proofs.Totals.{link_load-le}
use Rattle.mpfa_fill.specs.declared.growth.Term.{Term}
use Rattle.mpfa_fill.specs.Growth.{wan_in, closings_in, added_in, IsTermOf, terms_load}
use Rattle.mpfa_fill.proofs.Small.{held-small}
use Rattle.mpfa_fill.proofs.Told.{told-itself, told-more, told-load}
use Rattle.mpfa_fill.proofs.growth.Growth.load_by.Goals as goal

both-left : (a b : Bool) → a && b ≡ true → a ≡ true
both-left true b both = refl
both-left false b both = both

both-right : (a b : Bool) → a && b ≡ true → b ≡ true
both-right true b both = both
both-right false b both = absurd (cc)

abbrev no_term : Term
no_term = record { group = 0; place = 0; amount = 0; value = 0; part = record { link = 0; weight = 0; whole = 0 }; held = 0; known = None }

-- one more term is added
more : (wan : Wan) (link i : ℕ) (amounts : ℕ → ℕ → ℕ) (terms : List Term) (d : Term) → i < length terms
    → terms_load wan link amounts (take (i + 1) terms)
    ≡ terms_load wan link amounts (take i terms) + load_on (path_group_at wan.groups (get_or terms i d).group (get_or terms i d).place) link (amounts (get_or terms i d).group (get_or terms i d).place)
more wan link i amounts terms d lt =
    ap (terms_load wan link amounts) (take_more terms i d lt)
    ∙ sum_by_push (λ term. load_on (path_group_at wan.groups term.group term.place) link (amounts term.group term.place)) (take i terms) (get_or terms i d)

pub loop-term-init : goal.loop-term-init
loop-term-init g c =
    let m = c.requires.growth in
    let wan : Wan = wan_in g.V.GroupValues.meaning c.args.self.now in
    let closings : List Closing = closings_in c.args.self.now in
    record {
      told = told-itself c.args.asked (link_load wan.groups (added_in c.args.self.now) c.args.link + terms_load wan c.args.link (amounts_at wan closings c.args.share) (take 0 c.args.terms.now)) c.load-load.result (omega (arith, c.load-load.ensures, m.summed.loads c.args.link (omega (arith, m.links, c.requires.link))));
      exact = λ _. omega (arith, c.load-load.ensures, m.summed.loads c.args.link (omega (arith, m.links, c.requires.link)));
      held = refl;
      load_small = omega (
        arith,
        c.load-load.ensures,
        m.summed.loads c.args.link (omega (arith, m.links, c.requires.link)),
        link_load-le c.args.self.now.plan.now m.summed.plan c.args.self.now.sums.amounts c.args.link,
        m.summed.total,
      );
      held_small = omega arith;
    }

pub load-requires-clause-part : goal.load-requires-clause-part
load-requires-clause-part g c =
    let is : IsTermOf _ _ _ _ _ _ = c.requires.terms.each c.loop-term.term-index no_term c.loop-term-test.true in
    is.part.sound

pub amount_by-then-requires-clause-term : goal.amount_by-then-requires-clause-term
amount_by-then-requires-clause-term g c =
    let wan : Wan = wan_in g.V.GroupValues.meaning c.args.self.now in
    let closings : List Closing = closings_in c.args.self.now in
    let term : Term = get_or c.args.terms.now c.loop-term.term-index no_term in
    let is : IsTermOf wan closings (added_in c.args.self.now) c.args.link term.group term = c.requires.terms.each c.loop-term.term-index no_term c.loop-term-test.true in
    subst (λ link. IsTermOf wan closings (added_in c.args.self.now) link term.group term) (sym is.part.on) is

pub loop-term-preserved : goal.loop-term-preserved
loop-term-preserved g c =
    let wan : Wan = wan_in g.V.GroupValues.meaning c.args.self.now in
    let closings : List Closing = closings_in c.args.self.now in
    let d : Term = no_term in
    let i = c.loop-term.term-index in
    let term : Term = get_or c.args.terms.now c.loop-term.term-index d in
    let is : IsTermOf wan closings (added_in c.args.self.now) c.args.link term.group term = c.requires.terms.each i d c.loop-term-test.true in
    let load : ℕ → ℕ = load_on (path_group_at wan.groups term.group term.place) c.args.link in
    let sums = c.args.self.now.sums in
    let inside = (current-open _ (closed_links closings) term.place is.grows).0 in
    let held_le = held-small c.args.self.now.plan.now sums c.requires.growth.summed c.args.link term.group term.place is.in_range inside in
    let load_is : c.load.result ≡ load c.amount_by-then.result.0 = c.load.ensures.load ∙ IsPartOn-load (path_group_at wan.groups term.group term.place) c.args.link c.amount_by-then.result.0 term.part is.part in
    record {
      told = told-more c.args.asked (link_load wan.groups (added_in c.args.self.now) c.args.link)
          (terms_load wan c.args.link (amounts_at wan closings c.args.share) (take i c.args.terms.now))
          (terms_load wan c.args.link (amounts_at wan closings c.args.share) (take (i + 1) c.args.terms.now))
          (load (amounts_at wan closings c.args.share term.group term.place)) c.loop-term.load (load c.amount_by-then.result.0) c.load.result
          (more wan c.args.link i (amounts_at wan closings c.args.share) c.args.terms.now d c.loop-term-test.true) c.loop-term.invariant.told
          (told-load c.args.asked (path_group_at wan.groups term.group term.place) c.args.link (amounts_at wan closings c.args.share term.group term.place) c.amount_by-then.result.0 c.amount_by-then.ensures.told)
          load_is;
      exact = λ both. omega (arith, c.loop-term.invariant.exact (both-left c.loop-term.is_exact c.amount_by-then.result.1 both), load_is, ap load (c.amount_by-then.ensures.exact (both-right c.loop-term.is_exact c.amount_by-then.result.1 both)), more wan c.args.link i (amounts_at wan closings c.args.share) c.args.terms.now d c.loop-term-test.true);
      held = omega (arith, c.loop-term.invariant.held, is.held, ap load is.amount, more wan c.args.link i (added_in c.args.self.now) c.args.terms.now d c.loop-term-test.true);
      load_small = omega (arith, c.loop-term.invariant.load_small, c.load.ensures.at_most, c.amount_by-then.ensures.small);
      held_small = omega (arith, c.loop-term.invariant.held_small, is.held, ap load is.amount, held_le);
    }
