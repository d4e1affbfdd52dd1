use Rattle.std.proofs.Common.{◌≡◌, ℕ, suc, ◌+◌, ◌<◌, ◌≤◌, arith, ap, subst, nat_le, List}
use Rattle.bwe_specs.specs.declared.network.Closing.{Closing}
use Rattle.bwe_specs.specs.Bounded.{greatest_upto}
use Rattle.bwe_specs.specs.Filling.{Wan}
use Rattle.bwe_specs.specs.Paths.{path_group_at}
use Rattle.path_groups.proofs.Parts.{IsPartOn-load}
use Rattle.mpfa_fill.specs.GroupValues.{Values}
use Rattle.mpfa_fill.specs.declared.growth.Term.{Term}
use Rattle.mpfa_fill.specs.Growth.{wan_in, closings_in, added_in, IsTermOf}
use Rattle.growth_queries.proofs.OneGroup.{last-fits, last-next, load-within, load-above}
use Rattle.growth_queries.proofs.fits.last_fit.Goals as goal

-- what the values tell is of those of the growth
told-of : {V : Type 0} (meaning : V → Values) (told values : V) (group last value : ℕ) → told ≡ values
    → last ≡ greatest_upto (meaning told).top (λ share. nat_le ((meaning told).value group share) value)
    → last ≡ greatest_upto (meaning values).top (λ share. nat_le ((meaning values).value group share) value)
told-of meaning told values group last value same is =
    subst (λ values. last ≡ greatest_upto (meaning values).top (λ share. nat_le ((meaning values).value group share) value)) same is

pub returns-clause-fits : goal.returns-clause-fits
returns-clause-fits g c =
    let wan : Wan = wan_in g.V.GroupValues.meaning c.args.growth.now in
    let closings : List Closing = closings_in c.args.growth.now in
    let term : Term = c.args.term in
    let is : IsTermOf wan closings (added_in c.args.growth.now) c.args.link term.group term = c.requires.terms.each 0 term (omega arith) in
    let last = c.in_ok-last.last in
    let most = c.in_ok-most.most in
    let value = c.in_ok-value.value in
    let told = told-of g.V.GroupValues.meaning c.values.result.now c.args.growth.now.values.now term.group last value c.values.ensures c.in_ok-last.ensures in
    let within : wan.value term.group last ≤ value = omega (arith, ap (wan.value term.group) told, last-fits wan.top (wan.value term.group) value (c.requires.growth.known.starts term.group)) in
    let load = load-within wan closings (added_in c.args.growth.now) c.args.link term c.requires.terms is last most value
    (omega (arith, c.requires.last, c.if-last-low.false)) (omega (arith, c.if-high-last.false, c.requires.within))
    (omega (arith, c.in_ok-value.ensures, c.in_ok-checked_add.ensures)) within in
    omega (
      arith,
      load,
      IsPartOn-load (path_group_at wan.groups term.group term.place) c.args.link most term.part is.part,
      c.in_ok-most.ensures.fits,
      c.load.ensures,
      c.capacity.ensures,
      c.in_ok-others.ensures,
      c.in_ok-room.ensures,
    )

pub returns-clause-over : goal.returns-clause-over
returns-clause-over g c =
    let wan : Wan = wan_in g.V.GroupValues.meaning c.args.growth.now in
    let closings : List Closing = closings_in c.args.growth.now in
    let term : Term = c.args.term in
    let is : IsTermOf wan closings (added_in c.args.growth.now) c.args.link term.group term = c.requires.terms.each 0 term (omega arith) in
    let last = c.in_ok-last.last in
    let most = c.in_ok-most.most in
    let value = c.in_ok-value.value in
    let told = told-of g.V.GroupValues.meaning c.values.result.now c.args.growth.now.values.now term.group last value c.values.ensures c.in_ok-last.ensures in
    let below : last < wan.top = omega (arith, c.if-high-last.false, c.requires.within) in
    let above : value < wan.value term.group (suc last) = omega (arith, ap (λ share. wan.value term.group (suc share)) told, last-next wan.top (wan.value term.group) value (omega (arith, told, below))) in
    let load = load-above wan closings (added_in c.args.growth.now) c.args.link term c.requires.terms is (suc last) most value
    (omega (arith, c.requires.last, c.if-last-low.false)) (omega (arith, below))
    (omega (arith, c.in_ok-value.ensures, c.in_ok-checked_add.ensures)) above in
    omega (
      arith,
      load,
      IsPartOn-load (path_group_at wan.groups term.group term.place) c.args.link (most + 1) term.part is.part,
      c.in_ok-most.ensures.over,
      c.load.ensures,
      c.capacity.ensures,
      c.in_ok-others.ensures,
      c.in_ok-room.ensures,
    )
