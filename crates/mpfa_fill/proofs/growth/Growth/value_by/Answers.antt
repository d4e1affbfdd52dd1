use Rattle.std.proofs.Common.{◌≡◌, ◌≤◌, arith, le_refl, ap, subst, sym}
use Rattle.bwe_specs.specs.Filling.{Wan}
use Rattle.bwe_specs.proofs.Growth.{value-mono}
use Rattle.mpfa_fill.proofs.MomentLemmas.{never_falls}
use Rattle.mpfa_fill.proofs.Told.{told-min}
use Rattle.mpfa_fill.specs.Growth.{wan_in, IsKnown}
use Rattle.mpfa_fill.specs.Told.{IsTold}
use Rattle.mpfa_fill.proofs.growth.Growth.value_by.Goals as goal

pub returns-in_default-clause-most : goal.returns-in_default-clause-most
returns-in_default-clause-most g c =
    let wan : Wan = wan_in g.V.GroupValues.meaning c.args.self.now in
    omega (arith, c.value.ensures, value-mono wan (never_falls _ _ _ c.requires.growth.known) c.args.term.group c.args.share wan.top c.requires.within (le_refl wan.top))

pub returns-then-known-share-clause-most : goal.returns-then-known-share-clause-most
returns-then-known-share-clause-most g c =
    let wan : Wan = wan_in g.V.GroupValues.meaning c.args.self.now in
    let known : c.in-Some.known.value ≡ wan.value c.args.term.group c.in-Some.known.share = subst (IsKnown wan c.args.term.group) c.in-Some.is c.requires.known in
    omega (arith, known, ap (wan.value c.args.term.group) c.if-known-share.true, value-mono wan (never_falls _ _ _ c.requires.growth.known) c.args.term.group c.args.share wan.top c.requires.within (le_refl wan.top))

pub returns-then-known-top-clause-most : goal.returns-then-known-top-clause-most
returns-then-known-top-clause-most g c =
    let wan : Wan = wan_in g.V.GroupValues.meaning c.args.self.now in
    omega (arith, c.value-then-known-top.ensures, value-mono wan (never_falls _ _ _ c.requires.growth.known) c.args.term.group c.args.share wan.top c.requires.within (le_refl wan.top))

pub returns-in-Some-bound_by-clause-told : goal.returns-in-Some-bound_by-clause-told
returns-in-Some-bound_by-clause-told g c =
    let wan : Wan = wan_in g.V.GroupValues.meaning c.args.self.now in
    let value = wan.value c.args.term.group c.args.share in
    let known : c.in-Some.known.value ≡ wan.value c.args.term.group c.in-Some.known.share = subst (IsKnown wan c.args.term.group) c.in-Some.is c.requires.known in
    let before : c.args.share ≤ c.in-Some.known.share = omega (arith, c.requires.within, c.if-known-top.false, c.top.ensures.top) in
    let within : c.in-Some.known.share ≤ wan.top = omega (arith, c.if-known-top.false, c.top.ensures.top) in
    let mono = value-mono wan (never_falls _ _ _ c.requires.growth.known) c.args.term.group c.args.share c.in-Some.known.share before within in
    subst (IsTold c.args.asked value) (sym c.min.ensures) (told-min c.args.asked value c.in-Some-bound_by.bound c.in-Some.known.value c.in-Some-bound_by.ensures (omega (arith, known, mono)))

pub returns-in-None-clause-most : goal.returns-in-None-clause-most
returns-in-None-clause-most g c =
    let wan : Wan = wan_in g.V.GroupValues.meaning c.args.self.now in
    omega (arith, c.value-in-None.ensures, value-mono wan (never_falls _ _ _ c.requires.growth.known) c.args.term.group c.args.share wan.top c.requires.within (le_refl wan.top))
