use Rattle.std.proofs.Common.{[], ◌∷◌, ◌++◌, arith, ◌∙◌, ap}
use Rattle.bwe_specs.specs.declared.limits.TheConstants.{MAX_AMOUNT}
use Rattle.circular_buffer.specs.Buffer.{Buffer, keep_last}
use Rattle.demand_estimate.specs.Estimate.{greatest, with_headroom}
use Rattle.demand_estimate.specs.Estimator.{Kept}
use Rattle.demand_estimate.proofs.Windows.{kept_below, by_kept}
use Rattle.demand_estimate.proofs.Estimator.sample.Goals as goal

pub with_headroom-requires-clause-amount : goal.with_headroom-requires-clause-amount
with_headroom-requires-clause-amount c =
    let inside = c.self.inside.kept in
    let kept = ap greatest (ap (λ (buffer : Buffer Prim.Native.Nat.ℕ). buffer.items) c.push_back.ensures.items) in
    omega (arith, kept_below MAX_AMOUNT inside.capacity inside.items c.args.amount c.self.invariant.0 c.requires, c.greatest_kept.ensures, kept)

pub returns-clause-estimate : goal.returns-clause-estimate
returns-clause-estimate c = λ samples had.
    let now = c.args.self.now in
    let kept = ap greatest (ap (λ (buffer : Buffer Prim.Native.Nat.ℕ). buffer.items) c.push_back.ensures.items) in
    c.with_headroom.ensures
    ∙ ap (with_headroom c.self.inside.headroom) (c.greatest_kept.ensures ∙ kept)
    ∙ ap (λ (known : Kept). with_headroom known.headroom (greatest (keep_last known.window (known.samples ++ c.args.amount ∷ [])))) c.self.view_is
    ∙ by_kept now.window now.headroom now.samples samples c.args.amount had
