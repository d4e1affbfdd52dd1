use Rattle.std.proofs.Common.{◌≡◌, ℕ, ◌<◌, false}
use Rattle.mpfa_fill.specs.LastFit.{is_over_at}
use Rattle.mpfa_fill.specs.Moment.{wan_in, state_of}
use Rattle.bottleneck_cert.proofs.by_all.first_over.Given as goal

-- the links so far fit
abbrev pub invariant-loop-link : goal.invariant-loop-link
invariant-loop-link g l = (link : ℕ) → link < l.link → is_over_at (wan_in g.V.GroupValues.meaning l.moment) (state_of l.moment).closings (state_of l.moment).share link ≡ false
