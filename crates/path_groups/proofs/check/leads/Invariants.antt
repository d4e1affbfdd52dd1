use Rattle.std.proofs.Common.{◌≡◌, drop}
use denote.Text.{Utf8}
use denote.Shadow.{shadow}
use Rattle.path_groups.specs.Faults.{leads}
use Rattle.path_groups.proofs.check.leads.Given as goal

abbrev pub invariant-loop-link : goal.invariant-loop-link
invariant-loop-link l = shadow (Utf8 l.site) × (leads l.topology l.from l.to l.links ≡ leads l.topology l.site l.to (drop l.link-index l.links))
