use Rattle.std.proofs.Common.{◌≡◌, sym, subst}
use Rattle.last_reports.specs.Snapshot.{snapshot}
use Rattle.live_core.specs.Live.{IsLive, tasks_of, links_of}
use Rattle.live_core.proofs.Standing.{same-state}
use Rattle.live_core.proofs.live.LiveCore.state.Goals as goal

pub returns-clause-same_table : goal.returns-clause-same_table
returns-clause-same_table c = λ accepted written is.
    let inside = subst (λ live. IsLive live accepted written) (sym c.self.view_is) is in
    same-state c.args.self.now accepted written c.in_ok-reports.field-0.items is
    (subst (λ live. c.in_ok-reports.field-0.items ≡ snapshot (tasks_of live) (links_of live) accepted) c.self.view_is
    (c.in_ok-reports.ensures _ _ accepted inside.told))
