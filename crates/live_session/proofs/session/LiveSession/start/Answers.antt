use Rattle.std.proofs.Common.{refl, sym, ◌∙◌, ap, subst, length}
use Rattle.allocator.specs.Frames.{task_count}
use Rattle.live_core.specs.Live.{IsLive}
use Rattle.live_session.proofs.Followed.{begins, session_of}
use Rattle.live_session.proofs.session.LiveSession.start.Goals as goal

pub invariant_of-result : goal.invariant_of-result
invariant_of-result c =
    let plan = c.in_ok-core.ensures.plan ∙ c.open-allocator.ensures.plan in
    record {
      tasks = ap (λ known. length known.task_owners) c.in_ok-known.ensures ∙ c.open-allocator.ensures.owners ∙ ap task_count (sym c.in_ok-core.ensures.plan);
      links =
          ap (λ known. length known.link_owners) c.in_ok-known.ensures ∙ ap (λ owners. length owners.items) c.open-allocator.ensures.link_owners ∙ c.requires.link_owners
          ∙ ap (λ plan. length plan.capacities) (sym plan);
    }

pub returns : goal.returns
returns c = λ accepted is.
    begins (session_of c.in_ok-core.core c.in_ok-known.known 0) accepted c.args.document is
    (c.in_ok-core.ensures.plan ∙ c.open-allocator.ensures.plan)
    (rw (c.open-allocator.ensures.names, c.open-allocator.ensures.task_owners, c.open-allocator.ensures.link_owners) at c.in_ok-known.ensures) refl
    (subst (λ script. IsLive c.in_ok-core.core script script) (c.deref.ensures.value ∙ ap (λ script. script.items) c.open-allocator.ensures.script) c.in_ok-core.ensures.live)
