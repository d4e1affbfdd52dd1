-- A table that was posted and covers as many reports as the posted one is the posted one.
use Rattle.std.proofs.Common.{◌≡◌, ℕ, ◌≤◌, inl, inr, List, [], ◌∷◌, Option, Some, None, slice_index_or, option_map, refl, sym, ◌∙◌, ap, subst, arith, le_refl, le_trans}
use Rattle.std.specs.Option.{IfSome}
use Rattle.enforcer_core.specs.declared.event.WorldEvent.{WorldEvent}
use Rattle.enforcer_core.specs.declared.event.WorldEvent.TheVariants as event
use Rattle.enforcer_core.specs.World.{Limits, World, first_world, world_after, limits_in, region_at, IsMeant}
use Rattle.enforcer_core.specs.Laws.{AreMeant, AreOfPosted, Posts, WasPosted, run}
use Rattle.enforcer_core.proofs.Runs.{law}
use Rattle.enforcer_core.specs.Settled.{EnforcementSettles}

module _ {F T : Type 0} (frame : T → F) (covers : T → ℕ) (limit_at : T → ℕ → ℕ) where
  -- the later table covers no fewer reports, and is the same where it covers as many
  record IsBefore (table later : T) : Type 0 where
    pub rising : covers table ≤ covers later
    pub same : covers table ≡ covers later → table ≡ later

  before-itself : (table : T) → IsBefore table table
  before-itself table = record { rising = le_refl (covers table); same = λ e. refl }

  before-further : (table middle later : T) → IsBefore table middle → IsBefore middle later → IsBefore table later
  before-further table middle later first second = record {
    rising = le_trans first.rising second.rising;
    same = λ e. first.same (omega (arith, e, first.rising, second.rising)) ∙ second.same (omega (arith, e, first.rising, second.rising));
  }

  -- what an event posts comes after what was posted
  before-next : (world : World T) (event : WorldEvent T) → IsMeant frame covers world event → IsBefore world.posted (world_after covers limit_at world event).posted
  before-next world (event.Post table) meant = record { rising = meant.rising; same = λ e. sym (meant.same (sym e)) }
  before-next world (event.Send region) meant = before-itself world.posted
  before-next world (event.Deliver message) meant = before-itself world.posted
  before-next world (event.Reply message) meant = before-itself world.posted
  before-next world (event.Restart region) meant = before-itself world.posted

  before-end : (world : World T) (events : List (WorldEvent T)) → AreMeant frame covers limit_at world events → IsBefore world.posted (run covers limit_at world events).posted
  before-end world [] meant = before-itself world.posted
  before-end world (event ∷ events) meant =
      before-further world.posted (world_after covers limit_at world event).posted (run covers limit_at (world_after covers limit_at world event) events).posted
      (before-next world event meant.0) (before-end (world_after covers limit_at world event) events meant.1)

  posts-it : (world : World T) (event : WorldEvent T) (table : T) → Posts event table → table ≡ (world_after covers limit_at world event).posted
  posts-it world (event.Post posted) table posts = sym posts
  posts-it world (event.Send region) table posts = absurd posts
  posts-it world (event.Deliver message) table posts = absurd posts
  posts-it world (event.Reply message) table posts = absurd posts
  posts-it world (event.Restart region) table posts = absurd posts

  -- each table that was posted comes before the one that is posted at the end
  was-before : (world : World T) (events : List (WorldEvent T)) → AreMeant frame covers limit_at world events → (first : T) → IsBefore first world.posted
      → (table : T) → WasPosted first events table → IsBefore table (run covers limit_at world events).posted
  was-before world [] meant first under table was = subst (λ t. IsBefore t world.posted) was under
  was-before world (event ∷ events) meant first under table (inl posts) =
      subst (λ t. IsBefore t (run covers limit_at (world_after covers limit_at world event) events).posted) (sym (posts-it world event table posts))
      (before-end (world_after covers limit_at world event) events meant.1)
  was-before world (event ∷ events) meant first under table (inr was) =
      was-before (world_after covers limit_at world event) events meant.1 first
      (before-further first world.posted (world_after covers limit_at world event).posted under (before-next world event meant.0)) table was

  -- limits of a table that was posted, under the posted prefix, are those of the posted table
  in-force : (tasks : List ℕ) (first : T) (events : List (WorldEvent T)) (end : T) → ((table : T) → WasPosted first events table → IsBefore table end)
      → (limits : Option Limits) → IfSome limits (AreOfPosted covers limit_at first events tasks) → option_map (λ limits. limits.prefix) limits ≡ Some (covers end)
      → limits ≡ Some (limits_in covers limit_at end tasks)
  in-force tasks first events end before None are taken = absurd (cc)
  in-force tasks first events end before (Some limits) are taken =
      let table : T = are.0 in
      let prefix : limits.prefix ≡ covers end = cc in
      let same : table ≡ end = (before table are.1).same (sym (ap (λ (limits : Limits). limits.prefix) are.2) ∙ prefix) in
      ap Some (are.2 ∙ ap (λ table. limits_in covers limit_at table tasks) same)

  pub settles : EnforcementSettles frame covers limit_at
  settles tasks first events meant taken region lt =
      let start : World T = first_world tasks first in
      let end : World T = run covers limit_at start events in
      in-force (slice_index_or tasks region []) first events end.posted
      (λ table was. was-before start events meant first (before-itself first) table was)
      (region_at end region).in_force ((law frame covers limit_at tasks first events [] meant tt).in_force region lt) (taken region lt)
