-- Written events are meant for the worlds that they meet, and what was played is a run of them.
use Rattle.std.proofs.Common.{◌≡◌, ℕ, ◌≤◌, List, [], ◌∷◌, ◌++◌, length, take, refl, sym, ◌∙◌, ap, subst, arith, append_assoc}
use Rattle.std.proofs.lemmas.List.{append-nil, length-take-le}
use Rattle.bwe_specs.specs.declared.report.Report.{Report}
use Rattle.enforcer_core.specs.declared.event.WorldEvent.{WorldEvent}
use Rattle.enforcer_core.specs.World.{World, first_world, world_after, IsMeant}
use Rattle.enforcer_core.specs.Laws.{AreMeant, IsLawful, run}
use Rattle.enforcer_core.proofs.Runs.{law}
use Rattle.enforce_run.specs.declared.event.EventLine.{EventLine}
use Rattle.enforce_run.specs.declared.event.EventLine.TheVariants.{Post, Send, Deliver, Reply, Restart}
use Rattle.enforce_run.specs.EventLines.{AreThere}
use Rattle.enforcer_core.specs.Settled.{HasTakenPosted}
use Rattle.enforcer_core.proofs.Settling.{settles}
use Rattle.enforce_run.specs.Playing.{Played, IsIn, event_in, played_from, played_of, played_on, prefix_of}
use Rattle.enforce_run.specs.Lawful.{AreLawful, DoSettle, WrittenEventsAreLawful, events_from, world_of}
use Rattle.enforce_run.specs.Playing as playing
use Rattle.enforce_run.proofs.Owners.{regions_counted}
use Rattle.enforce_run.proofs.Plays.{IsCounted, counted_on, is_in, nothing_counted}

module _ {F T : Type 0} (frame : T → F) (covers : T → ℕ) (limit_at : T → ℕ → ℕ) (table_of : List Report → T) (script : List Report)
    (one_frame : (reports others : List Report) → frame (table_of reports) ≡ frame (table_of others))
    (covers_all : (reports : List Report) → covers (table_of reports) ≡ length reports) where
  -- the posted table is that of the first reports of the script
  record IsOfScript (world : World T) : Type 0 where
    pub within : covers world.posted ≤ length script
    pub table : world.posted ≡ table_of (take (covers world.posted) script)

  -- the world after a line
  abbrev after : World T → EventLine → World T
  after world line = world_after covers limit_at world (event_in covers table_of script world line)

  taken : (upto : ℕ) → upto ≤ length script → covers (table_of (take upto script)) ≡ upto
  taken upto within = covers_all (take upto script) ∙ length-take-le upto script within

  first-of-script : (tasks : List (List ℕ)) → IsOfScript (first_world tasks (table_of []))
  first-of-script tasks = record {
    within = omega (arith, covers_all []);
    table = ap (λ upto. table_of (take upto script)) (sym (covers_all []));
  }

  next-of-script : (world : World T) (line : EventLine) → IsOfScript world → IsOfScript (after world line)
  next-of-script world (Post upto) of =
      let upto' : ℕ = prefix_of (length script) (covers world.posted) upto in
      let is : covers (table_of (take upto' script)) ≡ upto' = taken upto' (omega arith) in
      record { within = omega (arith, is); table = ap (λ upto. table_of (take upto script)) (sym is) }
  next-of-script world (Send region) of = record { within = of.within; table = of.table }
  next-of-script world (Deliver message) of = record { within = of.within; table = of.table }
  next-of-script world (Reply message) of = record { within = of.within; table = of.table }
  next-of-script world (Restart region) of = record { within = of.within; table = of.table }

  meant-next : (world : World T) (line : EventLine) → IsOfScript world → IsIn world line → IsMeant frame covers world (event_in covers table_of script world line)
  meant-next world (Post upto) of there =
      let upto' : ℕ = prefix_of (length script) (covers world.posted) upto in
      let is : covers (table_of (take upto' script)) ≡ upto' = taken upto' (omega arith) in
      record {
        plan = one_frame (take upto' script) (take (covers world.posted) script) ∙ ap frame (sym of.table);
        rising = omega (arith, is, of.within);
        same = λ e. ap (λ upto. table_of (take upto script)) (sym is ∙ e) ∙ sym of.table;
      }
  meant-next world (Send region) of there = there
  meant-next world (Deliver message) of there = there
  meant-next world (Reply message) of there = there
  meant-next world (Restart region) of there = there

  meant-all : (regions : ℕ) (before lines : List EventLine) (world : World T) → IsOfScript world → IsCounted regions before world → AreThere regions before lines
      → AreMeant frame covers limit_at world (events_from covers limit_at table_of script world lines)
  meant-all regions before [] world of counted there = tt
  meant-all regions before (line ∷ lines) world of counted there = (
    meant-next world line of (is_in regions before world line counted there.0),
    meant-all regions (before ++ line ∷ []) lines (after world line) (next-of-script world line of)
        (counted_on covers limit_at table_of script regions before world line counted) there.1,
  )

  -- the lines before, and what follows them, are there
  there-before : (regions : ℕ) (before lines later : List EventLine) → AreThere regions before (lines ++ later) → AreThere regions before lines
  there-before regions before [] later there = tt
  there-before regions before (line ∷ lines) later there = (there.0, there-before regions (before ++ line ∷ []) lines later there.1)

  there-later : (regions : ℕ) (before lines later : List EventLine) → AreThere regions before (lines ++ later) → AreThere regions (before ++ lines) later
  there-later regions before [] later there = subst (λ before. AreThere regions before later) (sym (append-nil before)) there
  there-later regions before (line ∷ lines) later there =
      subst (λ before. AreThere regions before later) (append_assoc before (line ∷ []) lines) (there-later regions (before ++ line ∷ []) lines later there.1)

  -- what holds after the lines
  of-script : (lines : List EventLine) (world : World T) → IsOfScript world → IsOfScript (run covers limit_at world (events_from covers limit_at table_of script world lines))
  of-script [] world of = of
  of-script (line ∷ lines) world of = of-script lines (after world line) (next-of-script world line of)

  counted : (regions : ℕ) (before lines : List EventLine) (world : World T) → IsCounted regions before world
      → IsCounted regions (before ++ lines) (run covers limit_at world (events_from covers limit_at table_of script world lines))
  counted regions before [] world are = subst (λ before. IsCounted regions before world) (sym (append-nil before)) are
  counted regions before (line ∷ lines) world are =
      subst (λ before. IsCounted regions before (run covers limit_at world (events_from covers limit_at table_of script world (line ∷ lines)))) (append_assoc before (line ∷ []) lines)
      (counted regions (before ++ line ∷ []) lines (after world line) (counted_on covers limit_at table_of script regions before world line are))

  -- what was played is a run
  runs : (played : Played T) (lines : List EventLine) → (played_from covers limit_at table_of script played lines).world ≡ run covers limit_at played.world (events_from covers limit_at table_of script played.world lines)
  unfolding played_from
  runs played [] = refl
  runs played (line ∷ lines) = runs (played_on covers limit_at table_of script played line) lines

  runs-on : (world : World T) (before later : List EventLine)
      → run covers limit_at world (events_from covers limit_at table_of script world (before ++ later))
      ≡ run covers limit_at (run covers limit_at world (events_from covers limit_at table_of script world before))
      (events_from covers limit_at table_of script (run covers limit_at world (events_from covers limit_at table_of script world before)) later)
  runs-on world [] later = refl
  runs-on world (line ∷ before) later = runs-on (after world line) before later

  module _ (tasks : List (List ℕ)) where
    abbrev start : World T
    start = first_world tasks (table_of [])

    world-of : (lines : List EventLine) → world_of covers limit_at table_of script tasks lines ≡ run covers limit_at start (events_from covers limit_at table_of script start lines)
    world-of lines = runs (record { answers = []; world = start }) lines

    lawful-run : (before later : List EventLine) → AreThere (length tasks) [] (before ++ later)
        → let events = events_from covers limit_at table_of script start before in
        let moment = run covers limit_at start events in
        let more = events_from covers limit_at table_of script moment later in
        IsLawful frame covers limit_at start events more moment (run covers limit_at moment more)
    lawful-run before later there =
        let events : List (WorldEvent T) = events_from covers limit_at table_of script start before in
        let moment : World T = run covers limit_at start events in
        let more : List (WorldEvent T) = events_from covers limit_at table_of script moment later in
        law frame covers limit_at tasks (table_of []) events more
        (meant-all (length tasks) [] before start (first-of-script tasks) (nothing_counted (length tasks) tasks (table_of []) refl) (there-before (length tasks) [] before later there))
        (meant-all (length tasks) before later moment (of-script before start (first-of-script tasks))
        (counted (length tasks) [] before start (nothing_counted (length tasks) tasks (table_of []) refl)) (there-later (length tasks) [] before later there))

    lawful : (lines : List EventLine) → AreThere (length tasks) [] lines → AreLawful frame covers limit_at table_of script tasks lines
    lawful lines there before later are =
        let whole : world_of covers limit_at table_of script tasks lines
        ≡ run covers limit_at (run covers limit_at start (events_from covers limit_at table_of script start before))
        (events_from covers limit_at table_of script (run covers limit_at start (events_from covers limit_at table_of script start before)) later) =
        world-of lines ∙ ap (λ lines. run covers limit_at start (events_from covers limit_at table_of script start lines)) are ∙ runs-on start before later in
        subst (λ end. IsLawful frame covers limit_at start (events_from covers limit_at table_of script start before)
        (events_from covers limit_at table_of script (world_of covers limit_at table_of script tasks before) later) (world_of covers limit_at table_of script tasks before) end) (sym whole)
        (subst (λ moment. IsLawful frame covers limit_at start (events_from covers limit_at table_of script start before)
        (events_from covers limit_at table_of script moment later) moment
        (run covers limit_at (run covers limit_at start (events_from covers limit_at table_of script start before))
        (events_from covers limit_at table_of script (run covers limit_at start (events_from covers limit_at table_of script start before)) later)))
        (sym (world-of before)) (lawful-run before later (subst (AreThere (length tasks) []) are there)))

    settled : (lines : List EventLine) → AreThere (length tasks) [] lines → DoSettle covers limit_at table_of script tasks lines
    settled lines there have =
        let end : World T = run covers limit_at start (events_from covers limit_at table_of script start lines) in
        let is : world_of covers limit_at table_of script tasks lines ≡ end = world-of lines in
        let of : IsOfScript end = of-script lines start (first-of-script tasks) in
        let meant : AreMeant frame covers limit_at start (events_from covers limit_at table_of script start lines) =
        meant-all (length tasks) [] lines start (first-of-script tasks) (nothing_counted (length tasks) tasks (table_of []) refl) there in
        subst (λ world. Rattle.enforce_run.specs.Lawful.AreOfOneTable covers limit_at table_of script tasks world) (sym is) (record {
          within = of.within;
          posted = of.table;
          in_force = settles frame covers limit_at tasks (table_of []) (events_from covers limit_at table_of script start lines) meant
              (subst (HasTakenPosted covers tasks) is have);
        })

pub written_events_are_lawful : {F T : Type 0} (frame : T → F) (covers : T → ℕ) (limit_at : T → ℕ → ℕ) (table_of : List Report → T)
    → ((reports others : List Report) → frame (table_of reports) ≡ frame (table_of others)) → ((reports : List Report) → covers (table_of reports) ≡ length reports)
    → WrittenEventsAreLawful frame covers limit_at table_of
written_events_are_lawful frame covers limit_at table_of one_frame covers_all script tasks lines there =
    (lawful frame covers limit_at table_of script one_frame covers_all tasks lines there, settled frame covers limit_at table_of script one_frame covers_all tasks lines there)

-- on a region for each reporter, with the tasks that the reporter owns
pub written_on_regions : {F T : Type 0} (frame : T → F) (covers : T → ℕ) (limit_at : T → ℕ → ℕ) (table_of : List Report → T)
    → ((reports others : List Report) → frame (table_of reports) ≡ frame (table_of others)) → ((reports : List Report) → covers (table_of reports) ≡ length reports)
    → (script : List Report) (reporters : ℕ) (owners : List ℕ) (lines : List EventLine) → AreThere reporters [] lines
    → AreLawful frame covers limit_at table_of script (playing.regions_of reporters owners) lines × DoSettle covers limit_at table_of script (playing.regions_of reporters owners) lines
written_on_regions frame covers limit_at table_of one_frame covers_all script reporters owners lines there =
    written_events_are_lawful frame covers limit_at table_of one_frame covers_all script (playing.regions_of reporters owners) lines
    (subst (λ n. AreThere n [] lines) (sym (regions_counted reporters owners (playing.regions_of reporters owners) refl)) there)
