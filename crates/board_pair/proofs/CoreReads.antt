-- A reader's steps are events of Core run.
use Rattle.std.proofs.Common.{◌≡◌, ℕ, ◌+◌, ◌-◌, ◌^◌, ◌<◌, ◌≤◌, List, length, get_or, take, Ok, Err, Result, sym, ◌∙◌, ap, subst, arith}
use Rattle.std.specs.Prelude.{max, min, OnOk}
use Rattle.std.proofs.lemmas.List.{set-set}
use Rattle.std.proofs.lemmas.List.Elements.{All-get_or}
use Rattle.bwe_specs.specs.declared.report.Report.{Report}
use Rattle.board_core.specs.declared.event.CoreAnswer.TheVariants.{Told, Seen}
use Rattle.board_core.specs.CoreRun.{State, told_floor}
use Rattle.board_log.proofs.Prefixes.{prefix_takes}
use Rattle.board_pair.specs.Reading.{Reading}
use Rattle.board_pair.specs.CoreReads.{IsTotal, HasReader, at_floor, IsReadEvent, IsTellEvent, HasReadPosted, WasToldBefore, IsToldAndReads}

-- a floor is at most what is posted
floor_within : (reader floor : ℕ) (seen : List Report) (state : State) → HasReader reader floor seen state → floor ≤ state.posted
floor_within reader floor seen state has =
    let within : get_or state.floors reader 0 ≤ state.posted = All-get_or (λ floor. floor ≤ state.posted) state.floors reader 0 has.in_range has.order.floors in
    omega (arith, has.floor_so)

-- a table that covers just what is posted is what the event Read shows
pub read_is : {T : Type 0} (covers total_of : T → ℕ) (belongs : List Report → T → Type 0) (total : List Report → ℕ) (reader floor : ℕ) (seen : List Report) (table : T) (state : State)
    → IsTotal belongs total_of total → HasReader reader floor seen state → covers table ≡ max floor state.posted → covers table ≤ length seen → belongs (take (covers table) seen) table
    → IsReadEvent covers total_of total reader table state (at_floor state reader (covers table))
read_is covers total_of belongs total reader floor seen table state totals has covered within belongs_so =
    let low : floor ≤ state.posted = floor_within reader floor seen state has in
    let posted : state.posted ≡ covers table = omega (arith, covered) in
    let first : take state.posted state.log ≡ take (covers table) seen = ap (λ (n : ℕ). take n state.log) posted ∙ prefix_takes (covers table) seen state.log has.begins within in
    let shown : total (take state.posted state.log) ≡ total_of table = ap total first ∙ sym (totals (take (covers table) seen) table belongs_so) in
    (λ i. Ok (Seen (posted i) (shown i)), λ i. at_floor state reader (sym posted i))

-- who covers so much already keeps the floor
pub told_before : (total : List Report → ℕ) (reader floor prefix : ℕ) (seen : List Report) (state : State) → HasReader reader floor seen state → prefix ≤ floor
    → IsTellEvent total reader prefix floor state
told_before total reader floor prefix seen state has enough =
    let is : told_floor state reader prefix ≡ floor = omega (arith, has.floor_so) in
    (λ i. Ok (Told (is i)), λ i. at_floor state reader (sym is i))

-- who covers less is told the prefix, and then reads what is posted
pub told_and_reads : {T : Type 0} (covers total_of : T → ℕ) (belongs : List Report → T → Type 0) (total : List Report → ℕ) (reader floor prefix : ℕ) (seen : List Report) (table : T) (state : State)
    → IsTotal belongs total_of total → HasReader reader floor seen state → floor < prefix → prefix ≤ covers table → covers table ≡ state.posted → covers table ≤ length seen
    → belongs (take (covers table) seen) table
    → IsTellEvent total reader prefix prefix state × IsReadEvent covers total_of total reader table (at_floor state reader prefix) (at_floor state reader (covers table))
told_and_reads covers total_of belongs total reader floor prefix seen table state totals has behind enough covered within belongs_so =
    let low : floor ≤ state.posted = floor_within reader floor seen state has in
    let is : told_floor state reader prefix ≡ prefix = omega (arith, has.floor_so) in
    let top : covers table ≡ max floor state.posted = omega (arith, covered) in
    let read = read_is covers total_of belongs total reader floor seen table state totals has top within belongs_so in
    let again : at_floor state reader (covers table) ≡ at_floor (at_floor state reader prefix) reader state.posted =
    (λ i. at_floor state reader (covered i)) ∙ ap (λ (floors : List ℕ). record state { floors = floors }) (sym (set-set state.floors reader prefix state.posted)) in
    ((λ i. Ok (Told (is i)), λ i. at_floor state reader (sym is i)), (read.0, again))

-- a read that has come to the greater of its floor and what was published
pub has_read : {T : Type 0} (covers total_of : T → ℕ) (belongs : List Report → T → Type 0) (old new : Reading T) → new.fresh ≡ min (old.fresh + 1) (2 ^ 64 - 1) → new.visits.count ≡ old.visits.count + 1
    → covers new.table ≡ max (covers old.table) new.visits.covers → covers new.table ≤ length new.log → belongs (take (covers new.table) new.log) new.table → HasReadPosted covers total_of belongs old new
has_read covers total_of belongs old new counted entered covered within belongs_so = record {
  counted = counted;
  entered = entered;
  covered = covered;
  run = λ total reader state totals has posted.
      read_is covers total_of belongs total reader (covers old.table) new.log new.table state totals has (omega (arith, covered, posted)) within belongs_so;
}

-- a pass that covered the acknowledgement and stayed as it was
pub was_told : {T : Type 0} (covers : T → ℕ) (prefix : ℕ) (old new : Reading T) → new.visits ≡ old.visits → new.log ≡ old.log → new.table ≡ old.table → prefix ≤ covers old.table → WasToldBefore covers prefix old new
was_told covers prefix old new visits logs tables enough = record {
  visits = visits;
  log = logs;
  table = tables;
  run = λ total reader state has.
      subst (λ (floor : ℕ). IsTellEvent total reader prefix floor state) (ap covers (sym tables)) (told_before total reader (covers old.table) prefix new.log state has enough);
}

-- a pass that did not, and has come to what was published
pub has_told : {T : Type 0} (covers total_of : T → ℕ) (belongs : List Report → T → Type 0) (prefix : ℕ) (old new : Reading T) → new.visits.count ≡ old.visits.count + 1 → covers new.table ≡ new.visits.covers
    → covers old.table < prefix → prefix ≤ covers new.table → covers new.table ≤ length new.log → belongs (take (covers new.table) new.log) new.table → IsToldAndReads covers total_of belongs prefix old new
has_told covers total_of belongs prefix old new entered covered behind enough within belongs_so = record {
  entered = entered;
  covered = covered;
  run = λ total reader state totals has posted.
      told_and_reads covers total_of belongs total reader (covers old.table) prefix new.log new.table state totals has behind enough (covered ∙ sym posted) within belongs_so;
}

-- that the pass counts what it was told changes nothing of this
pub told_counted : {T : Type 0} (covers total_of : T → ℕ) (belongs : List Report → T → Type 0) (prefix learnt : ℕ) (old middle new : Reading T) → IsToldAndReads covers total_of belongs prefix old middle
    → new ≡ record middle { learnt = learnt } → IsToldAndReads covers total_of belongs prefix old new
told_counted covers total_of belongs prefix learnt old middle new told is =
    subst (IsToldAndReads covers total_of belongs prefix old) (sym is) (record { entered = told.entered; covered = told.covered; run = told.run })

-- the same, of an answer
pub told_of : {T A E : Type 0} (result : Result A E) (covers total_of : T → ℕ) (belongs : List Report → T → Type 0) (prefix : ℕ) (old new : Reading T) → OnOk result (new.visits.count ≡ old.visits.count + 1)
    → OnOk result (covers new.table ≡ new.visits.covers) → covers old.table < prefix → OnOk result (prefix ≤ covers new.table) → covers new.table ≤ length new.log
    → belongs (take (covers new.table) new.log) new.table → OnOk result (IsToldAndReads covers total_of belongs prefix old new)
told_of (Ok answer) covers total_of belongs prefix old new entered covered behind enough within belongs_so = has_told covers total_of belongs prefix old new entered covered behind enough within belongs_so
told_of (Err error) covers total_of belongs prefix old new entered covered behind enough within belongs_so = tt
