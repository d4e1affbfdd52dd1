use Rattle.std.proofs.Common.{◌≡◌, ◌∙◌, ◌+◌, ◌*◌, ◌-◌, ◌/◌, ◌<◌, ◌≤◌, inl, inr, arith}
use Rattle.share_meeting.proofs.Halves.{halves_left}
use Rattle.share_meeting.proofs.meeting.drawn_together.Goals as goal
use Rattle.share_meeting.proofs.meeting.drawn_together.Goals.{then-look-lt-LOOKS_BY_LINE, else-look-lt-LOOKS_BY_LINE}

pub loop-look-preserved : goal.loop-look-preserved
loop-look-preserved g c =
    let v = c.loop-look.invariant in
    let old = c.loop-look.ends in
    let new = c.looked-ends.result in
    let share = c.if-look-lt-LOOKS_BY_LINE.share in
    let after = c.looked-ends.ensures in
    let middle : 28 ≤ c.loop-look.look → share ≡ old.low + (old.high - old.low) / 2 =
    elim c.if-look-lt-LOOKS_BY_LINE.branch [
      | then-look-lt-LOOKS_BY_LINE w ↦ let early = w.if-look-lt-LOOKS_BY_LINE.true in λ late. absurd (omega arith)
      | else-look-lt-LOOKS_BY_LINE w ↦ let found = w.middle-share.ensures in λ late. omega (arith, found, w.share-is)
    ] in
    let order = v.ends.order in
    let between : (old.low < share) × (share < old.high) =
    elim c.if-look-lt-LOOKS_BY_LINE.branch [
      | then-look-lt-LOOKS_BY_LINE w ↦ let found = w.guessed-share.ensures in (omega (arith, found.from, w.share-is), omega (arith, found.upto, w.share-is))
      | else-look-lt-LOOKS_BY_LINE w ↦
          let found = w.middle-share.ensures in
          (omega (arith, found, w.share-is, order, c.if-ends-eq1.false), omega (arith, found, w.share-is, order, c.if-ends-eq1.false))
    ] in
    let closer : (old.low ≤ new.low) × (new.high ≤ old.high) × (28 ≤ c.loop-look.look → 2 * new.high + old.low ≤ 2 * new.low + old.high + 1) =
    elim after.moved [
      | inl moved ↦ (omega (arith, moved.0, between.0), omega (arith, moved.1), λ late. omega (arith, moved.0, moved.1, middle late, order))
      | inr moved ↦ (omega (arith, moved.0), omega (arith, moved.1, between.1), λ late. omega (arith, moved.0, moved.1, middle late, order))
    ] in
    record {
      ends = after.ends;
      top = after.top ∙ v.top;
      from = omega (arith, v.from, closer.0);
      upto = omega (arith, v.upto, closer.1);
      ticks = omega (arith, v.ticks, after.ticks);
      none = λ at. absurd (let near = (v.none at).1 in c.if-ends-eq1.false (omega arith));
      halves = halves_left c.loop-look.look old.low old.high new.low new.high (omega (arith, c.loop-look-test.true)) (omega (arith, after.ends.upto, after.top, v.top, c.requires.high)) v.halves closer.2;
    }
