use Rattle.std.proofs.Common.{◌≡◌, List, ℕ, inl, refl, subst, sym}
use Rattle.live_run.specs.Endings.{IsDue, cut_short, long_front, no_document, no_front}
use Rattle.live_run.proofs.Ends.{refused-here}
use Rattle.live_run.proofs.Steps.{IsOver-gives}
use Rattle.live_run.proofs.served.refuse_open.Goals as goal

pub returns-then-says_long : goal.returns-then-says_long
returns-then-says_long g c = λ follow.
    let bytes : List ℕ = c.args.bytes.now in
    let line : List ℕ = c.as_bytes.result.now in
    let none = c.requires.open.0 in
    let long = c.says_long.ensures.yes c.if-says_long.true in
    refused-here follow _ _ _ _ bytes line 8 c.refuse.result c.refuse.ensures.given c.refuse.ensures.partly
    (subst (λ (l : List ℕ). IsDue follow 0 bytes l) (sym c.as_bytes.ensures.value) (long_front long none))
    (λ gives. cut_short refl none long c.requires.open.1 (IsOver-gives _ _ line gives c.requires.end) c.as_bytes.ensures.value)

pub returns-else-says_long : goal.returns-else-says_long
returns-else-says_long g c = λ follow.
    let bytes : List ℕ = c.args.bytes.now in
    let line : List ℕ = c.as_bytes-else-says_long.result.now in
    let none = c.requires.open.0 in
    refused-here follow _ _ _ _ bytes line 3 c.refuse-else-says_long.result c.refuse-else-says_long.ensures.given c.refuse-else-says_long.ensures.partly
    (subst (λ (l : List ℕ). IsDue follow 0 bytes l) (sym c.as_bytes-else-says_long.ensures.value) (no_front none))
    (λ gives. no_document refl none (c.says_long.ensures.no c.if-says_long.false) (inl (IsOver-gives _ _ line gives c.requires.end)) c.as_bytes-else-says_long.ensures.value)
