-- The verdict on a list of closings is Right exactly where they are right.
use Rattle.std.proofs.Common.{◌≡◌, ℕ, suc, ◌≤◌, Bool, true, false, List, [], ◌∷◌, ◌++◌, length, reverse, Option, Some, None, refl, sym, ◌∙◌, ap, arith, subst, ◌↔◌, if◌then◌else◌, nat_eq, nat_lt, nat_le, leb-true, leb-false, ltb-false, le-ltb, append_assoc, append-nil}
use Rattle.std.proofs.lemmas.Bool.{lt-leb}
use mathlib.Core.List.{reverse-reverse, reverse-cons}
use Rattle.std.specs.List.{list_any}
use Rattle.bwe_specs.specs.declared.network.Closing.{Closing}
use Rattle.bwe_specs.specs.declared.network.Cause.{Cause}
use Rattle.bwe_specs.specs.declared.network.Cause.TheVariants.{LowerLink}
use Rattle.bwe_specs.specs.declared.network.Verdict.{Verdict}
use Rattle.bwe_specs.specs.declared.network.Verdict.TheVariants.{Right}
use Rattle.bwe_specs.specs.Paths.{lowest_over, is_over}
use Rattle.bwe_specs.specs.Filling.{Wan, closed_links, filling}
use Rattle.bwe_specs.specs.Values.{NeverFalls}
use Rattle.bwe_specs.proofs.Certificates.{right-closings, filling-right}
use Rattle.bwe_specs.specs.RightClosings.{last_share, amounts_at, over_at, IsRightAfter, AreRight, AreRightToTop, next_cause, share_cause, cause_after, top_verdict, verdict_or, verdict_after, verdict}
use Rattle.bwe_specs.proofs.Bounds.{lowest-some}

-- a chosen cause is none only where the test fails
no_cause : (b : Bool) (cause : Cause) (rest : Option Cause) → (if b then Some cause else rest) ≡ None → (b ≡ false) × (rest ≡ None)
no_cause true cause rest h = absurd (cc)
no_cause false cause rest h = (refl, h)

next_cause-none : (link : ℕ) (named : Bool) (over : Option ℕ) → next_cause link named over ≡ None → (lowest : ℕ) × (over ≡ Some lowest) × (link ≤ lowest) × (named ≡ true)
unfolding next_cause
next_cause-none link named None h = absurd (cc)
next_cause-none link true (Some lowest) h =
    let test = no_cause (nat_lt lowest link) (LowerLink lowest) None h in
    (lowest, refl, ltb-false lowest link test.0, refl)
next_cause-none link false (Some lowest) h = absurd (cc)

share_cause-none : (over : Option ℕ) (next : Option Cause) → share_cause over next ≡ None → (over ≡ None) × (next ≡ None)
unfolding share_cause
share_cause-none (Some link) next h = absurd (cc)
share_cause-none None next h = (refl, h)

-- the lowest link that is over is not above one that is
lowest-over-le : (wan : Wan) (x : ℕ → ℕ → ℕ) (link lowest : ℕ) → lowest_over wan.groups wan.capacities x ≡ Some lowest → is_over wan.groups wan.capacities x link ≡ true → lowest ≤ link
unfolding lowest_over
lowest-over-le wan x link lowest e over = go (nat_le lowest link) refl where
  go : (b : Bool) → nat_le lowest link ≡ b → lowest ≤ link
  go true t = leb-true lowest link t
  go false t =
      let shut : is_over wan.groups wan.capacities x link ≡ false = (lowest-some (length wan.capacities) (is_over wan.groups wan.capacities x) lowest e).none_lower link (leb-false lowest link t) in
      absurd (cc)

pub cause-none : (wan : Wan) (earlier : List Closing) (c : Closing) → cause_after wan earlier c ≡ None → IsRightAfter wan earlier c
unfolding cause_after
cause-none wan earlier c h =
    let a = no_cause (nat_le (length wan.capacities) c.link) _ _ h in
    let b = no_cause (list_any (nat_eq c.link) (closed_links earlier)) _ _ a.1 in
    let d = no_cause (nat_lt c.share (last_share earlier)) _ _ b.1 in
    let e = no_cause (nat_le wan.top c.share) _ _ d.1 in
    let f = share_cause-none (over_at wan earlier c.share) _ e.1 in
    let n = next_cause-none c.link (is_over wan.groups wan.capacities (amounts_at wan earlier (suc c.share)) c.link) (over_at wan earlier (suc c.share)) f.1 in
    let low : n.0 ≤ c.link = lowest-over-le wan (amounts_at wan earlier (suc c.share)) c.link n.0 n.1 n.3 in
    let same : n.0 ≡ c.link = omega (arith, n.2) in
    record {
      link_exists = leb-false (length wan.capacities) c.link a.0;
      not_closed = b.0;
      share_keeps = ltb-false c.share (last_share earlier) d.0;
      below_top = leb-false wan.top c.share e.0;
      fits_at_share = f.0;
      over_at_next = n.1 ∙ ap Some same;
    }

-- and a right closing has no cause
lowest-is_over : (wan : Wan) (x : ℕ → ℕ → ℕ) (link : ℕ) → lowest_over wan.groups wan.capacities x ≡ Some link → is_over wan.groups wan.capacities x link ≡ true
unfolding lowest_over
lowest-is_over wan x link e = (lowest-some (length wan.capacities) (is_over wan.groups wan.capacities x) link e).passes

pub none-cause : (wan : Wan) (earlier : List Closing) (c : Closing) → IsRightAfter wan earlier c → cause_after wan earlier c ≡ None
unfolding cause_after share_cause next_cause
none-cause wan earlier c right =
    let exists : nat_le (length wan.capacities) c.link ≡ false = lt-leb (length wan.capacities) c.link right.link_exists in
    let keeps : nat_lt c.share (last_share earlier) ≡ false = le-ltb c.share (last_share earlier) right.share_keeps in
    let below : nat_le wan.top c.share ≡ false = lt-leb wan.top c.share right.below_top in
    let over : is_over wan.groups wan.capacities (amounts_at wan earlier (suc c.share)) c.link ≡ true = lowest-is_over wan (amounts_at wan earlier (suc c.share)) c.link right.over_at_next in
    let same : nat_lt c.link c.link ≡ false = le-ltb c.link c.link (omega arith) in
    rw (exists, right.not_closed, keeps, below, right.fits_at_share, right.over_at_next, over, same)

top_verdict-right : (over : Option ℕ) (at : ℕ) → top_verdict over at ≡ Right → over ≡ None
unfolding top_verdict
top_verdict-right None at h = refl
top_verdict-right (Some link) at h = absurd (cc)

verdict_or-right : (cause : Option Cause) (at : ℕ) (later : Verdict) → verdict_or cause at later ≡ Right → (cause ≡ None) × (later ≡ Right)
unfolding verdict_or
verdict_or-right None at later h = (refl, h)
verdict_or-right (Some cause) at later h = absurd (cc)

reversed-more : (closing : Closing) (later earlier : List Closing) → reverse (closing ∷ later) ++ earlier ≡ reverse later ++ (closing ∷ earlier)
reversed-more closing later earlier = ap (λ l. l ++ earlier) (reverse-cons closing later) ∙ append_assoc (reverse later) (closing ∷ []) earlier

-- where the verdict is Right, the closings are right to the top
pub verdict-right : (wan : Wan) (earlier later : List Closing) (at : ℕ) → AreRight wan earlier → verdict_after wan earlier later at ≡ Right → AreRightToTop wan (reverse later ++ earlier)
unfolding verdict_after
verdict-right wan earlier [] at right h = (right, top_verdict-right (over_at wan earlier wan.top) at h)
verdict-right wan earlier (closing ∷ later) at right h =
    let both = verdict_or-right (cause_after wan earlier closing) at (verdict_after wan (closing ∷ earlier) later (suc at)) h in
    let rest : AreRightToTop wan (reverse later ++ (closing ∷ earlier)) =
    verdict-right wan (closing ∷ earlier) later (suc at) (right, cause-none wan earlier closing both.0) both.1 in
    subst (AreRightToTop wan) (sym (reversed-more closing later earlier)) rest

right-earlier : (wan : Wan) (later earlier : List Closing) → AreRight wan (later ++ earlier) → AreRight wan earlier
right-earlier wan [] earlier right = right
right-earlier wan (closing ∷ later) earlier right = right-earlier wan later earlier right.0

-- of closings that are right to the top the verdict is Right
pub right-verdict : (wan : Wan) (earlier later : List Closing) (at : ℕ) → AreRightToTop wan (reverse later ++ earlier) → verdict_after wan earlier later at ≡ Right
unfolding verdict_after verdict_or top_verdict
right-verdict wan earlier [] at right = rw right.1
right-verdict wan earlier (closing ∷ later) at right =
    let regrouped : AreRightToTop wan (reverse later ++ (closing ∷ earlier)) = subst (AreRightToTop wan) (reversed-more closing later earlier) right in
    let here : IsRightAfter wan earlier closing = (right-earlier wan (reverse later) (closing ∷ earlier) regrouped.0).1 in
    rw (none-cause wan earlier closing here, right-verdict wan (closing ∷ earlier) later (suc at) regrouped)

-- the verdict is Right exactly where the closings are those of the filling, in order
pub verdict-right_iff : (wan : Wan) → NeverFalls wan → (closings : List Closing) → (verdict wan closings ≡ Right) ↔ (closings ≡ reverse (filling wan).closings)
verdict-right_iff wan never closings = (
  λ h. let right : AreRightToTop wan (reverse closings) = subst (AreRightToTop wan) (append-nil (reverse closings)) (verdict-right wan [] closings 0 tt h) in
      sym (reverse-reverse closings) ∙ ap reverse (right-closings wan never (reverse closings) right).0,
  λ e. let newest_first : reverse closings ≡ (filling wan).closings = ap reverse e ∙ reverse-reverse (filling wan).closings in
      let right : AreRightToTop wan (reverse closings ++ []) = subst (AreRightToTop wan) (sym newest_first ∙ sym (append-nil (reverse closings))) (filling-right wan never) in
      right-verdict wan [] closings 0 right,
)
