-- Closings that are named in order are right where each link has fit as far as it had to.
use Rattle.std.proofs.Common.{◌≡◌, ℕ, suc, ◌+◌, ◌<◌, ◌≤◌, Bool, true, false, List, [], ◌∷◌, ◌++◌, length, reverse, take, drop, Some, None, refl, sym, ◌∙◌, ap, arith, subst, nat_lt, if◌then◌else◌, slice_index, le-ltb, lt-ltb, ltb-false, ltb-true}
use Rattle.bwe_specs.specs.declared.network.Closing.{Closing}
use Rattle.bwe_specs.specs.Paths.{is_over, lowest_over}
use Rattle.bwe_specs.specs.Filling.{Wan, growth}
use Rattle.bwe_specs.specs.RightClosings.{last_share, amounts_at, over_at, IsRightAfter, AreRight}
use Rattle.bwe_specs.specs.Values.{NeverFalls}
use Rattle.bwe_specs.proofs.Bounds.{none-lowest, some-lowest, lowest-some, lowest-none}
use Rattle.std.proofs.lemmas.List.{reverse-append, take-append-drop}
use Rattle.bwe_specs.proofs.Growth.{amounts_at-grown_amounts}
use Rattle.bwe_specs.proofs.Loads.{link_load-mono}
use Rattle.mpfa_fill.specs.LastFit.{is_over_at}
use Rattle.closing_walk.specs.Walk.{need, HasFit, IsNamed, AreNamed}

-- a link that fits under one load fits under a lesser one
pub fits-less : (capacity low high : ℕ) → low ≤ high → nat_lt capacity high ≡ false → nat_lt capacity low ≡ false
fits-less capacity low high le fits = le-ltb capacity low (omega (arith, ltb-false capacity high fits))

-- under the same closings, a link that fits at a share fits at each lower one
pub link-fits-below : (wan : Wan) → NeverFalls wan → (closings : List Closing) (s t link : ℕ) → last_share closings ≤ s → s ≤ t → t ≤ wan.top → is_over_at wan closings t link ≡ false → is_over_at wan closings s link ≡ false
link-fits-below wan never closings s t link last order within fits =
    fits-less (slice_index wan.capacities link) _ _
    (link_load-mono wan.groups (amounts_at wan closings s) (amounts_at wan closings t) link
    (λ group place. let rise : amounts_at wan closings s group place + growth wan closings s t group place ≡ amounts_at wan closings t group place = ap (λ x. x group place) (amounts_at-grown_amounts wan never closings s t last order within) in omega (arith, rise)))
    fits

pub need-from : (closing : Closing) (link : ℕ) → closing.share ≤ need closing link
need-from closing link = omega arith

pub need-upto : (closing : Closing) (link : ℕ) → need closing link ≤ suc closing.share
need-upto closing link = go (nat_lt link closing.link) where
  go : (b : Bool) → closing.share + (if b then 1 else 0) ≤ suc closing.share
  go true = omega arith
  go false = omega arith

pub need-lower : (closing : Closing) (link : ℕ) → link < closing.link → need closing link ≡ suc closing.share
need-lower closing link lt = ap (λ b. closing.share + (if b then 1 else 0)) (lt-ltb link closing.link lt) ∙ omega arith

module _ (wan : Wan) (never : NeverFalls wan) where
  right-after : (earlier : List Closing) (closing : Closing) → IsNamed wan earlier closing
      → ((link : ℕ) → link < length wan.capacities → is_over_at wan earlier (need closing link) link ≡ false) → IsRightAfter wan earlier closing
  unfolding lowest_over
  right-after earlier closing named fit = record {
    link_exists = named.link_exists;
    not_closed = named.not_closed;
    share_keeps = named.share_keeps;
    below_top = named.below_top;
    fits_at_share = none-lowest (length wan.capacities) (is_over wan.groups wan.capacities (amounts_at wan earlier closing.share))
        (λ link lt. link-fits-below wan never earlier closing.share (need closing link) link named.share_keeps (need-from closing link) (omega (arith, need-upto closing link, named.below_top)) (fit link lt));
    over_at_next = some-lowest (length wan.capacities) (is_over wan.groups wan.capacities (amounts_at wan earlier (suc closing.share))) closing.link (record {
      below = named.link_exists;
      passes = named.over_at_next;
      none_lower = λ link lt. subst (λ share. is_over_at wan earlier share link ≡ false) (need-lower closing link lt) (fit link (omega (arith, lt, named.link_exists)));
    });
  }

  pub named-right : (closings : List Closing) → AreNamed wan closings → ((link : ℕ) → link < length wan.capacities → HasFit wan closings link) → AreRight wan closings
  named-right [] named fit = tt
  named-right (closing ∷ earlier) named fit =
      (named-right earlier named.0 (λ link lt. (fit link lt).0), right-after earlier closing named.1 (λ link lt. (fit link lt).1))

  -- where every link fits at the top, no link is over there
  pub top-fits : (closings : List Closing) → ((link : ℕ) → link < length wan.capacities → is_over_at wan closings wan.top link ≡ false) → over_at wan closings wan.top ≡ None
  unfolding lowest_over
  top-fits closings fits = none-lowest (length wan.capacities) (is_over wan.groups wan.capacities (amounts_at wan closings wan.top)) fits

-- what is lowest over is over, and what is lower is not
lowest-fits : (wan : Wan) (x : ℕ → ℕ → ℕ) (link lowest : ℕ) → lowest_over wan.groups wan.capacities x ≡ Some lowest → link < lowest → is_over wan.groups wan.capacities x link ≡ false
unfolding lowest_over
lowest-fits wan x link lowest e lt = (lowest-some (length wan.capacities) (is_over wan.groups wan.capacities x) lowest e).none_lower link lt

pub lowest-is_over : (wan : Wan) (x : ℕ → ℕ → ℕ) (lowest : ℕ) → lowest_over wan.groups wan.capacities x ≡ Some lowest → is_over wan.groups wan.capacities x lowest ≡ true
unfolding lowest_over
lowest-is_over wan x lowest e = (lowest-some (length wan.capacities) (is_over wan.groups wan.capacities x) lowest e).passes

pub none-fits : (wan : Wan) (x : ℕ → ℕ → ℕ) (link : ℕ) → link < length wan.capacities → lowest_over wan.groups wan.capacities x ≡ None → is_over wan.groups wan.capacities x link ≡ false
unfolding lowest_over
none-fits wan x link lt e = lowest-none (length wan.capacities) (is_over wan.groups wan.capacities x) e link lt

-- at a right closing each link fits as far as it needs
pub right-needs : (wan : Wan) (earlier : List Closing) (closing : Closing) (link : ℕ) → link < length wan.capacities → IsRightAfter wan earlier closing → is_over_at wan earlier (need closing link) link ≡ false
right-needs wan earlier closing link lt right = go (nat_lt link closing.link) refl where
  go : (b : Bool) → nat_lt link closing.link ≡ b → is_over_at wan earlier (closing.share + (if b then 1 else 0)) link ≡ false
  go true e = subst (λ s. is_over_at wan earlier s link ≡ false) (omega arith) (lowest-fits wan (amounts_at wan earlier (suc closing.share)) link closing.link right.over_at_next (ltb-true link closing.link e))
  go false e = subst (λ s. is_over_at wan earlier s link ≡ false) (omega arith) (none-fits wan (amounts_at wan earlier closing.share) link lt right.fits_at_share)

-- earlier closings of right ones are right
pub right-earlier : (wan : Wan) (later earlier : List Closing) → AreRight wan (later ++ earlier) → AreRight wan earlier
right-earlier wan [] earlier right = right
right-earlier wan (closing ∷ later) earlier right = right-earlier wan later earlier right.0

pub right-taken : (wan : Wan) (list : List Closing) (count : ℕ) → AreRight wan (reverse list) → AreRight wan (reverse (take count list))
right-taken wan list count right =
    right-earlier wan (reverse (drop count list)) (reverse (take count list))
    (subst (AreRight wan) (ap reverse (sym (take-append-drop count list)) ∙ reverse-append (take count list) (drop count list)) right)
