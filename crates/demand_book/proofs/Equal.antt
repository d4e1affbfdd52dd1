-- Tests that two lines are equal.
use Rattle.std.proofs.Common.{◌≡◌, ◌↔◌, ℕ, List, Bool, ◌&&◌, eqb, IsTrue, Option, Some, None, ap, refl}
use Rattle.std.proofs.lemmas.Bool.{and_from, and_parts}
use Rattle.std.proofs.lemmas.Bool.Decides.{Decides-eqb}
use Rattle.std.specs.Bool.{Decides}
use Rattle.std.specs.Option.{option_eq}
use Rattle.bwe_specs.specs.declared.network.Closing.{Closing}
use Rattle.bwe_specs.specs.Allocation.{PlaceLine, GroupLine}
use Rattle.limit_table.proofs.Parts.{line_parts}

same_closed : (x y : Option ℕ) → Decides (option_eq eqb x y) (x ≡ y)
same_closed None None = (λ _. refl, λ _. refl)
same_closed None (Some y) = (λ e. absurd (cc), λ e. absurd (cc))
same_closed (Some x) None = (λ e. absurd (cc), λ e. absurd (cc))
same_closed (Some x) (Some y) = (λ e. ap Some ((Decides-eqb x y).0 e), λ e. (Decides-eqb x y).1 (cc))

abbrev place_line : ℕ → Option ℕ → PlaceLine
place_line amount closed = record { amount = amount; closed = closed }

same_place_line : (amount amount' : ℕ) (closed closed' : Option ℕ) → amount ≡ amount' → closed ≡ closed' → place_line amount closed ≡ place_line amount' closed'
same_place_line amount amount' closed closed' amounts links = rw (amounts, links) refl

-- the derived test of two lines of places
pub same_place : (x y : PlaceLine) → Decides (eqb x.amount y.amount && option_eq eqb x.closed y.closed) (x ≡ y)
same_place x y = (
  (λ test. let parts = and_parts _ _ test in
      same_place_line _ _ _ _ ((Decides-eqb x.amount y.amount).0 parts.0) ((same_closed x.closed y.closed).0 parts.1)),
  (λ e. and_from _ _ ((Decides-eqb x.amount y.amount).1 (ap (λ line. line.amount) e)) ((same_closed x.closed y.closed).1 (ap (λ line. line.closed) e))),
)

same_group_line : (share share' amount amount' : ℕ) (places places' : List PlaceLine) → share ≡ share' → amount ≡ amount' → places ≡ places' → line_parts share amount places ≡ line_parts share' amount' places'
same_group_line share share' amount amount' places places' shares amounts lines = rw (shares, amounts, lines) refl

-- two lines with one share and one amount are equal where their places are
pub same_line : (x y : GroupLine) (test : Bool) → x.share ≡ y.share → x.amount ≡ y.amount → Decides test (x.places ≡ y.places) → IsTrue test ↔ (x ≡ y)
same_line x y test share amount places =
    (λ e. same_group_line _ _ _ _ _ _ share amount (places.0 e), λ e. places.1 (ap (λ line. line.places) e))

abbrev closing_of : ℕ → ℕ → Closing
closing_of link share = record { link = link; share = share }

same_closing_of : (link link' share share' : ℕ) → link ≡ link' → share ≡ share' → closing_of link share ≡ closing_of link' share'
same_closing_of link link' share share' links shares = rw (links, shares) refl

-- the derived test of two closings
pub same_closing : (x y : Closing) → Decides (eqb x.link y.link && eqb x.share y.share) (x ≡ y)
same_closing x y = (
  (λ test. let parts = and_parts _ _ test in
      same_closing_of _ _ _ _ ((Decides-eqb x.link y.link).0 parts.0) ((Decides-eqb x.share y.share).0 parts.1)),
  (λ e. and_from _ _ ((Decides-eqb x.link y.link).1 (ap (λ closing. closing.link) e)) ((Decides-eqb x.share y.share).1 (ap (λ closing. closing.share) e))),
)
