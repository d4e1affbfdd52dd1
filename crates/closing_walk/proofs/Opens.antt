-- Closed links, as the code finds them.
use Rattle.std.proofs.Common.{◌≡◌, ℕ, Bool, List, reverse, sym, ◌∙◌, ap, nat_eq, ◌==◌}
use Rattle.std.specs.List.{list_any}
use Rattle.bwe_specs.specs.declared.network.Closing.{Closing}
use Rattle.bwe_specs.specs.Filling.{closed_links}
use Rattle.path_groups.proofs.Paths.{any_map}
use Rattle.mpfa_fill.proofs.Places.{any-reverse}

-- a link was closed where one of the closings names it, in whatever order they stand
pub closed-found : (items earlier : List Closing) (link : ℕ) (found : Bool) → reverse items ≡ earlier → found ≡ list_any (λ closing. link == closing.link) items
    → list_any (nat_eq link) (closed_links earlier) ≡ found
closed-found items earlier link found order is =
    ap (λ cs. list_any (nat_eq link) (closed_links cs)) (sym order)
    ∙ any_map (nat_eq link) (λ closing. closing.link) (reverse items) ∙ any-reverse (λ closing. nat_eq link closing.link) items ∙ sym is
