-- Link numbers that are in range where they are given are so in what contracts see.
use Rattle.std.specs.Prelude.{ℕ, ◌<◌, List, All}
use Rattle.std.proofs.lemmas.List.Elements.{All-map}
use Rattle.bwe_specs.specs.Paths.{Path, PathGroup}
use Rattle.bwe_specs.specs.declared.given.GroupSpec.{GroupSpec}
use Rattle.bwe_specs.specs.Given.{Group, AreInRange, groups_of, group_of, path_group_of, path_of}

-- each link number is below this one, where the groups are given
abbrev pub AreGivenInRange : ℕ → List GroupSpec → Type 0
AreGivenInRange links specs = All (λ group. All (λ place. All (λ path. All (λ link. link < links) path.links.items) place.items) group.places.items) specs

pub in_range-given : (links : ℕ) (specs : List GroupSpec) → AreGivenInRange links specs → AreInRange links (groups_of specs)
in_range-given links specs h =
    let P : Path → Type 0 = λ path. All (λ link. link < links) path.links in
    let Q : PathGroup → Type 0 = All P in
    let R : Group → Type 0 = λ group. All Q group.path_groups in
    All-map R group_of specs (λ i d lt. All-map Q path_group_of _ (λ j e jt. All-map P path_of _ (h i d lt j e jt)))
