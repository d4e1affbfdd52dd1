-- Tables and lines of their parts.
use Rattle.std.proofs.Common.{◌≡◌, ℕ, List, refl}
use Rattle.bwe_specs.specs.declared.network.Closing.{Closing}
use Rattle.bwe_specs.specs.Allocation.{PlaceLine, GroupLine, Table}

-- a line of its parts
abbrev pub line_parts : ℕ → ℕ → List PlaceLine → GroupLine
line_parts share amount places = record { share = share; amount = amount; places = places }

abbrev pub table_parts : ℕ → List ℕ → List GroupLine → List ℕ → List Closing → Table
table_parts prefix limits groups loads closings = record { prefix = prefix; limits = limits; groups = groups; loads = loads; closings = closings }

pub same-parts : (prefix prefix' : ℕ) (limits limits' : List ℕ) (groups groups' : List GroupLine) (loads loads' : List ℕ) (closings closings' : List Closing)
    → prefix ≡ prefix' → limits ≡ limits' → groups ≡ groups' → loads ≡ loads' → closings ≡ closings'
    → table_parts prefix limits groups loads closings ≡ table_parts prefix' limits' groups' loads' closings'
same-parts prefix prefix' limits limits' groups groups' loads loads' closings closings' a b c d e = rw (a, b, c, d, e) refl
