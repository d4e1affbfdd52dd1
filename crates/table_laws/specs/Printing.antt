-- Tables whose text says what they are.
use Rattle.std.specs.Prelude.{◌≡◌, ℕ, ◌<◌, ◌≤◌, ◌^◌, ◌≢◌, ◌++◌, List, [], length, All, IfSome}
use Rattle.bwe_specs.specs.declared.network.Closing.{Closing}
use Rattle.bwe_specs.specs.Allocation.{GroupLine, PlaceLine, Table}
use Rattle.doc_names.specs.NameTexts.{IsPlain, NameTexts, entry_at}
use Rattle.table_text.specs.TableText.{text_of}

-- no name of a link has a line feed (10) or a space (32), and no two links have one name
pub record AreTelling (names : NameTexts) : Type 0 where
  pub plain : All IsPlain names.links
  pub apart : (number other : ℕ) → number < other → other < length names.links
      → entry_at names.links number ≢ entry_at names.links other

-- the link has a name, and each number has 64 bits
pub record IsNamedClosing (names : NameTexts) (closing : Closing) : Type 0 where
  pub link : closing.link < length names.links
  pub share : closing.share < 2 ^ 64

pub record IsNamedPlace (names : NameTexts) (place : PlaceLine) : Type 0 where
  pub amount : place.amount < 2 ^ 64
  pub closed : IfSome place.closed (λ link. link < length names.links)

pub record IsNamedLine (names : NameTexts) (line : GroupLine) : Type 0 where
  pub share : line.share < 2 ^ 64
  pub amount : line.amount < 2 ^ 64
  pub places : All (IsNamedPlace names) line.places

pub record IsNamed (names : NameTexts) (table : Table) : Type 0 where
  pub prefix : table.prefix < 2 ^ 64
  pub closings : All (IsNamedClosing names) table.closings
  pub loads : All (λ load. load < 2 ^ 64) table.loads
  pub groups : All (IsNamedLine names) table.groups
  pub limits : All (λ limit. limit < 2 ^ 64) table.limits

-- One text, one table: under names that tell so many links apart, each table that is written as the
-- same text is this one, and no text of a table goes on behind this one's, nor this one's behind it
pub record IsToldByItsText (links : ℕ) (table : Table) : Type 0 where
  pub alone : (names : NameTexts) → AreTelling names → links ≤ length names.links → (other : Table)
      → IsNamed names other
      → (more : List ℕ) → text_of names table ≡ text_of names other ++ more
      → (table ≡ other) × (more ≡ [])
  pub whole : (names : NameTexts) → AreTelling names → links ≤ length names.links → (other : Table)
      → IsNamed names other
      → (more : List ℕ) → text_of names other ≡ text_of names table ++ more
      → (other ≡ table) × (more ≡ [])
