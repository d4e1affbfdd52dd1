-- What follows of a table that is max-min fair for those who have least, and for those at one share.
use Rattle.std.proofs.Common.{◌≡◌, List, refl, inl, inr, arith}
use Rattle.std.proofs.lemmas.Bool.{cases_lt}
use Rattle.bwe_specs.specs.Filling.{Wan}
use Rattle.bwe_specs.specs.Allocation.{GroupLine}
use Rattle.table_laws.specs.Tables.{line_at}
use Rattle.max_min.specs.MaxMin.{IsMaxMin, IsBestForWorstOff, IsBestByLevel}

-- Worst-off law
pub best-for-worst_off : (wan : Wan) (lines : List GroupLine) → IsMaxMin wan lines → IsBestForWorstOff wan lines
best-for-worst_off wan lines fair shares assigned group lt =
    elim (cases_lt (line_at lines group).share (shares group)) [
      | inl more ↦
          let found = fair shares assigned group lt more in
          let has = found.3 in
          (found.1, has.there, omega (arith, has.no_more, has.no_later))
      | inr same ↦ (group, lt, same)
    ]

-- Level law
pub best-by-level : (wan : Wan) (lines : List GroupLine) → IsMaxMin wan lines → IsBestByLevel wan lines
best-by-level wan lines fair shares assigned group lt kept =
    elim (cases_lt (line_at lines group).share (shares group)) [
      | inl more ↦
          let found = fair shares assigned group lt more in
          let has = found.3 in
          let level : (line_at lines found.1).share ≡ (line_at lines group).share =
          elim (cases_lt (line_at lines found.1).share (line_at lines group).share) [
            | inl before ↦ absurd (omega (arith, has.lower before, kept found.1 has.there before))
            | inr above ↦ omega (arith, above, has.no_later)
          ] in
          (found.1, has.there, level, has.no_more)
      | inr same ↦ (group, lt, refl, same)
    ]
