-- A `Vec` with given elements.
use Rattle.std.proofs.Common.{◌<◌, ◌^◌, List, Vec, Global, length, refl, arith}
use denote.RawPtr.{null_ptr}

-- a `Vec` of these elements, of which there are not too many
abbrev pub vec_of : {A : Type 0} (items : List A) → length items < 2 ^ 63 → Vec A Global
vec_of items few = record { ptr = null_ptr; len = length items; cap = length items; alloc = record { memory = record { seal = tt } }; items = items; ok = (refl, omega arith); small = few }
