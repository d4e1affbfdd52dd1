-- Known bytes over two calls.
use Rattle.std.proofs.Common.{◌≡◌, ℕ, ◌+◌, ◌-◌, ◌≤◌, List, ◌++◌, length, take, drop, Option, Some, None, append_assoc, arith, ap, sym, ◌∙◌, length-drop}
use Rattle.std.proofs.lemmas.List.{length-append, length-take-le, drop-drop, take-append-drop, take_at}
use Rattle.std.proofs.Math.Seq.{take-add, take-length}
use Rattle.std.specs.Io.KnownBytes.{Consumes, Appends}
use Rattle.bwe_io.specs.Bytes.{TakesAtMost}

-- bytes taken by two calls, one after the other
pub Consumes-append : (old mid new : Option (List ℕ)) (xs ys : List ℕ)
    → Consumes old mid xs → Consumes mid new ys → Consumes old new (xs ++ ys)
Consumes-append None mid new xs ys first second = tt
Consumes-append (Some a) None new xs ys first second = absurd first
Consumes-append (Some a) (Some b) None xs ys first second = absurd second
Consumes-append (Some a) (Some b) (Some c) xs ys first second = rw (append_assoc xs ys c, ← second) first

-- bytes appended by two calls, one after the other
pub Appends-append : (old mid new : Option (List ℕ)) (xs ys : List ℕ)
    → Appends old mid xs → Appends mid new ys → Appends old new (xs ++ ys)
Appends-append None mid new xs ys first second = tt
Appends-append (Some a) None new xs ys first second = absurd first
Appends-append (Some a) (Some b) None xs ys first second = absurd second
Appends-append (Some a) (Some b) (Some c) xs ys first second = rw (← append_assoc a xs ys, ← first) second

-- after what was taken, some first bytes of a chunk are too
pub TakesAtMost-more : (old mid new : Option (List ℕ)) (taken chunk : List ℕ) (count limit : ℕ)
    → Consumes old mid taken → Consumes mid new (take count chunk)
    → count ≤ length chunk → length taken + count ≤ limit → TakesAtMost limit old new
TakesAtMost-more old mid new taken chunk count limit first second fits within = (
  taken ++ take count chunk,
  Consumes-append old mid new taken (take count chunk) first second,
  omega (arith, length-append taken (take count chunk), length-take-le count chunk fits),
)

-- after the first bytes, some of the others are appended too
pub AppendsPrefix-more : (old mid new : Option (List ℕ)) (bytes rest : List ℕ) (count more : ℕ) → rest ≡ drop count bytes
    → Appends old mid (take count bytes) → Appends mid new (take more rest) → Appends old new (take (count + more) bytes)
AppendsPrefix-more old mid new bytes rest count more is first second =
    rw (take-add count more bytes, ← is) (Appends-append old mid new (take count bytes) (take more rest) first second)

-- what is left after the first of what was left
pub drop-more : (bytes rest : List ℕ) (count more : ℕ) → rest ≡ drop count bytes
    → take (length rest - more) (drop more rest) ≡ drop (count + more) bytes
drop-more bytes rest count more is =
    rw (← length-drop more rest, take-length (drop more rest), is) (drop-drop more count bytes)

pub within-drop : (bytes rest : List ℕ) (count more : ℕ) → count ≤ length bytes → rest ≡ drop count bytes
    → more ≤ length rest → count + more ≤ length bytes
within-drop bytes rest count more fits is some = omega (arith, length-drop count bytes, ap length is)

-- the front that was copied, and what is left, are what there was
pub given-more : (bytes buffer copied : List ℕ) (at count : ℕ) → copied ≡ take count (drop at bytes)
    → count ≤ length (drop at bytes) → drop at bytes ≡ take count (copied ++ drop count buffer) ++ drop (at + count) bytes
given-more bytes buffer copied at count is fits =
    let front : length copied ≡ count = ap length is ∙ length-take-le count (drop at bytes) fits in
    rw (← drop-drop count at bytes, take_at copied (drop count buffer) count front, is) (sym (take-append-drop count (drop at bytes)))
