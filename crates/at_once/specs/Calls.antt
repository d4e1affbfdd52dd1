-- What calls with the items of a list do, each with one item.
use Rattle.std.specs.Prelude.{◌≡◌, ℕ, ◌+◌, ◌<◌, List, length, slice_index_or}
use denote.Ref.{MutBor}
use denote.Param.Members.{Shared}

module _ {F X A
    : Type 0} (g : Shared F (ℕ × (MutBor X × Unit {0})) (A × (MutBor X × Unit {0}))) (f : F) where
  -- the function may be called with the number of each item, counted from a first one, and the item
  abbrev pub AcceptsEach : ℕ → List X → Type 0
  AcceptsEach first items = (place : ℕ) (item : MutBor X) → place < length items
      → item.now ≡ slice_index_or items place item.now → g.pre f (first + place, (item, tt))

  -- a call with this number and this item may answer so and leave the item so
  pub record Calls (number : ℕ) (before : X) (answer : A) (after : X) : Type 0 where
    pub argument : MutBor X
    pub argument_is : argument.now ≡ before
    pub after_call : MutBor X
    pub call : g.post f (number, (argument, tt)) (answer, (after_call, tt))
    pub left : after_call.now ≡ after

  -- there is an answer for each item, and each is left as its call left it
  pub record CallsEach (first : ℕ) (before : List X) (answers : List A) (after : List X)
      : Type 0 where
    pub answered : length answers ≡ length before
    pub count : length after ≡ length before
    pub each : (place : ℕ) (old : X) (answer : A) (new : X) → place < length before
        → Calls (first + place) (slice_index_or before place old)
        (slice_index_or answers place answer) (slice_index_or after place new)
