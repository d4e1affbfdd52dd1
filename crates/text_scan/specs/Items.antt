-- Items that are written a line each.
use Rattle.std.specs.Prelude.{ℕ, ◌==◌, List, [], ◌∷◌, ◌++◌, length, Option, Some, None, Result, Ok, Err, if◌then◌else◌}
use Rattle.text_scan.specs.Lines.{lines_of, left_of}

-- what follows an item, or the number of the line that is no item
abbrev pub go_on : {A : Type 0} → List A → (List A → Result (List A) ℕ) → Option A
    → Result (List A) ℕ
go_on before next None = Err (length before)
go_on before next (Some item) = next (before ++ item ∷ [])

-- the items of lines behind those before them, or the number of the first line that is no item;
-- what is left behind the last line feed is such a line, where it is not empty
unfoldable pub items_behind : {A : Type 0} → (List A → List ℕ → Option A) → List A → List (List ℕ)
    → List ℕ → Result (List A) ℕ
items_behind item before [] left = if length left == 0 then Ok before else Err (length before)
items_behind item before (line ∷ lines) left =
    go_on before (λ items. items_behind item items lines left) (item before line)

-- the items of a text, or the number of the first line that is no item, counted from 0; which item
-- a line is may turn on those before it
abbrev pub items_of : {A : Type 0} → (List A → List ℕ → Option A) → List ℕ → Result (List A) ℕ
items_of item text = items_behind item [] (lines_of text) (left_of text)
