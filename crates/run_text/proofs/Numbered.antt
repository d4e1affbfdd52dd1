-- Texts that grow by a numbered item.
use Rattle.std.proofs.Common.{◌≡◌, ℕ, suc, ◌+◌, ◌<◌, List, ◌++◌, length, get_or, drop}
use Rattle.std.proofs.lemmas.List.{at_drop_more}
use Rattle.run_text.specs.RunText.{numbered}

-- the text of one item more
pub numbered_more : {A : Type 0} (text : ℕ → A → List ℕ) (number : ℕ) (items : List A) (index : ℕ) (item : A) → index < length items
    → numbered text number (drop index items) ≡ text number (get_or items index item) ++ numbered text (suc number) (drop (index + 1) items)
numbered_more text number items index item lt = at_drop_more (numbered text number) items index item lt
