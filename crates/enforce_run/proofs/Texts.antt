-- Texts that grow by a line.
use Rattle.std.proofs.Common.{◌≡◌, ℕ, List, ◌++◌, Result, Ok, Err, OnOk, sym, ◌∙◌, ap, append_assoc}

-- a line of a word and a number
pub on_line : {A E : Type 0} (result : Result A E) (old word digits end text : List ℕ) → OnOk result (text ≡ old ++ word ++ digits ++ end) → OnOk result (text ≡ old ++ (word ++ digits ++ end))
on_line (Ok value) old word digits end text e = e ∙ append_assoc (old ++ word) digits end ∙ append_assoc old word (digits ++ end) ∙ ap (λ list. old ++ list) (sym (append_assoc word digits end))
on_line (Err error) old word digits end text e = tt
