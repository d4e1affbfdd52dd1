-- Lines that a gate was shown, one after another.
use Rattle.std.proofs.Common.{◌≡◌, ℕ, ◌+◌, ◌<◌, List, Vec, Result, Ok, [], ◌∷◌, ◌++◌, length, get_or, subst, sym, ◌∙◌, ap, arith, below_more}
use Rattle.std.proofs.lemmas.List.{get_or_append_left, get_or_push, length_push}
use Rattle.std.specs.declared.alloc.Global.{Global}
use Rattle.bwe_specs.specs.declared.memory.OutOfMemory.{OutOfMemory}
use Rattle.crew_log.specs.declared.log.ReadLine.{ReadLine}
use Rattle.crew_log.specs.declared.log.ReaderLog.{ReaderLog}
use Rattle.crew_readers.specs.declared.actor.Actor.{Actor}
use Rattle.crew_readers.specs.Gates.{IsShown, AreShown, EndsAreShown}

-- one line more
pub shown_more : (begins : Actor → ℕ → Type 0) (shows : ℕ → ℕ → ℕ → ℕ → Type 0) (reader n : ℕ) (lines : List ReadLine) (line : ReadLine) → length lines ≡ n
    → AreShown begins shows reader lines → IsShown begins shows reader n line → AreShown begins shows reader (lines ++ line ∷ [])
shown_more begins shows reader n lines line count before last call other lt =
    let P : ℕ → Type 0 = λ k. IsShown begins shows reader k (get_or (lines ++ line ∷ []) k other) in
    below_more P n
    (λ k h. subst (IsShown begins shows reader k) (sym (get_or_append_left lines (line ∷ []) other k (omega (arith, count, h)))) (before k other (omega (arith, count, h))))
    (subst (IsShown begins shows reader n) (sym (get_or_push lines line other n count)) last)
    call (omega (arith, lt, length_push lines line, count))

-- one reader more
pub ends_more : (begins : Actor → ℕ → Type 0) (shows : ℕ → ℕ → ℕ → ℕ → Type 0) (reads n : ℕ) (lines : List (Result (Vec ReadLine Global) OutOfMemory)) (readers : List ReaderLog) (reader : ReaderLog)
    → length readers ≡ n → ((other : Result (Vec ReadLine Global) OutOfMemory) → get_or lines n other ≡ Ok reader.reads) → IsShown begins shows n reads reader.last
    → EndsAreShown begins shows reads lines readers → EndsAreShown begins shows reads lines (readers ++ reader ∷ [])
ends_more begins shows reads n lines readers reader count own last before number other another lt =
    let P : ℕ → ReaderLog → Type 0 = λ k it. (get_or lines k other ≡ Ok it.reads) × IsShown begins shows k reads it.last in
    below_more (λ k. P k (get_or (readers ++ reader ∷ []) k another)) n
    (λ k h. subst (P k) (sym (get_or_append_left readers (reader ∷ []) another k (omega (arith, count, h)))) (before k other another (omega (arith, count, h))))
    (subst (P n) (sym (get_or_push readers reader another n count)) (own other, last))
    number (omega (arith, lt, length_push readers reader, count))
