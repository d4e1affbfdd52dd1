-- Whether a list of kinds is empty.
use Rattle.std.proofs.Common.{◌≡◌, Bool, true, false, ◌&&◌, List, [], ◌∷◌, refl}
use Rattle.clap.specs.Kinds.{IsAmong, Kinds, or_else}
use Rattle.clap.specs.declared.error.kind.ErrorKind.{ErrorKind}

-- no kind of error may come
abbrev pub is_clear : Kinds → Bool
is_clear [] = true
is_clear (kind ∷ kinds) = false

pub or_else-clear : (first then : Kinds) → is_clear (or_else first then) ≡ (is_clear first && is_clear then)
or_else-clear [] then = refl
or_else-clear (kind ∷ kinds) then = refl

pub clear-empty : (kinds : Kinds) → is_clear kinds ≡ true → kinds ≡ []
clear-empty [] e = refl
clear-empty (kind ∷ kinds) e = absurd (Rattle.std.proofs.Common.true≢false (Rattle.std.proofs.Common.sym e))

pub and_false : (a : Bool) → (a && false) ≡ false
and_false true = refl
and_false false = refl

pub and_true : (a : Bool) → (a && true) ≡ a
and_true true = refl
and_true false = refl

pub or_else-none : (kinds : Kinds) → is_clear (or_else kinds []) ≡ is_clear kinds
or_else-none [] = refl
or_else-none (kind ∷ kinds) = refl

pub among-not_clear : (kind : ErrorKind) (kinds : Kinds) → IsAmong kind kinds → is_clear kinds ≡ false
among-not_clear kind [] h = absurd h
among-not_clear kind (k ∷ kinds) h = refl
