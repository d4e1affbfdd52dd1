-- Two beginnings of one history are compared by their lengths.
use Rattle.std.proofs.Common.{◌≡◌, ℕ, ◌<◌, ◌≤◌, Bool, true, false, List, length, take, refl, arith}
use Rattle.std.specs.Prelude.{nat_le}
use Rattle.std.specs.Bool.{OnTrue, OnFalse}
use Rattle.std.proofs.lemmas.Bool.Decides.{nat_tests}
use Rattle.std.proofs.lemmas.List.{length-take-le}
use mathlib.Core.List.{IsPrefix}
use Rattle.bwe_specs.specs.declared.report.Report.{Report}
use Rattle.board_log.specs.History.{log_of}
use Rattle.board_log.proofs.Prefixes.{prefix_flat, prefix_take, prefix_trans, prefix_shorter}

-- of two beginnings the one that is not longer begins the other
pub record AreCompared (test : Bool) (xs ys : List Report) : Type 0 where
  pub begins : OnTrue test (IsPrefix xs ys)
  pub begun : OnFalse test (IsPrefix ys xs)
  pub longer : OnFalse test (length ys < length xs)

by_test : (b : Bool) (m n : ℕ) (xs ys zs : List Report) → nat_le m n ≡ b → length xs ≡ m → length ys ≡ n → IsPrefix xs zs → IsPrefix ys zs → AreCompared b xs ys
by_test true m n xs ys zs is lx ly p q =
    let le : m ≤ n = grind (arith, nat_tests) in
    let le' : length xs ≤ length ys = omega arith in
    record { begins = prefix_shorter xs ys zs p q le'; begun = tt; longer = tt }
by_test false m n xs ys zs is lx ly p q =
    let lt : n < m = grind (arith, nat_tests) in
    let lt' : length ys < length xs = omega arith in
    let le' : length ys ≤ length xs = omega arith in
    record { begins = tt; begun = prefix_shorter ys xs zs q p le'; longer = lt' }

pub compared : (m n : ℕ) (xss yss both : List (List Report)) → IsPrefix xss both → IsPrefix yss both → m ≤ length (log_of xss) → n ≤ length (log_of yss)
    → AreCompared (nat_le m n) (take m (log_of xss)) (take n (log_of yss))
compared m n xss yss both p q lm ln =
    by_test (nat_le m n) m n (take m (log_of xss)) (take n (log_of yss)) (log_of both) refl (length-take-le m _ lm) (length-take-le n _ ln)
    (prefix_trans _ _ _ (prefix_take m (log_of xss)) (prefix_flat xss both p))
    (prefix_trans _ _ _ (prefix_take n (log_of yss)) (prefix_flat yss both q))
