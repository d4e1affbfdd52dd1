-- What is told of a number, through sums and loads.
use Rattle.std.proofs.Common.{◌≡◌, ℕ, ◌+◌, ◌-◌, ◌≤◌, min, arith, ap}
use Rattle.bwe_specs.specs.Paths.{PathGroup, load_on}
use Rattle.bwe_specs.proofs.Loads.{load_on-mono}
use Rattle.mpfa_fill.specs.declared.asked.Asked.{Asked}
use Rattle.mpfa_fill.specs.declared.asked.Asked.TheVariants.{Exactly, AtMost, AtLeast}
use Rattle.mpfa_fill.specs.Told.{IsTold}

pub told-itself : (asked : Asked) (number told : ℕ) → told ≡ number → IsTold asked number told
told-itself Exactly number told is = is
told-itself AtMost number told is = omega (arith, is)
told-itself AtLeast number told is = omega (arith, is)

pub told-min : (asked : Asked) (number told most : ℕ) → IsTold asked number told → number ≤ most → IsTold asked number (min told most)
told-min Exactly number told most is within = omega (arith, is, within)
told-min AtMost number told most is within = omega (arith, is, within)
told-min AtLeast number told most is within = omega (arith, is, within)

-- one part more is told
pub told-more : (asked : Asked) (base sum next part told told_part more : ℕ) → next ≡ sum + part → IsTold asked (base + sum) told → IsTold asked part told_part → more ≡ told_part → IsTold asked (base + next) (told + more)
told-more Exactly base sum next part told told_part more is so_far here same = omega (arith, is, so_far, here, same)
told-more AtMost base sum next part told told_part more is so_far here same = omega (arith, is, so_far, here, same)
told-more AtLeast base sum next part told told_part more is so_far here same = omega (arith, is, so_far, here, same)

-- so much of what was told is taken off again
pub told-less : (asked : Asked) (number whole told held rest : ℕ) → number + held ≡ whole → IsTold asked whole told → rest ≡ told - held → IsTold asked number rest
told-less Exactly number whole told held rest parts is left = omega (arith, parts, is, left)
told-less AtMost number whole told held rest parts is left = omega (arith, parts, is, left)
told-less AtLeast number whole told held rest parts is left = omega (arith, parts, is, left)

-- what a group has, where its value is told
pub told-amount : (asked : Asked) (amount base added value told : ℕ) → amount + base ≡ added + value → IsTold asked value told → IsTold asked amount (added + told - base)
told-amount Exactly amount base added value told has is = omega (arith, has, is)
told-amount AtMost amount base added value told has is = omega (arith, has, is)
told-amount AtLeast amount base added value told has is = omega (arith, has, is)

pub told-load : (asked : Asked) (path_group : PathGroup) (link amount told : ℕ) → IsTold asked amount told → IsTold asked (load_on path_group link amount) (load_on path_group link told)
told-load Exactly path_group link amount told is = ap (load_on path_group link) is
told-load AtMost path_group link amount told is = load_on-mono path_group link amount told is
told-load AtLeast path_group link amount told is = load_on-mono path_group link told amount is
