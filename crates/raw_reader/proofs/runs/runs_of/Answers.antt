use Rattle.std.proofs.Common.{◌≡◌, take, drop, true, arith}
use Rattle.std.specs.Prelude.{is_ok}
use Rattle.raw_reader.proofs.Running.{dealt}
use Rattle.raw_reader.proofs.runs.runs_of.Goals as goal

pub loop-scratch-preserved : goal.loop-scratch-preserved
loop-scratch-preserved c =
    let l = c.loop-scratch in
    let count = c.min-count.result in
    let added : is_ok c.push.result ≡ true = grind arith in
    let front : c.split_off.new.self.items ≡ take count l.rest.items = grind arith in
    let back : c.in_ok-behind.behind.items ≡ drop count l.rest.items = grind arith in
    dealt (is_ok c.push.result) l.runs.items c.push.new.self.items _ l.rest.items c.in_ok-behind.behind.items c.args.stretches.items count added c.push.ensures.items l.invariant front back
