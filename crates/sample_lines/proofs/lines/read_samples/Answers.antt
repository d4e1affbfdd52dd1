use Rattle.std.proofs.Common.{◌≡◌, List, length, ap, ◌∙◌, sym, arith, rules}
use Rattle.text_scan.proofs.ItemFacts.{goes_on, stops}
use Rattle.sample_lines.specs.declared.sample.Sample.{Sample}
use Rattle.sample_lines.specs.SampleLines.{next_sample}
use Rattle.sample_lines.proofs.lines.read_samples.Goals as goal

pub lines-preserved : goal.lines-preserved
lines-preserved c =
    goes_on (next_sample c.args.known.now c.args.room) c.lines.samples.items c.push.new.self.items c.in-Some-next_sample.sample c.in-Some.line.now
    c.lines.rest.lines c.next_line.new.self.lines c.lines.rest.left c.next_line.new.self.left _ c.lines.invariant c.in-Some.ensures.some
    (ap (λ (before : List Sample). next_sample c.args.known.now c.args.room before c.in-Some.line.now) (sym c.deref.ensures.value) ∙ sym c.in-Some-next_sample.ensures)
    (search rules) c.in-Some.ensures.left

pub returns-in-None : goal.returns-in-None
returns-in-None c =
    let count : c.len.result ≡ length c.lines.samples.items = omega (arith, c.len.ensures, c.lines.samples.ok.0) in
    stops (next_sample c.args.known.now c.args.room) c.lines.samples.items c.in-Some.line.now c.lines.rest.lines c.next_line.new.self.lines c.lines.rest.left _ c.len.result
    c.lines.invariant c.in-Some.ensures.some
    (ap (λ (before : List Sample). next_sample c.args.known.now c.args.room before c.in-Some.line.now) (sym c.deref.ensures.value) ∙ sym c.in-None.ensures)
    count
