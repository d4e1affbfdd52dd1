use Rattle.std.proofs.Common.{◌≡◌, length}
use Rattle.text_scan.specs.Items.{items_behind, items_of}
use Rattle.sample_lines.specs.SampleLines.{next_sample}
use Rattle.sample_lines.proofs.lines.read_samples.Given as goal

abbrev pub invariant-lines : goal.invariant-lines
invariant-lines l = items_of (next_sample l.known l.room) l.part ≡ items_behind (next_sample l.known l.room) l.samples.items l.rest.lines l.rest.left

abbrev pub decreases-lines : goal.decreases-lines
decreases-lines l = length l.rest.lines
