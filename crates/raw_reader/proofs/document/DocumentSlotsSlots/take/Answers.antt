use Rattle.std.proofs.Common.{◌≡◌, Ok, rules}
use Rattle.raw_document.specs.declared.key.DocKey.TheVariants as keys
use Rattle.raw_document.specs.Words.{word}
use Rattle.raw_document.specs.Shape.{whole, text}
use Rattle.raw_document.specs.Raw.{link_view, group_view, report_view, closing_view}
use Rattle.raw_document.specs.Forms.{link_at, group_at, report_at, closing_at}
use Rattle.raw_reader.specs.Slots.{DocumentHolds}
use Rattle.raw_reader.specs.Takes.{ListRead}
use Rattle.raw_reader.proofs.Lists.{member_taken}
use Rattle.raw_reader.proofs.Putting.{put_version, put_top, put_links, put_groups, put_reporters, put_script, put_closings}
use Rattle.raw_reader.proofs.document.DocumentSlotsSlots.take.Goals as goal

pub returns-then-is-clause-value : goal.returns-then-is-clause-value
unfolding word
returns-then-is-clause-value c =
    let is : c.args.key.now ≡ word keys.Version = search rules in
    member_taken c.args.depth c.args.key.now c.args.reader.now c.fill.new.reader c.fill.result c.fill.new.slot (λ d n. whole d ≡ Ok n) (DocumentHolds c.args.version c.args.self.now) (DocumentHolds c.args.version (record c.args.self.now { version = c.fill.new.slot })) c.fill.ensures.value (λ d x found has read. put_version c.args.version c.args.self.now found c.args.key.now d c.fill.new.slot x is has read)

pub returns-then-is-2-clause-value : goal.returns-then-is-2-clause-value
unfolding word
returns-then-is-2-clause-value c =
    let is : c.args.key.now ≡ word keys.Top = search rules in
    member_taken c.args.depth c.args.key.now c.args.reader.now c.fill-then-is-2.new.reader c.fill-then-is-2.result c.fill-then-is-2.new.slot (λ d n. whole d ≡ Ok n) (DocumentHolds c.args.version c.args.self.now) (DocumentHolds c.args.version (record c.args.self.now { top = c.fill-then-is-2.new.slot })) c.fill-then-is-2.ensures.value (λ d x found has read. put_top c.args.version c.args.self.now found c.args.key.now d c.fill-then-is-2.new.slot x is has read)

pub returns-then-is-3-clause-value : goal.returns-then-is-3-clause-value
unfolding word
returns-then-is-3-clause-value c =
    let is : c.args.key.now ≡ word keys.Links = search rules in
    member_taken c.args.depth c.args.key.now c.args.reader.now c.fill-then-is-3.new.reader c.fill-then-is-3.result c.fill-then-is-3.new.slot (λ d ys. ListRead (λ d y. link_at c.args.version d ≡ Ok (link_view y)) d ys.items) (DocumentHolds c.args.version c.args.self.now) (DocumentHolds c.args.version (record c.args.self.now { links = c.fill-then-is-3.new.slot })) c.fill-then-is-3.ensures.value (λ d x found has read. put_links c.args.version c.args.self.now found c.args.key.now d c.fill-then-is-3.new.slot x is has read)

pub returns-then-is-4-clause-value : goal.returns-then-is-4-clause-value
unfolding word
returns-then-is-4-clause-value c =
    let is : c.args.key.now ≡ word keys.Groups = search rules in
    member_taken c.args.depth c.args.key.now c.args.reader.now c.fill-then-is-4.new.reader c.fill-then-is-4.result c.fill-then-is-4.new.slot (λ d ys. ListRead (λ d y. group_at c.args.version d ≡ Ok (group_view y)) d ys.items) (DocumentHolds c.args.version c.args.self.now) (DocumentHolds c.args.version (record c.args.self.now { groups = c.fill-then-is-4.new.slot })) c.fill-then-is-4.ensures.value (λ d x found has read. put_groups c.args.version c.args.self.now found c.args.key.now d c.fill-then-is-4.new.slot x is has read)

pub returns-then-is-5-clause-value : goal.returns-then-is-5-clause-value
unfolding word
returns-then-is-5-clause-value c =
    let is : c.args.key.now ≡ word keys.Reporters = search rules in
    member_taken c.args.depth c.args.key.now c.args.reader.now c.fill-then-is-5.new.reader c.fill-then-is-5.result c.fill-then-is-5.new.slot (λ d p. ListRead (λ d s. text d ≡ Ok s.now) d p.items) (DocumentHolds c.args.version c.args.self.now) (DocumentHolds c.args.version (record c.args.self.now { reporters = c.fill-then-is-5.new.slot })) c.fill-then-is-5.ensures.value (λ d x found has read. put_reporters c.args.version c.args.self.now found c.args.key.now d c.fill-then-is-5.new.slot x is has read)

pub returns-then-is-6-clause-value : goal.returns-then-is-6-clause-value
unfolding word
returns-then-is-6-clause-value c =
    let is : c.args.key.now ≡ word keys.Script = search rules in
    member_taken c.args.depth c.args.key.now c.args.reader.now c.fill-then-is-6.new.reader c.fill-then-is-6.result c.fill-then-is-6.new.slot (λ d ys. ListRead (λ d y. report_at c.args.version d ≡ Ok (report_view y)) d ys.items) (DocumentHolds c.args.version c.args.self.now) (DocumentHolds c.args.version (record c.args.self.now { script = c.fill-then-is-6.new.slot })) c.fill-then-is-6.ensures.value (λ d x found has read. put_script c.args.version c.args.self.now found c.args.key.now d c.fill-then-is-6.new.slot x is has read)

pub returns-then-is-7-clause-value : goal.returns-then-is-7-clause-value
unfolding word
returns-then-is-7-clause-value c =
    let is : c.args.key.now ≡ word keys.Closings = search rules in
    member_taken c.args.depth c.args.key.now c.args.reader.now c.fill-then-is-7.new.reader c.fill-then-is-7.result c.fill-then-is-7.new.slot (λ d ys. ListRead (λ d y. closing_at d ≡ Ok (closing_view y)) d ys.items) (DocumentHolds c.args.version c.args.self.now) (DocumentHolds c.args.version (record c.args.self.now { closings = c.fill-then-is-7.new.slot })) c.fill-then-is-7.ensures.value (λ d x found has read. put_closings c.args.version c.args.self.now found c.args.key.now d c.fill-then-is-7.new.slot x is has read)
