use Rattle.std.proofs.Common.{◌≡◌, [], ◌∷◌, Ok, refl, rules}
use Rattle.raw_document.specs.declared.key.DocKey.TheVariants as keys
use Rattle.raw_document.specs.Words.{word}
use Rattle.raw_document.specs.Shape.{whole, text, is_one_of}
use Rattle.raw_document.specs.Raw.{name_view}
use Rattle.raw_reader.specs.Slots.{number_view, ClosingHolds}
use Rattle.raw_reader.proofs.Filling.{filled, kept, only}
use Rattle.raw_reader.proofs.Lists.{member_taken}
use Rattle.raw_reader.proofs.entries.ClosingSlotsSlots.take.Goals as goal

pub returns-then-is-clause-value : goal.returns-then-is-clause-value
unfolding word is_one_of
returns-then-is-clause-value c =
    let is : c.args.key.now ≡ word keys.Link = search rules in
    member_taken c.args.depth c.args.key.now c.args.reader.now c.fill.new.reader c.fill.result c.fill.new.slot (λ d s. text d ≡ Ok s.now) (ClosingHolds c.args.version c.args.self.now) (ClosingHolds c.args.version (record c.args.self.now { link = c.fill.new.slot })) c.fill.ensures.value (λ d x found has read h. (
      filled keys.Link name_view text found c.args.key.now d c.fill.new.slot x is has read,
      kept keys.Share keys.Link number_view whole found c.args.key.now d c.args.self.now.share is refl h.1,
      only (keys.Link ∷ keys.Share ∷ []) [] found c.args.key.now d (rw is refl) h.2,
    ))

pub returns-then-is-2-clause-value : goal.returns-then-is-2-clause-value
unfolding word is_one_of
returns-then-is-2-clause-value c =
    let is : c.args.key.now ≡ word keys.Share = search rules in
    member_taken c.args.depth c.args.key.now c.args.reader.now c.fill-then-is-2.new.reader c.fill-then-is-2.result c.fill-then-is-2.new.slot (λ d n. whole d ≡ Ok n) (ClosingHolds c.args.version c.args.self.now) (ClosingHolds c.args.version (record c.args.self.now { share = c.fill-then-is-2.new.slot })) c.fill-then-is-2.ensures.value (λ d x found has read h. (
      kept keys.Link keys.Share name_view text found c.args.key.now d c.args.self.now.link is refl h.0,
      filled keys.Share number_view whole found c.args.key.now d c.fill-then-is-2.new.slot x is has read,
      only (keys.Link ∷ keys.Share ∷ []) [] found c.args.key.now d (rw is refl) h.2,
    ))
