use Rattle.std.proofs.Common.{◌≡◌, [], ◌∷◌, Ok, refl, rules}
use Rattle.raw_document.specs.declared.key.DocKey.TheVariants as keys
use Rattle.raw_document.specs.Words.{word}
use Rattle.raw_document.specs.Reading.{each_view}
use Rattle.raw_document.specs.Shape.{whole, text, list_of, is_one_of}
use Rattle.raw_document.specs.Raw.{name_view}
use Rattle.raw_reader.specs.Slots.{number_view, PathHolds}
use Rattle.raw_reader.specs.Takes.{ListRead}
use Rattle.raw_reader.proofs.Filling.{filled, kept, only}
use Rattle.raw_reader.proofs.Lists.{member_taken, list_is}
use Rattle.raw_reader.proofs.groups.PathSlotsSlots.take.Goals as goal

pub returns-then-is-clause-value : goal.returns-then-is-clause-value
unfolding word is_one_of
returns-then-is-clause-value c =
    let is : c.args.key.now ≡ word keys.Weight = search rules in
    member_taken c.args.depth c.args.key.now c.args.reader.now c.fill.new.reader c.fill.result c.fill.new.slot (λ d n. whole d ≡ Ok n) (PathHolds c.args.version c.args.self.now) (PathHolds c.args.version (record c.args.self.now { weight = c.fill.new.slot })) c.fill.ensures.value (λ d x found has read h. (
      filled keys.Weight number_view whole found c.args.key.now d c.fill.new.slot x is has read,
      kept keys.Links keys.Weight (each_view name_view) (list_of text) found c.args.key.now d c.args.self.now.links is refl h.1,
      only (keys.Weight ∷ keys.Links ∷ []) [] found c.args.key.now d (rw is refl) h.2,
    ))

pub returns-then-is-2-clause-value : goal.returns-then-is-2-clause-value
unfolding word is_one_of
returns-then-is-2-clause-value c =
    let is : c.args.key.now ≡ word keys.Links = search rules in
    member_taken c.args.depth c.args.key.now c.args.reader.now c.fill-then-is-2.new.reader c.fill-then-is-2.result c.fill-then-is-2.new.slot (λ d p. ListRead (λ d s. text d ≡ Ok s.now) d p.items) (PathHolds c.args.version c.args.self.now) (PathHolds c.args.version (record c.args.self.now { links = c.fill-then-is-2.new.slot })) c.fill-then-is-2.ensures.value (λ d x found has read h. (
      kept keys.Weight keys.Links number_view whole found c.args.key.now d c.args.self.now.weight is refl h.0,
      filled keys.Links (each_view name_view) (list_of text) found c.args.key.now d c.fill-then-is-2.new.slot x is has (list_is name_view text (λ d s. text d ≡ Ok s.now) (λ d x r. r) d x.items read),
      only (keys.Weight ∷ keys.Links ∷ []) [] found c.args.key.now d (rw is refl) h.2,
    ))
