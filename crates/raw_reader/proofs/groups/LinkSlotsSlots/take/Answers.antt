use Rattle.std.proofs.Common.{◌≡◌, ◌==◌, false, ne_eqb, [], ◌∷◌, Ok, refl, rules, arith}
use Rattle.raw_document.specs.declared.key.DocKey.TheVariants as keys
use Rattle.raw_document.specs.Words.{word}
use Rattle.raw_document.specs.Shape.{whole, text, is_one_of}
use Rattle.raw_document.specs.Raw.{name_view}
use Rattle.raw_document.specs.Forms.{link_others}
use Rattle.raw_reader.specs.Slots.{number_view, LinkHolds}
use Rattle.raw_reader.proofs.Filling.{filled, kept, only}
use Rattle.raw_reader.proofs.Lists.{member_taken}
use Rattle.raw_reader.proofs.groups.LinkSlotsSlots.take.Goals as goal

pub returns-then-is-clause-value : goal.returns-then-is-clause-value
unfolding word is_one_of
returns-then-is-clause-value c =
    let is : c.args.key.now ≡ word keys.Name = search rules in
    member_taken c.args.depth c.args.key.now c.args.reader.now c.fill.new.reader c.fill.result c.fill.new.slot (λ d s. text d ≡ Ok s.now) (LinkHolds c.args.version c.args.self.now) (LinkHolds c.args.version (record c.args.self.now { name = c.fill.new.slot })) c.fill.ensures.value (λ d x found has read h. (
      filled keys.Name name_view text found c.args.key.now d c.fill.new.slot x is has read,
      kept keys.From keys.Name name_view text found c.args.key.now d c.args.self.now.from is refl h.1,
      kept keys.To keys.Name name_view text found c.args.key.now d c.args.self.now.to is refl h.2,
      kept keys.Capacity keys.Name number_view whole found c.args.key.now d c.args.self.now.capacity is refl h.3,
      kept keys.Owner keys.Name name_view text found c.args.key.now d c.args.self.now.owner is refl h.4,
      only (keys.Name ∷ keys.From ∷ keys.To ∷ keys.Capacity ∷ []) (link_others c.args.version) found c.args.key.now d (rw is refl) h.5,
    ))

pub returns-then-is-2-clause-value : goal.returns-then-is-2-clause-value
unfolding word is_one_of
returns-then-is-2-clause-value c =
    let is : c.args.key.now ≡ word keys.From = search rules in
    member_taken c.args.depth c.args.key.now c.args.reader.now c.fill-then-is-2.new.reader c.fill-then-is-2.result c.fill-then-is-2.new.slot (λ d s. text d ≡ Ok s.now) (LinkHolds c.args.version c.args.self.now) (LinkHolds c.args.version (record c.args.self.now { from = c.fill-then-is-2.new.slot })) c.fill-then-is-2.ensures.value (λ d x found has read h. (
      kept keys.Name keys.From name_view text found c.args.key.now d c.args.self.now.name is refl h.0,
      filled keys.From name_view text found c.args.key.now d c.fill-then-is-2.new.slot x is has read,
      kept keys.To keys.From name_view text found c.args.key.now d c.args.self.now.to is refl h.2,
      kept keys.Capacity keys.From number_view whole found c.args.key.now d c.args.self.now.capacity is refl h.3,
      kept keys.Owner keys.From name_view text found c.args.key.now d c.args.self.now.owner is refl h.4,
      only (keys.Name ∷ keys.From ∷ keys.To ∷ keys.Capacity ∷ []) (link_others c.args.version) found c.args.key.now d (rw is refl) h.5,
    ))

pub returns-then-is-3-clause-value : goal.returns-then-is-3-clause-value
unfolding word is_one_of
returns-then-is-3-clause-value c =
    let is : c.args.key.now ≡ word keys.To = search rules in
    member_taken c.args.depth c.args.key.now c.args.reader.now c.fill-then-is-3.new.reader c.fill-then-is-3.result c.fill-then-is-3.new.slot (λ d s. text d ≡ Ok s.now) (LinkHolds c.args.version c.args.self.now) (LinkHolds c.args.version (record c.args.self.now { to = c.fill-then-is-3.new.slot })) c.fill-then-is-3.ensures.value (λ d x found has read h. (
      kept keys.Name keys.To name_view text found c.args.key.now d c.args.self.now.name is refl h.0,
      kept keys.From keys.To name_view text found c.args.key.now d c.args.self.now.from is refl h.1,
      filled keys.To name_view text found c.args.key.now d c.fill-then-is-3.new.slot x is has read,
      kept keys.Capacity keys.To number_view whole found c.args.key.now d c.args.self.now.capacity is refl h.3,
      kept keys.Owner keys.To name_view text found c.args.key.now d c.args.self.now.owner is refl h.4,
      only (keys.Name ∷ keys.From ∷ keys.To ∷ keys.Capacity ∷ []) (link_others c.args.version) found c.args.key.now d (rw is refl) h.5,
    ))

pub returns-then-is-4-clause-value : goal.returns-then-is-4-clause-value
unfolding word is_one_of
returns-then-is-4-clause-value c =
    let is : c.args.key.now ≡ word keys.Capacity = search rules in
    member_taken c.args.depth c.args.key.now c.args.reader.now c.fill-then-is-4.new.reader c.fill-then-is-4.result c.fill-then-is-4.new.slot (λ d n. whole d ≡ Ok n) (LinkHolds c.args.version c.args.self.now) (LinkHolds c.args.version (record c.args.self.now { capacity = c.fill-then-is-4.new.slot })) c.fill-then-is-4.ensures.value (λ d x found has read h. (
      kept keys.Name keys.Capacity name_view text found c.args.key.now d c.args.self.now.name is refl h.0,
      kept keys.From keys.Capacity name_view text found c.args.key.now d c.args.self.now.from is refl h.1,
      kept keys.To keys.Capacity name_view text found c.args.key.now d c.args.self.now.to is refl h.2,
      filled keys.Capacity number_view whole found c.args.key.now d c.fill-then-is-4.new.slot x is has read,
      kept keys.Owner keys.Capacity name_view text found c.args.key.now d c.args.self.now.owner is refl h.4,
      only (keys.Name ∷ keys.From ∷ keys.To ∷ keys.Capacity ∷ []) (link_others c.args.version) found c.args.key.now d (rw is refl) h.5,
    ))

pub returns-then-is-5-clause-value : goal.returns-then-is-5-clause-value
unfolding word is_one_of
returns-then-is-5-clause-value c =
    let is : c.args.key.now ≡ word keys.Owner = search rules in
    let not_first : (c.args.version == 1) ≡ false = ne_eqb c.args.version 1 (λ e. omega arith) in
    member_taken c.args.depth c.args.key.now c.args.reader.now c.fill-then-is-5.new.reader c.fill-then-is-5.result c.fill-then-is-5.new.slot (λ d s. text d ≡ Ok s.now) (LinkHolds c.args.version c.args.self.now) (LinkHolds c.args.version (record c.args.self.now { owner = c.fill-then-is-5.new.slot })) c.fill-then-is-5.ensures.value (λ d x found has read h. (
      kept keys.Name keys.Owner name_view text found c.args.key.now d c.args.self.now.name is refl h.0,
      kept keys.From keys.Owner name_view text found c.args.key.now d c.args.self.now.from is refl h.1,
      kept keys.To keys.Owner name_view text found c.args.key.now d c.args.self.now.to is refl h.2,
      kept keys.Capacity keys.Owner number_view whole found c.args.key.now d c.args.self.now.capacity is refl h.3,
      filled keys.Owner name_view text found c.args.key.now d c.fill-then-is-5.new.slot x is has read,
      only (keys.Name ∷ keys.From ∷ keys.To ∷ keys.Capacity ∷ []) (link_others c.args.version) found c.args.key.now d (rw (is, not_first) refl) h.5,
    ))
