use Rattle.std.proofs.Common.{◌≡◌, [], ◌∷◌, Ok, refl, rules, arith}
use Rattle.raw_document.specs.declared.key.DocKey.TheVariants as keys
use Rattle.raw_document.specs.Words.{word}
use Rattle.raw_document.specs.Shape.{whole, text, is_one_of}
use Rattle.raw_document.specs.Raw.{name_view}
use Rattle.raw_reader.specs.Slots.{number_view, ReportHolds}
use Rattle.raw_reader.proofs.Filling.{filled, kept, only}
use Rattle.raw_reader.proofs.Lists.{member_taken}
use Rattle.raw_reader.proofs.entries.ReportSlotsSlots.take.Goals as goal

pub returns-then-is-clause-value : goal.returns-then-is-clause-value
unfolding word is_one_of
returns-then-is-clause-value c =
    let is : c.args.key.now ≡ word keys.Reporter = search rules in
    member_taken c.args.depth c.args.key.now c.args.reader.now c.fill.new.reader c.fill.result c.fill.new.slot (λ d s. text d ≡ Ok s.now) (ReportHolds c.args.version c.args.self.now) (ReportHolds c.args.version (record c.args.self.now { reporter = c.fill.new.slot })) c.fill.ensures.value (λ d x found has read h. (
      filled keys.Reporter name_view text found c.args.key.now d c.fill.new.slot x is has read,
      kept keys.Task keys.Reporter name_view text found c.args.key.now d c.args.self.now.task is refl h.1,
      kept keys.Demand keys.Reporter number_view whole found c.args.key.now d c.args.self.now.demand is refl h.2,
      kept keys.Link keys.Reporter name_view text found c.args.key.now d c.args.self.now.link is refl h.3,
      kept keys.Capacity keys.Reporter number_view whole found c.args.key.now d c.args.self.now.capacity is refl h.4,
      λ e g. only (keys.Reporter ∷ keys.Task ∷ keys.Demand ∷ []) [] found c.args.key.now d (rw is refl) (h.5 e g),
      λ e g. only (keys.Reporter ∷ keys.Link ∷ keys.Capacity ∷ []) [] found c.args.key.now d (rw is refl) (h.6 e g),
    ))

pub returns-then-is-2-clause-value : goal.returns-then-is-2-clause-value
unfolding word is_one_of
returns-then-is-2-clause-value c =
    let is : c.args.key.now ≡ word keys.Task = search rules in
    member_taken c.args.depth c.args.key.now c.args.reader.now c.fill-then-is-2.new.reader c.fill-then-is-2.result c.fill-then-is-2.new.slot (λ d s. text d ≡ Ok s.now) (ReportHolds c.args.version c.args.self.now) (ReportHolds c.args.version (record c.args.self.now { task = c.fill-then-is-2.new.slot })) c.fill-then-is-2.ensures.value (λ d x found has read h. (
      kept keys.Reporter keys.Task name_view text found c.args.key.now d c.args.self.now.reporter is refl h.0,
      filled keys.Task name_view text found c.args.key.now d c.fill-then-is-2.new.slot x is has read,
      kept keys.Demand keys.Task number_view whole found c.args.key.now d c.args.self.now.demand is refl h.2,
      kept keys.Link keys.Task name_view text found c.args.key.now d c.args.self.now.link is refl h.3,
      kept keys.Capacity keys.Task number_view whole found c.args.key.now d c.args.self.now.capacity is refl h.4,
      λ e g. only (keys.Reporter ∷ keys.Task ∷ keys.Demand ∷ []) [] found c.args.key.now d (rw is refl) (h.5 e g),
      λ e g. absurd (grind (arith, has)),
    ))

pub returns-then-is-3-clause-value : goal.returns-then-is-3-clause-value
unfolding word is_one_of
returns-then-is-3-clause-value c =
    let is : c.args.key.now ≡ word keys.Demand = search rules in
    member_taken c.args.depth c.args.key.now c.args.reader.now c.fill-then-is-3.new.reader c.fill-then-is-3.result c.fill-then-is-3.new.slot (λ d n. whole d ≡ Ok n) (ReportHolds c.args.version c.args.self.now) (ReportHolds c.args.version (record c.args.self.now { demand = c.fill-then-is-3.new.slot })) c.fill-then-is-3.ensures.value (λ d x found has read h. (
      kept keys.Reporter keys.Demand name_view text found c.args.key.now d c.args.self.now.reporter is refl h.0,
      kept keys.Task keys.Demand name_view text found c.args.key.now d c.args.self.now.task is refl h.1,
      filled keys.Demand number_view whole found c.args.key.now d c.fill-then-is-3.new.slot x is has read,
      kept keys.Link keys.Demand name_view text found c.args.key.now d c.args.self.now.link is refl h.3,
      kept keys.Capacity keys.Demand number_view whole found c.args.key.now d c.args.self.now.capacity is refl h.4,
      λ e g. only (keys.Reporter ∷ keys.Task ∷ keys.Demand ∷ []) [] found c.args.key.now d (rw is refl) (h.5 e g),
      λ e g. absurd (grind (arith, has)),
    ))

pub returns-then-is-4-clause-value : goal.returns-then-is-4-clause-value
unfolding word is_one_of
returns-then-is-4-clause-value c =
    let is : c.args.key.now ≡ word keys.Link = search rules in
    member_taken c.args.depth c.args.key.now c.args.reader.now c.fill-then-is-4.new.reader c.fill-then-is-4.result c.fill-then-is-4.new.slot (λ d s. text d ≡ Ok s.now) (ReportHolds c.args.version c.args.self.now) (ReportHolds c.args.version (record c.args.self.now { link = c.fill-then-is-4.new.slot })) c.fill-then-is-4.ensures.value (λ d x found has read h. (
      kept keys.Reporter keys.Link name_view text found c.args.key.now d c.args.self.now.reporter is refl h.0,
      kept keys.Task keys.Link name_view text found c.args.key.now d c.args.self.now.task is refl h.1,
      kept keys.Demand keys.Link number_view whole found c.args.key.now d c.args.self.now.demand is refl h.2,
      filled keys.Link name_view text found c.args.key.now d c.fill-then-is-4.new.slot x is has read,
      kept keys.Capacity keys.Link number_view whole found c.args.key.now d c.args.self.now.capacity is refl h.4,
      λ e g. absurd (grind (arith, has)),
      λ e g. only (keys.Reporter ∷ keys.Link ∷ keys.Capacity ∷ []) [] found c.args.key.now d (rw is refl) (h.6 e g),
    ))

pub returns-then-is-5-clause-value : goal.returns-then-is-5-clause-value
unfolding word is_one_of
returns-then-is-5-clause-value c =
    let is : c.args.key.now ≡ word keys.Capacity = search rules in
    member_taken c.args.depth c.args.key.now c.args.reader.now c.fill-then-is-5.new.reader c.fill-then-is-5.result c.fill-then-is-5.new.slot (λ d n. whole d ≡ Ok n) (ReportHolds c.args.version c.args.self.now) (ReportHolds c.args.version (record c.args.self.now { capacity = c.fill-then-is-5.new.slot })) c.fill-then-is-5.ensures.value (λ d x found has read h. (
      kept keys.Reporter keys.Capacity name_view text found c.args.key.now d c.args.self.now.reporter is refl h.0,
      kept keys.Task keys.Capacity name_view text found c.args.key.now d c.args.self.now.task is refl h.1,
      kept keys.Demand keys.Capacity number_view whole found c.args.key.now d c.args.self.now.demand is refl h.2,
      kept keys.Link keys.Capacity name_view text found c.args.key.now d c.args.self.now.link is refl h.3,
      filled keys.Capacity number_view whole found c.args.key.now d c.fill-then-is-5.new.slot x is has read,
      λ e g. absurd (grind (arith, has)),
      λ e g. only (keys.Reporter ∷ keys.Link ∷ keys.Capacity ∷ []) [] found c.args.key.now d (rw is refl) (h.6 e g),
    ))
