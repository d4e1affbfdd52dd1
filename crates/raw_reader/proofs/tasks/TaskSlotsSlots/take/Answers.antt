use Rattle.std.proofs.Common.{◌≡◌, ◌==◌, false, ne_eqb, [], ◌∷◌, Ok, refl, rules, arith}
use Rattle.raw_document.specs.declared.key.DocKey.TheVariants as keys
use Rattle.raw_document.specs.Words.{word}
use Rattle.raw_document.specs.Shape.{whole, text, is_one_of}
use Rattle.raw_document.specs.Raw.{name_view}
use Rattle.raw_document.specs.Forms.{task_others}
use Rattle.raw_reader.specs.Slots.{number_view, TaskHolds}
use Rattle.raw_reader.proofs.Filling.{filled, kept, only}
use Rattle.raw_reader.proofs.Lists.{member_taken}
use Rattle.raw_reader.proofs.tasks.TaskSlotsSlots.take.Goals as goal

pub returns-then-is-clause-value : goal.returns-then-is-clause-value
unfolding word is_one_of
returns-then-is-clause-value c =
    let is : c.args.key.now ≡ word keys.Name = search rules in
    member_taken c.args.depth c.args.key.now c.args.reader.now c.fill.new.reader c.fill.result c.fill.new.slot (λ d s. text d ≡ Ok s.now) (TaskHolds c.args.version c.args.self.now) (TaskHolds c.args.version (record c.args.self.now { name = c.fill.new.slot })) c.fill.ensures.value (λ d x found has read h. (
      filled keys.Name name_view text found c.args.key.now d c.fill.new.slot x is has read,
      kept keys.Reporter keys.Name name_view text found c.args.key.now d c.args.self.now.reporter is refl h.1,
      kept keys.Weight keys.Name number_view whole found c.args.key.now d c.args.self.now.weight is refl h.2,
      only (keys.Name ∷ keys.Reporter ∷ []) (task_others c.args.version) found c.args.key.now d (rw is refl) h.3,
    ))

pub returns-then-is-2-clause-value : goal.returns-then-is-2-clause-value
unfolding word is_one_of
returns-then-is-2-clause-value c =
    let is : c.args.key.now ≡ word keys.Reporter = search rules in
    member_taken c.args.depth c.args.key.now c.args.reader.now c.fill-then-is-2.new.reader c.fill-then-is-2.result c.fill-then-is-2.new.slot (λ d s. text d ≡ Ok s.now) (TaskHolds c.args.version c.args.self.now) (TaskHolds c.args.version (record c.args.self.now { reporter = c.fill-then-is-2.new.slot })) c.fill-then-is-2.ensures.value (λ d x found has read h. (
      kept keys.Name keys.Reporter name_view text found c.args.key.now d c.args.self.now.name is refl h.0,
      filled keys.Reporter name_view text found c.args.key.now d c.fill-then-is-2.new.slot x is has read,
      kept keys.Weight keys.Reporter number_view whole found c.args.key.now d c.args.self.now.weight is refl h.2,
      only (keys.Name ∷ keys.Reporter ∷ []) (task_others c.args.version) found c.args.key.now d (rw is refl) h.3,
    ))

pub returns-then-is-3-clause-value : goal.returns-then-is-3-clause-value
unfolding word is_one_of
returns-then-is-3-clause-value c =
    let is : c.args.key.now ≡ word keys.Weight = search rules in
    let not_first : (c.args.version == 1) ≡ false = ne_eqb c.args.version 1 (λ e. omega arith) in
    let not_second : (c.args.version == 2) ≡ false = ne_eqb c.args.version 2 (λ e. omega arith) in
    member_taken c.args.depth c.args.key.now c.args.reader.now c.fill-then-is-3.new.reader c.fill-then-is-3.result c.fill-then-is-3.new.slot (λ d n. whole d ≡ Ok n) (TaskHolds c.args.version c.args.self.now) (TaskHolds c.args.version (record c.args.self.now { weight = c.fill-then-is-3.new.slot })) c.fill-then-is-3.ensures.value (λ d x found has read h. (
      kept keys.Name keys.Weight name_view text found c.args.key.now d c.args.self.now.name is refl h.0,
      kept keys.Reporter keys.Weight name_view text found c.args.key.now d c.args.self.now.reporter is refl h.1,
      filled keys.Weight number_view whole found c.args.key.now d c.fill-then-is-3.new.slot x is has read,
      only (keys.Name ∷ keys.Reporter ∷ []) (task_others c.args.version) found c.args.key.now d (rw (is, not_first, not_second) refl) h.3,
    ))
