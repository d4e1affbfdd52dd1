use Rattle.std.proofs.Common.{◌≡◌, [], ◌∷◌, Ok, refl, rules}
use Rattle.raw_document.specs.declared.key.DocKey.TheVariants as keys
use Rattle.raw_document.specs.Words.{word}
use Rattle.raw_document.specs.Reading.{each_view}
use Rattle.raw_document.specs.Shape.{text, point, function, list_of, is_one_of}
use Rattle.raw_document.specs.Raw.{name_view, task_view}
use Rattle.raw_document.specs.Forms.{task_at}
use Rattle.raw_reader.specs.Slots.{points_view, JobHolds}
use Rattle.raw_reader.specs.Takes.{ListRead}
use Rattle.raw_reader.proofs.Filling.{filled, kept, only}
use Rattle.raw_reader.proofs.Lists.{member_taken, list_is, list_itself}
use Rattle.raw_reader.proofs.tasks.JobSlotsSlots.take.Goals as goal

pub returns-then-is-clause-value : goal.returns-then-is-clause-value
unfolding word is_one_of
returns-then-is-clause-value c =
    let is : c.args.key.now ≡ word keys.Name = search rules in
    member_taken c.args.depth c.args.key.now c.args.reader.now c.fill.new.reader c.fill.result c.fill.new.slot (λ d s. text d ≡ Ok s.now) (JobHolds c.args.version c.args.self.now) (JobHolds c.args.version (record c.args.self.now { name = c.fill.new.slot })) c.fill.ensures.value (λ d x found has read h. (
      filled keys.Name name_view text found c.args.key.now d c.fill.new.slot x is has read,
      kept keys.Function keys.Name points_view function found c.args.key.now d c.args.self.now.function is refl h.1,
      kept keys.Task keys.Name points_view function found c.args.key.now d c.args.self.now.task is refl h.2,
      kept keys.Tasks keys.Name (each_view task_view) (list_of (task_at c.args.version)) found c.args.key.now d c.args.self.now.tasks is refl h.3,
      only (keys.Name ∷ keys.Task ∷ keys.Tasks ∷ []) (keys.Function ∷ []) found c.args.key.now d (rw is refl) h.4,
    ))

pub returns-then-is-2-clause-value : goal.returns-then-is-2-clause-value
unfolding word is_one_of
returns-then-is-2-clause-value c =
    let is : c.args.key.now ≡ word keys.Function = search rules in
    member_taken c.args.depth c.args.key.now c.args.reader.now c.fill-then-is-2.new.reader c.fill-then-is-2.result c.fill-then-is-2.new.slot (λ d p. ListRead (λ d x. point d ≡ Ok x) d p.items) (JobHolds c.args.version c.args.self.now) (JobHolds c.args.version (record c.args.self.now { function = c.fill-then-is-2.new.slot })) c.fill-then-is-2.ensures.value (λ d x found has read h. (
      kept keys.Name keys.Function name_view text found c.args.key.now d c.args.self.now.name is refl h.0,
      filled keys.Function points_view function found c.args.key.now d c.fill-then-is-2.new.slot x is has (list_itself point (λ d x. point d ≡ Ok x) (λ d x r. r) d x.items read),
      kept keys.Task keys.Function points_view function found c.args.key.now d c.args.self.now.task is refl h.2,
      kept keys.Tasks keys.Function (each_view task_view) (list_of (task_at c.args.version)) found c.args.key.now d c.args.self.now.tasks is refl h.3,
      only (keys.Name ∷ keys.Task ∷ keys.Tasks ∷ []) (keys.Function ∷ []) found c.args.key.now d (rw is refl) h.4,
    ))

pub returns-then-is-3-clause-value : goal.returns-then-is-3-clause-value
unfolding word is_one_of
returns-then-is-3-clause-value c =
    let is : c.args.key.now ≡ word keys.Task = search rules in
    member_taken c.args.depth c.args.key.now c.args.reader.now c.fill-then-is-3.new.reader c.fill-then-is-3.result c.fill-then-is-3.new.slot (λ d p. ListRead (λ d x. point d ≡ Ok x) d p.items) (JobHolds c.args.version c.args.self.now) (JobHolds c.args.version (record c.args.self.now { task = c.fill-then-is-3.new.slot })) c.fill-then-is-3.ensures.value (λ d x found has read h. (
      kept keys.Name keys.Task name_view text found c.args.key.now d c.args.self.now.name is refl h.0,
      kept keys.Function keys.Task points_view function found c.args.key.now d c.args.self.now.function is refl h.1,
      filled keys.Task points_view function found c.args.key.now d c.fill-then-is-3.new.slot x is has (list_itself point (λ d x. point d ≡ Ok x) (λ d x r. r) d x.items read),
      kept keys.Tasks keys.Task (each_view task_view) (list_of (task_at c.args.version)) found c.args.key.now d c.args.self.now.tasks is refl h.3,
      only (keys.Name ∷ keys.Task ∷ keys.Tasks ∷ []) (keys.Function ∷ []) found c.args.key.now d (rw is refl) h.4,
    ))

pub returns-then-is-4-clause-value : goal.returns-then-is-4-clause-value
unfolding word is_one_of
returns-then-is-4-clause-value c =
    let is : c.args.key.now ≡ word keys.Tasks = search rules in
    member_taken c.args.depth c.args.key.now c.args.reader.now c.fill-then-is-4.new.reader c.fill-then-is-4.result c.fill-then-is-4.new.slot (λ d ys. ListRead (λ d y. task_at c.args.version d ≡ Ok (task_view y)) d ys.items) (JobHolds c.args.version c.args.self.now) (JobHolds c.args.version (record c.args.self.now { tasks = c.fill-then-is-4.new.slot })) c.fill-then-is-4.ensures.value (λ d x found has read h. (
      kept keys.Name keys.Tasks name_view text found c.args.key.now d c.args.self.now.name is refl h.0,
      kept keys.Function keys.Tasks points_view function found c.args.key.now d c.args.self.now.function is refl h.1,
      kept keys.Task keys.Tasks points_view function found c.args.key.now d c.args.self.now.task is refl h.2,
      filled keys.Tasks (each_view task_view) (list_of (task_at c.args.version)) found c.args.key.now d c.fill-then-is-4.new.slot x is has (list_is task_view (task_at c.args.version) (λ d y. task_at c.args.version d ≡ Ok (task_view y)) (λ d y r. r) d x.items read),
      only (keys.Name ∷ keys.Task ∷ keys.Tasks ∷ []) (keys.Function ∷ []) found c.args.key.now d (rw is refl) h.4,
    ))
