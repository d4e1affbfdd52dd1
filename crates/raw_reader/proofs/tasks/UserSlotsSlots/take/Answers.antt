use Rattle.std.proofs.Common.{◌≡◌, [], ◌∷◌, Ok, refl, rules}
use Rattle.raw_document.specs.declared.key.DocKey.TheVariants as keys
use Rattle.raw_document.specs.Words.{word}
use Rattle.raw_document.specs.Reading.{each_view}
use Rattle.raw_document.specs.Shape.{text, point, function, list_of, is_one_of}
use Rattle.raw_document.specs.Raw.{name_view, job_view}
use Rattle.raw_document.specs.Forms.{job_at}
use Rattle.raw_reader.specs.Slots.{points_view, UserHolds}
use Rattle.raw_reader.specs.Takes.{ListRead}
use Rattle.raw_reader.proofs.Filling.{filled, kept, only}
use Rattle.raw_reader.proofs.Lists.{member_taken, list_is, list_itself}
use Rattle.raw_reader.proofs.tasks.UserSlotsSlots.take.Goals as goal

pub returns-then-is-clause-value : goal.returns-then-is-clause-value
unfolding word is_one_of
returns-then-is-clause-value c =
    let is : c.args.key.now ≡ word keys.Name = search rules in
    member_taken c.args.depth c.args.key.now c.args.reader.now c.fill.new.reader c.fill.result c.fill.new.slot (λ d s. text d ≡ Ok s.now) (UserHolds c.args.version c.args.self.now) (UserHolds c.args.version (record c.args.self.now { name = c.fill.new.slot })) c.fill.ensures.value (λ d x found has read h. (
      filled keys.Name name_view text found c.args.key.now d c.fill.new.slot x is has read,
      kept keys.Function keys.Name points_view function found c.args.key.now d c.args.self.now.function is refl h.1,
      kept keys.Jobs keys.Name (each_view job_view) (list_of (job_at c.args.version)) found c.args.key.now d c.args.self.now.jobs is refl h.2,
      only (keys.Name ∷ keys.Jobs ∷ []) (keys.Function ∷ []) found c.args.key.now d (rw is refl) h.3,
    ))

pub returns-then-is-2-clause-value : goal.returns-then-is-2-clause-value
unfolding word is_one_of
returns-then-is-2-clause-value c =
    let is : c.args.key.now ≡ word keys.Function = search rules in
    member_taken c.args.depth c.args.key.now c.args.reader.now c.fill-then-is-2.new.reader c.fill-then-is-2.result c.fill-then-is-2.new.slot (λ d p. ListRead (λ d x. point d ≡ Ok x) d p.items) (UserHolds c.args.version c.args.self.now) (UserHolds c.args.version (record c.args.self.now { function = c.fill-then-is-2.new.slot })) c.fill-then-is-2.ensures.value (λ d x found has read h. (
      kept keys.Name keys.Function name_view text found c.args.key.now d c.args.self.now.name is refl h.0,
      filled keys.Function points_view function found c.args.key.now d c.fill-then-is-2.new.slot x is has (list_itself point (λ d x. point d ≡ Ok x) (λ d x r. r) d x.items read),
      kept keys.Jobs keys.Function (each_view job_view) (list_of (job_at c.args.version)) found c.args.key.now d c.args.self.now.jobs is refl h.2,
      only (keys.Name ∷ keys.Jobs ∷ []) (keys.Function ∷ []) found c.args.key.now d (rw is refl) h.3,
    ))

pub returns-then-is-3-clause-value : goal.returns-then-is-3-clause-value
unfolding word is_one_of
returns-then-is-3-clause-value c =
    let is : c.args.key.now ≡ word keys.Jobs = search rules in
    member_taken c.args.depth c.args.key.now c.args.reader.now c.fill-then-is-3.new.reader c.fill-then-is-3.result c.fill-then-is-3.new.slot (λ d ys. ListRead (λ d y. job_at c.args.version d ≡ Ok (job_view y)) d ys.items) (UserHolds c.args.version c.args.self.now) (UserHolds c.args.version (record c.args.self.now { jobs = c.fill-then-is-3.new.slot })) c.fill-then-is-3.ensures.value (λ d x found has read h. (
      kept keys.Name keys.Jobs name_view text found c.args.key.now d c.args.self.now.name is refl h.0,
      kept keys.Function keys.Jobs points_view function found c.args.key.now d c.args.self.now.function is refl h.1,
      filled keys.Jobs (each_view job_view) (list_of (job_at c.args.version)) found c.args.key.now d c.fill-then-is-3.new.slot x is has (list_is job_view (job_at c.args.version) (λ d y. job_at c.args.version d ≡ Ok (job_view y)) (λ d y r. r) d x.items read),
      only (keys.Name ∷ keys.Jobs ∷ []) (keys.Function ∷ []) found c.args.key.now d (rw is refl) h.3,
    ))
