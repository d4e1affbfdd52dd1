use Rattle.std.proofs.Common.{◌≡◌, [], ◌∷◌, Ok, refl, rules}
use Rattle.raw_document.specs.declared.key.DocKey.TheVariants as keys
use Rattle.raw_document.specs.Words.{word}
use Rattle.raw_document.specs.Reading.{each_view}
use Rattle.raw_document.specs.Shape.{text, point, function, list_of, is_one_of}
use Rattle.raw_document.specs.Raw.{name_view, path_view, path_group_view, user_view}
use Rattle.raw_document.specs.Forms.{path_at, user_at}
use Rattle.raw_reader.specs.Slots.{points_view, GroupHolds}
use Rattle.raw_reader.specs.Takes.{ListRead}
use Rattle.raw_reader.proofs.Filling.{filled, kept, only}
use Rattle.raw_reader.proofs.Lists.{member_taken, list_is, list_itself}
use Rattle.raw_reader.proofs.groups.GroupSlotsSlots.take.Goals as goal

pub returns-then-is-clause-value : goal.returns-then-is-clause-value
unfolding word is_one_of
returns-then-is-clause-value c =
    let is : c.args.key.now ≡ word keys.Name = search rules in
    member_taken c.args.depth c.args.key.now c.args.reader.now c.fill.new.reader c.fill.result c.fill.new.slot (λ d s. text d ≡ Ok s.now) (GroupHolds c.args.version c.args.self.now) (GroupHolds c.args.version (record c.args.self.now { name = c.fill.new.slot })) c.fill.ensures.value (λ d x found has read h. (
      filled keys.Name name_view text found c.args.key.now d c.fill.new.slot x is has read,
      kept keys.From keys.Name name_view text found c.args.key.now d c.args.self.now.from is refl h.1,
      kept keys.To keys.Name name_view text found c.args.key.now d c.args.self.now.to is refl h.2,
      kept keys.Function keys.Name points_view function found c.args.key.now d c.args.self.now.function is refl h.3,
      kept keys.Paths keys.Name (each_view path_group_view) (list_of (list_of path_at)) found c.args.key.now d c.args.self.now.path_groups is refl h.4,
      kept keys.Users keys.Name (each_view user_view) (list_of (user_at c.args.version)) found c.args.key.now d c.args.self.now.users is refl h.5,
      only (keys.Name ∷ keys.From ∷ keys.To ∷ keys.Paths ∷ keys.Users ∷ []) (keys.Function ∷ []) found c.args.key.now d (rw is refl) h.6,
    ))

pub returns-then-is-2-clause-value : goal.returns-then-is-2-clause-value
unfolding word is_one_of
returns-then-is-2-clause-value c =
    let is : c.args.key.now ≡ word keys.From = search rules in
    member_taken c.args.depth c.args.key.now c.args.reader.now c.fill-then-is-2.new.reader c.fill-then-is-2.result c.fill-then-is-2.new.slot (λ d s. text d ≡ Ok s.now) (GroupHolds c.args.version c.args.self.now) (GroupHolds c.args.version (record c.args.self.now { from = c.fill-then-is-2.new.slot })) c.fill-then-is-2.ensures.value (λ d x found has read h. (
      kept keys.Name keys.From name_view text found c.args.key.now d c.args.self.now.name is refl h.0,
      filled keys.From name_view text found c.args.key.now d c.fill-then-is-2.new.slot x is has read,
      kept keys.To keys.From name_view text found c.args.key.now d c.args.self.now.to is refl h.2,
      kept keys.Function keys.From points_view function found c.args.key.now d c.args.self.now.function is refl h.3,
      kept keys.Paths keys.From (each_view path_group_view) (list_of (list_of path_at)) found c.args.key.now d c.args.self.now.path_groups is refl h.4,
      kept keys.Users keys.From (each_view user_view) (list_of (user_at c.args.version)) found c.args.key.now d c.args.self.now.users is refl h.5,
      only (keys.Name ∷ keys.From ∷ keys.To ∷ keys.Paths ∷ keys.Users ∷ []) (keys.Function ∷ []) found c.args.key.now d (rw is refl) h.6,
    ))

pub returns-then-is-3-clause-value : goal.returns-then-is-3-clause-value
unfolding word is_one_of
returns-then-is-3-clause-value c =
    let is : c.args.key.now ≡ word keys.To = search rules in
    member_taken c.args.depth c.args.key.now c.args.reader.now c.fill-then-is-3.new.reader c.fill-then-is-3.result c.fill-then-is-3.new.slot (λ d s. text d ≡ Ok s.now) (GroupHolds c.args.version c.args.self.now) (GroupHolds c.args.version (record c.args.self.now { to = c.fill-then-is-3.new.slot })) c.fill-then-is-3.ensures.value (λ d x found has read h. (
      kept keys.Name keys.To name_view text found c.args.key.now d c.args.self.now.name is refl h.0,
      kept keys.From keys.To name_view text found c.args.key.now d c.args.self.now.from is refl h.1,
      filled keys.To name_view text found c.args.key.now d c.fill-then-is-3.new.slot x is has read,
      kept keys.Function keys.To points_view function found c.args.key.now d c.args.self.now.function is refl h.3,
      kept keys.Paths keys.To (each_view path_group_view) (list_of (list_of path_at)) found c.args.key.now d c.args.self.now.path_groups is refl h.4,
      kept keys.Users keys.To (each_view user_view) (list_of (user_at c.args.version)) found c.args.key.now d c.args.self.now.users is refl h.5,
      only (keys.Name ∷ keys.From ∷ keys.To ∷ keys.Paths ∷ keys.Users ∷ []) (keys.Function ∷ []) found c.args.key.now d (rw is refl) h.6,
    ))

pub returns-then-is-4-clause-value : goal.returns-then-is-4-clause-value
unfolding word is_one_of
returns-then-is-4-clause-value c =
    let is : c.args.key.now ≡ word keys.Function = search rules in
    member_taken c.args.depth c.args.key.now c.args.reader.now c.fill-then-is-4.new.reader c.fill-then-is-4.result c.fill-then-is-4.new.slot (λ d p. ListRead (λ d x. point d ≡ Ok x) d p.items) (GroupHolds c.args.version c.args.self.now) (GroupHolds c.args.version (record c.args.self.now { function = c.fill-then-is-4.new.slot })) c.fill-then-is-4.ensures.value (λ d x found has read h. (
      kept keys.Name keys.Function name_view text found c.args.key.now d c.args.self.now.name is refl h.0,
      kept keys.From keys.Function name_view text found c.args.key.now d c.args.self.now.from is refl h.1,
      kept keys.To keys.Function name_view text found c.args.key.now d c.args.self.now.to is refl h.2,
      filled keys.Function points_view function found c.args.key.now d c.fill-then-is-4.new.slot x is has (list_itself point (λ d x. point d ≡ Ok x) (λ d x r. r) d x.items read),
      kept keys.Paths keys.Function (each_view path_group_view) (list_of (list_of path_at)) found c.args.key.now d c.args.self.now.path_groups is refl h.4,
      kept keys.Users keys.Function (each_view user_view) (list_of (user_at c.args.version)) found c.args.key.now d c.args.self.now.users is refl h.5,
      only (keys.Name ∷ keys.From ∷ keys.To ∷ keys.Paths ∷ keys.Users ∷ []) (keys.Function ∷ []) found c.args.key.now d (rw is refl) h.6,
    ))

pub returns-then-is-5-clause-value : goal.returns-then-is-5-clause-value
unfolding word is_one_of
returns-then-is-5-clause-value c =
    let is : c.args.key.now ≡ word keys.Paths = search rules in
    member_taken c.args.depth c.args.key.now c.args.reader.now c.fill-then-is-5.new.reader c.fill-then-is-5.result c.fill-then-is-5.new.slot (λ d pss. ListRead (λ d ps. ListRead (λ d p. path_at d ≡ Ok (path_view p)) d ps.items) d pss.items) (GroupHolds c.args.version c.args.self.now) (GroupHolds c.args.version (record c.args.self.now { path_groups = c.fill-then-is-5.new.slot })) c.fill-then-is-5.ensures.value (λ d x found has read h. (
      kept keys.Name keys.Paths name_view text found c.args.key.now d c.args.self.now.name is refl h.0,
      kept keys.From keys.Paths name_view text found c.args.key.now d c.args.self.now.from is refl h.1,
      kept keys.To keys.Paths name_view text found c.args.key.now d c.args.self.now.to is refl h.2,
      kept keys.Function keys.Paths points_view function found c.args.key.now d c.args.self.now.function is refl h.3,
      filled keys.Paths (each_view path_group_view) (list_of (list_of path_at)) found c.args.key.now d c.fill-then-is-5.new.slot x is has (list_is path_group_view (list_of path_at) (λ d ps. ListRead (λ d p. path_at d ≡ Ok (path_view p)) d ps.items) (λ d ps r. list_is path_view path_at (λ d p. path_at d ≡ Ok (path_view p)) (λ d p r. r) d ps.items r) d x.items read),
      kept keys.Users keys.Paths (each_view user_view) (list_of (user_at c.args.version)) found c.args.key.now d c.args.self.now.users is refl h.5,
      only (keys.Name ∷ keys.From ∷ keys.To ∷ keys.Paths ∷ keys.Users ∷ []) (keys.Function ∷ []) found c.args.key.now d (rw is refl) h.6,
    ))

pub returns-then-is-6-clause-value : goal.returns-then-is-6-clause-value
unfolding word is_one_of
returns-then-is-6-clause-value c =
    let is : c.args.key.now ≡ word keys.Users = search rules in
    member_taken c.args.depth c.args.key.now c.args.reader.now c.fill-then-is-6.new.reader c.fill-then-is-6.result c.fill-then-is-6.new.slot (λ d ys. ListRead (λ d y. user_at c.args.version d ≡ Ok (user_view y)) d ys.items) (GroupHolds c.args.version c.args.self.now) (GroupHolds c.args.version (record c.args.self.now { users = c.fill-then-is-6.new.slot })) c.fill-then-is-6.ensures.value (λ d x found has read h. (
      kept keys.Name keys.Users name_view text found c.args.key.now d c.args.self.now.name is refl h.0,
      kept keys.From keys.Users name_view text found c.args.key.now d c.args.self.now.from is refl h.1,
      kept keys.To keys.Users name_view text found c.args.key.now d c.args.self.now.to is refl h.2,
      kept keys.Function keys.Users points_view function found c.args.key.now d c.args.self.now.function is refl h.3,
      kept keys.Paths keys.Users (each_view path_group_view) (list_of (list_of path_at)) found c.args.key.now d c.args.self.now.path_groups is refl h.4,
      filled keys.Users (each_view user_view) (list_of (user_at c.args.version)) found c.args.key.now d c.fill-then-is-6.new.slot x is has (list_is user_view (user_at c.args.version) (λ d y. user_at c.args.version d ≡ Ok (user_view y)) (λ d y r. r) d x.items read),
      only (keys.Name ∷ keys.From ∷ keys.To ∷ keys.Paths ∷ keys.Users ∷ []) (keys.Function ∷ []) found c.args.key.now d (rw is refl) h.6,
    ))
