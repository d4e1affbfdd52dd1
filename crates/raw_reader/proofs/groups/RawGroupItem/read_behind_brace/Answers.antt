use Rattle.std.proofs.Common.{refl, ap, ◌∙◌}
use Rattle.raw_document.specs.Shape.{optional, has_only}
use Rattle.raw_document.specs.Forms.{group_at}
use Rattle.raw_reader.proofs.Shapes.{group_is}
use Rattle.raw_reader.proofs.groups.RawGroupItem.read_behind_brace.Goals as goal

pub fill_members-requires : goal.fill_members-requires
unfolding optional has_only
fill_members-requires c κs = ((refl, tt), ((refl, refl, refl, refl, refl, refl, refl), c.requires))

pub returns-in-Some-Some-Some-Some-Some-clause-value : goal.returns-in-Some-Some-Some-Some-Some-clause-value
returns-in-Some-Some-Some-Some-Some-clause-value c =
    let taken = c.in_ok-fill_members.ensures.value in
    let s = c.fill_members.new.slots in
    let all = c.in-Some-Some-Some-Some-Some in
    (taken.0, taken.1, ap (group_at c.args.version) taken.2.1 ∙ group_is c.args.version taken.2.0 s all.name all.from all.to all.path_groups all.users all.is-0 all.is-1 all.is-2 all.is-3 all.is-4 taken.2.2)
