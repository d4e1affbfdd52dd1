use Rattle.std.proofs.Common.{◌≡◌, ℕ, ◌==◌, false, ne_eqb, Ok, refl, sym, ap, ◌∙◌}
use Rattle.raw_document.specs.declared.raw.RawTarget.{RawTarget}
use Rattle.raw_document.specs.Raw.{report_view}
use Rattle.raw_document.specs.Shape.{optional, has_only}
use Rattle.raw_document.specs.Forms.{report_at}
use Rattle.raw_reader.proofs.Shapes.{demand_is, capacity_is}
use Rattle.raw_reader.proofs.entries.RawReportItem.read_behind_brace.Goals.{in-Some-Some-None-None, in-None-None-Some-Some}
use Rattle.raw_reader.proofs.entries.RawReportItem.read_behind_brace.Goals as goal

pub fill_members-requires : goal.fill_members-requires
unfolding optional has_only
fill_members-requires c κs = ((refl, tt), ((refl, refl, refl, refl, refl, λ e g. refl, λ e g. refl), c.requires))

pub returns-clause-value : goal.returns-clause-value
returns-clause-value c =
    let taken = c.in_ok-fill_members.ensures.value in
    let s = c.fill_members.new.slots in
    let reporter = c.in_ok-slots in
    let built = λ (p : RawTarget × ℕ). Ok (report_view (record { reporter = reporter.field-0; target = p.0; amount = p.1 })) in (
      taken.0,
      taken.1,
      ap (report_at c.args.version) taken.2.1
          ∙ (elim c.match-slots.branch [
            | in-Some-Some-None-None w ↦
                let a = w.in-Some-Some-None-None in
                demand_is c.args.version taken.2.0 s reporter.field-0 a.task a.demand reporter.was a.is-0 a.is-1 a.is-2 a.is-3 taken.2.2 ∙ ap built (sym w.amount-is)
            | in-None-None-Some-Some w ↦
                let a = w.in-None-None-Some-Some in
                let later : (c.args.version == 1) ≡ false = ne_eqb c.args.version 1 w.if-version-ne1.true in
                capacity_is c.args.version taken.2.0 s reporter.field-0 a.link a.capacity reporter.was a.is-0 a.is-1 a.is-2 a.is-3 later taken.2.2 ∙ ap built (sym w.amount-is)
          ]),
    )
