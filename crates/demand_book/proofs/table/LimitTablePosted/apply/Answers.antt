use Rattle.std.proofs.Common.{sym, ◌∙◌, subst}
use Rattle.demand_book.specs.TableChanges.{Change, Leads}
use Rattle.demand_book.proofs.Followed.{change-leads}
use Rattle.demand_book.proofs.table.LimitTablePosted.apply.Goals as goal

pub returns-clause-written : goal.returns-clause-written
returns-clause-written c =
    let later = c.requires.leads.0 in
    c.write_to.ensures later (subst (λ (change : Change). Leads c.args.self.now change later) (sym c.in_ok-copied.ensures) c.requires.leads.1)
    ∙ sym (change-leads c.args.self.now c.args.change.now later c.requires.leads.1)
