use Rattle.std.proofs.Common.{◌++◌, filter_map, ◌∙◌, ap₂}
use Rattle.last_reports.proofs.Putting.{both, given-snapshot}
use Rattle.last_reports.proofs.kept.LastReports.reports.Goals as goal

pub returns : goal.returns
returns c = λ tasks links reports is.
    c.in_ok-push_told-2.ensures
    ∙ ap₂ (λ xs told. xs ++ filter_map (λ last. last) told)
    (c.in_ok-push_told.ensures ∙ ap₂ (λ xs told. xs ++ filter_map (λ last. last) told) c.new-list.ensures.items c.deref.ensures.value)
    c.deref-2.ensures.value
    ∙ given-snapshot tasks links reports (both c.self.inside.tasks.items c.self.inside.links.items) (c.self.view_is ∙ is)
