use Rattle.std.proofs.Common.{◌≡◌, length}
use Rattle.crew.proofs.running.run_crew.Given as goal

-- the tables of the maker's plan
abbrev pub ghosts-run_profiled : goal.ghosts-run_profiled
ghosts-run_profiled g a = record {
  belongs = λ reports table. table ≡ g.M.Maker.table_of (g.M.Maker.plan a.maker) reports;
  reporters = length a.scripts.now;
  tasks = g.M.Maker.plan_tasks (g.M.Maker.plan a.maker);
  links = g.M.Maker.plan_links (g.M.Maker.plan a.maker);
}
