use Rattle.mpfa_fill.specs.Moment.{wan_in, state_of}
use Rattle.mpfa_solver.proofs.jumps.advanced.Given as goal

-- the search is named by the moment that it begins with
abbrev pub ghosts-risen : goal.ghosts-risen
ghosts-risen g a = record {
  wan = wan_in g.V.GroupValues.meaning a.moment;
  closings = (state_of a.moment).closings;
  low = (state_of a.moment).share;
}
