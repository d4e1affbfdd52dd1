use Rattle.top_call.proofs.WhatRan.{what-ran-is-found-legal}
use Rattle.top_call.proofs.laws.what_ran_is_found_legal.Goals as goal

pub returns : goal.returns
returns g c = what-ran-is-found-legal _ _ _ _
