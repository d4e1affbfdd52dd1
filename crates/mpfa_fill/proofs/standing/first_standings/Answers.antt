use Rattle.std.proofs.Common.{◌≡◌, ℕ, List, [], ◌∷◌, ◌++◌, sym, ◌∙◌, ap, ap₂, arith, slice_index_or, Option}
use Rattle.std.proofs.lemmas.List.FromFn.{map-range_with_len_more}
use Rattle.bwe_specs.specs.declared.network.Closing.{Closing}
use Rattle.bwe_specs.specs.Paths.{current_path_group}
use Rattle.bwe_specs.specs.Filling.{closed_links}
use Rattle.mpfa_fill.specs.declared.standing.Standing.{Standing}
use Rattle.mpfa_fill.specs.Standing.{standing_of}
use Rattle.mpfa_fill.proofs.standing.first_standings.Goals as goal

pub loop-group-preserved : goal.loop-group-preserved
loop-group-preserved c =
    let standing : ℕ → Standing = λ group. standing_of (current_path_group (slice_index_or c.args.plan.now group []) []) 0 0 in
    let found : c.standing_on.result ≡ standing c.loop-group.group = c.standing_on.ensures ∙ ap (λ (o : Option ℕ). standing_of o 0 0) c.current_path_group.ensures
    ∙ ap (λ (cs : List Closing). standing_of (current_path_group (slice_index_or c.args.plan.now c.loop-group.group []) (closed_links cs)) 0 0) c.requires in
    c.in_ok-push.ensures.items ∙ ap₂ (λ (xs : List Standing) (x : Standing). xs ++ x ∷ []) c.loop-group.invariant found
    ∙ sym (map-range_with_len_more standing 0 c.loop-group.group c.loop-group.group (omega arith))
