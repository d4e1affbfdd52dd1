use Rattle.std.proofs.Common.{◌≡◌, ◌<◌, length, slice_index, sym, ap, ◌∙◌, subst, zero-add}
use Rattle.std.proofs.lemmas.List.FromFn.{get_or-map-range_with_len, length-map-range_with_len}
use Rattle.policy_tree.specs.Trees.{value_in}
use Rattle.allocator.proofs.tops.ToppedValuesGroupValues.value.Goals as goal

-- a value for each group stands there
pub bounds-self-group : goal.bounds-self-group
bounds-self-group c =
    let tree = c.args.self.now.tree.now in
    let count : length c.args.self.now.tops.now ≡ length tree.clusters =
    ap length c.args.self.now.known
    ∙ length-map-range_with_len (λ group. value_in tree group tree.top) 0 (length tree.clusters) in
    subst (λ count. c.args.group < count) (sym count) c.requires.group

pub returns-then-share-top : goal.returns-then-share-top
returns-then-share-top c =
    let tree = c.args.self.now.tree.now in
    ap (λ tops. slice_index tops c.args.group) c.args.self.now.known
    ∙ get_or-map-range_with_len (λ group. value_in tree group tree.top) 0 (length tree.clusters) c.args.group c.args.group 0 c.requires.group (zero-add c.args.group)
    ∙ ap (value_in tree c.args.group) (sym (c.if-share-top.true ∙ c.top.ensures.top))
