use Rattle.std.proofs.Common.{◌++◌, ◌∷◌, [], ap₂, sym, ◌∙◌}
use Rattle.std.proofs.lemmas.List.{map_push}
use Rattle.std.proofs.lemmas.List.Elements.{All-same, All-push}
use Rattle.policy_tree.proofs.level.nodes_of.Goals as goal

pub loop-spec-preserved : goal.loop-spec-preserved
loop-spec-preserved g c =
    let before = c.loop-spec.nodes.items in
    let node = c.in_ok-node.node in
    let kept = c.loop-spec.invariant in
    record {
      idle = c.in_ok-push.ensures.items ∙ ap₂ (λ nodes node. nodes ++ node ∷ []) kept.idle c.in_ok-node.ensures.idle ∙ sym (map_push g.N.LevelNode.idle c.loop-spec.yielded c.in-Some.spec);
      are = All-same g.N.LevelNode.IsState c.push.new.self.items (before ++ node ∷ []) c.in_ok-push.ensures.items (All-push g.N.LevelNode.IsState before node kept.are c.in_ok-node.ensures.is);
    }
