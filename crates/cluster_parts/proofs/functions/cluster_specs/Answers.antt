use Rattle.std.proofs.Common.{map}
use Rattle.raw_document.specs.declared.key.DocKey.TheVariants as keys
use Rattle.raw_document.specs.declared.doc_path.PathStep.TheVariants.{Key}
use Rattle.raw_document.specs.Reading.{each_view}
use Rattle.raw_document.specs.Raw.{group_view}
use Rattle.cluster_parts.specs.Functions.{refused_in_group, first_refused}
use Rattle.cluster_parts.specs.TreeParts.{cluster_part}
use Rattle.tree_spec.specs.Asked.{idle_cluster}
use Rattle.cluster_parts.proofs.Buildings.{under_builds}
use Rattle.cluster_parts.proofs.functions.cluster_specs.Goals as goal

pub returns : goal.returns
returns c = under_builds (each_view idle_cluster) (Key keys.Groups) (first_refused (refused_in_group c.args.top) 0 (map group_view c.args.groups.now)) (map (cluster_part c.args.top) (map group_view c.args.groups.now)) c.each_cluster_spec.result c.under.result c.each_cluster_spec.ensures c.under.ensures
