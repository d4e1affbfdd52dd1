-- What is gathered of a raw document before it is let go, and what of the definition is left then.
use Rattle.std.specs.Prelude.{◌≡◌, ◌<◌, ◌^◌, map, None, Result, Ok, Err, IsTrue}
use Rattle.wan_topology.specs.Network.{network_of}
use Rattle.tree_spec.specs.Asked.{idle_cluster}
use Rattle.raw_document.specs.Reading.{each_view}
use Rattle.raw_document.specs.Raw.{Raw}
use Rattle.doc_names.specs.NameTexts.{NameTexts, texts_of}
use Rattle.doc_passes.specs.Counts.{node_count}
use Rattle.doc_passes.specs.Numbers.{Numbers}
use Rattle.doc_passes.specs.NumbersView.{numbers_view}
use Rattle.doc_passes.specs.Passed.{HasPassed}
use Rattle.doc_refusals.specs.declared.doc_error.DocError.{DocError}
use Rattle.doc_parts.specs.declared.gathered.Named.{Named}
use Rattle.doc_parts.specs.declared.gathered.TreeParts.{TreeParts}
use Rattle.doc_parts.specs.declared.gathered.Built.{Built}
use Rattle.doc_parts.specs.declared.gathered.Gathered.{Gathered}
use Rattle.cluster_parts.specs.Functions.{refused_in_groups}
use Rattle.cluster_parts.specs.TreeParts.{cluster_part}
use Rattle.cluster_parts.specs.Childless.{has_childless}
use Rattle.doc_refusals.specs.Refusals.{Refusal}
use Rattle.doc_parts.specs.Document.{Accepted, document_by, document_of_raw, links_of, network_fault}
use Rattle.doc_parts.specs.Passing.{NamesRefusal}

-- the document has passed the refusals 3 to 6, and of the answer the refusals 7 to 11 are left
pub record IsNamed (raw : Raw) (read : Result Accepted Refusal) (named : Named) : Type 0 where
  pub passed : HasPassed raw (texts_of named.names) (numbers_view named.numbers)
  pub left : read ≡ document_by raw (texts_of named.names) (numbers_view named.numbers)

-- names and numbers, or the refusal
abbrev pub LeavesNames : Raw → Result Named DocError → Result Accepted Refusal → Type 0
LeavesNames raw (Ok named) read = IsNamed raw read named
LeavesNames raw (Err error) read = NamesRefusal read error

-- the tree's clusters are those of the document, and what is asked of its groups is answered
pub record AreTreeParts (raw : Raw) (parts : TreeParts) : Type 0 where
  pub top : parts.spec.top ≡ raw.top
  pub clusters : each_view idle_cluster parts.spec.clusters ≡ map (cluster_part raw.top) raw.groups
  pub childless : parts.childless ≡ has_childless raw.groups
  pub numbered : IsTrue parts.numbered → node_count raw.groups < 2 ^ 32

-- no function and no link is refused, and both parts are those of the document
pub record AreBuiltOf (raw : Raw) (built : Built) : Type 0 where
  pub functions : refused_in_groups raw.top raw.groups ≡ None
  pub tree : AreTreeParts raw built.tree
  pub links : network_fault raw ≡ None
  pub topology : built.topology ≡ network_of (links_of raw)

-- the parts, or the refusal, which is the same whatever names and numbers are
abbrev pub BuildsParts : Raw → Result Built DocError → Type 0
BuildsParts raw (Ok built) = AreBuiltOf raw built
BuildsParts raw (Err error) =
    (names : NameTexts) (numbers : Numbers) → NamesRefusal (document_by raw names numbers) error

-- all of the document that the refusals 9 to 11 and its parts need
pub record IsGathered (raw : Raw) (gathered : Gathered) : Type 0 where
  pub version : gathered.version ≡ raw.version
  pub names : IsNamed raw (document_of_raw raw) gathered.named
  pub parts : AreBuiltOf raw gathered.built

-- What was gathered is of a raw document of which the definition answers the same, unless there is
-- a refusal.
abbrev pub Gathers : Result Gathered DocError → Result Accepted Refusal → Type 0
Gathers (Ok gathered) read = (raw : Raw) × (read ≡ document_of_raw raw) × IsGathered raw gathered
Gathers (Err error) read = NamesRefusal read error
