-- Links that are looked at one by one.
use Rattle.std.proofs.Common.{◌≡◌, ℕ, suc, ◌+◌, ◌<◌, ◌≤◌, Bool, false, ◌||◌, cond, List, [], ◌∷◌, ◌++◌, length, map, drop, Some, None, Bor, get_or, refl, sym, ap, ◌∙◌, add-one}
use Rattle.std.specs.Prelude.{not}
use Rattle.std.specs.List.{list_any}
use Rattle.std.specs.Str.{bytes_eq}
use Rattle.std.proofs.Math.Seq.{drop-cons}
use Rattle.std.proofs.lemmas.List.{map_push, drop-map, drop_all}
use Rattle.indexmap.specs.IndexSet.{insert_key}
use Rattle.wan_topology.specs.declared.fault.TopologyFault.{TopologyFault}
use Rattle.wan_topology.specs.declared.topology.LinkSpec.{LinkSpec}
use Rattle.wan_topology.specs.Network.{Link}
use Rattle.wan_topology.specs.Faults.{link_fault, first_link_fault}
use Rattle.wan_topology.specs.Held.{link_of, links_of}
use Rattle.wan_topology.proofs.Faults.{first_link_fault-none, first_link_fault-some, first_link_fault-end, none-new}

-- the names of a set of texts
abbrev pub lent : List (Bor (List ℕ)) → List (List ℕ)
lent keys = map (λ key. key.now) keys

pub list_any-lent : (test : List ℕ → Bool) (keys : List (Bor (List ℕ))) → list_any test (lent keys) ≡ list_any (λ key. test key.now) keys
list_any-lent test [] = refl
list_any-lent test (key ∷ keys) = ap (λ later. test key.now || later) (list_any-lent test keys)

-- the links before have these names and no fault
pub record IsLookedAt (names : List (List ℕ)) (number : ℕ) (later all : List Link) : Type 0 where
  pub fault : first_link_fault names number later ≡ first_link_fault [] 0 all

pub IsLookedAt-with : (keys after : List (Bor (List ℕ))) (name : Bor (List ℕ)) (number : ℕ) (link : Link) (later all : List Link)
    → name.now ≡ link.name → after ≡ insert_key (λ x y. bytes_eq x.now y.now) keys name
    → IsLookedAt (lent keys) number (link ∷ later) all → link_fault (lent keys) number link ≡ None → IsLookedAt (lent after) (number + 1) later all
IsLookedAt-with keys after name number link later all same is looked none =
    let absent : list_any (λ key. bytes_eq name.now key.now) keys ≡ false =
    sym (list_any-lent (bytes_eq name.now) keys) ∙ ap (λ n. list_any (bytes_eq n) (lent keys)) same ∙ none-new (lent keys) number link none in
    let pushed : after ≡ keys ++ name ∷ [] = is ∙ ap (λ there. cond there keys (keys ++ name ∷ [])) absent in
    record {
      fault =
          ap (λ names. first_link_fault names (number + 1) later) (ap lent pushed ∙ map_push (λ key. key.now) keys name ∙ ap (λ n. lent keys ++ n ∷ []) same)
          ∙ ap (λ n. first_link_fault (lent keys ++ link.name ∷ []) n later) (add-one number)
          ∙ sym (first_link_fault-none (lent keys) number link later none) ∙ looked.fault;
    }

-- a name is new where no name of the set is equal to it
pub new-lent : (keys : List (Bor (List ℕ))) (name : Bor (List ℕ)) (text : List ℕ) (is_new : Bool) → name.now ≡ text → is_new ≡ not (list_any (λ key. bytes_eq name.now key.now) keys)
    → is_new ≡ not (list_any (bytes_eq text) (lent keys))
new-lent keys name text is_new same is =
    is ∙ ap (λ n. not (list_any (λ key. bytes_eq n key.now) keys)) same ∙ ap not (sym (list_any-lent (bytes_eq text) keys))

-- the links from one on are that one and those after it
pub drop-links : (specs : List LinkSpec) (number : ℕ) (spec : LinkSpec) → number < length specs → spec ≡ get_or specs number spec
    → drop number (links_of specs) ≡ link_of spec ∷ drop (number + 1) (links_of specs)
drop-links specs number spec within is =
    drop-map link_of number specs ∙ ap (map link_of) (drop-cons specs number spec within)
    ∙ ap (λ first. link_of first ∷ map link_of (drop (suc number) specs)) (sym is)
    ∙ ap (λ later. link_of spec ∷ later) (sym (drop-map link_of (suc number) specs)) ∙ ap (λ n. link_of spec ∷ drop n (links_of specs)) (sym (add-one number))

-- the fault of a link after which none was looked at is the first
pub IsLookedAt-found : (names : List (List ℕ)) (number : ℕ) (link : Link) (later all : List Link) (fault : TopologyFault)
    → IsLookedAt names number (link ∷ later) all → link_fault names number link ≡ Some fault → first_link_fault [] 0 all ≡ Some fault
IsLookedAt-found names number link later all fault looked some =
    sym looked.fault ∙ first_link_fault-some names number link later fault some

pub IsLookedAt-end : (names : List (List ℕ)) (number : ℕ) (all : List Link) → length all ≤ number → IsLookedAt names number (drop number all) all → first_link_fault [] 0 all ≡ None
IsLookedAt-end names number all end looked =
    sym looked.fault ∙ ap (first_link_fault names number) (drop_all number all end) ∙ first_link_fault-end names number
