-- The parts of links, added one by one.
use Rattle.std.proofs.Common.{◌≡◌, ℕ, zero, suc, ◌<◌, ◌≤◌, Bool, true, false, ◌||◌, ◌==◌, List, [], ◌∷◌, ◌++◌, length, map, refl, sym, ◌∙◌, ap, ap₂, ◌*◌, arith, le_refl, zero-le, if◌then◌else◌, sum_by, get_or, nat_eq, eqb-true}
use Rattle.std.specs.Prelude.{All}
use Rattle.std.specs.List.{list_any, IsDistinct}
use Rattle.std.specs.Cmp.{nat_eq_equiv}
use Rattle.std.proofs.lemmas.List.{map_push}
use Rattle.std.proofs.lemmas.List.Elements.{All-push}
use Rattle.std.proofs.lemmas.List.Folds.{list_any-append}
use Rattle.std.proofs.lemmas.List.Sums.{sum_by-le-sum_by}
use Rattle.std.proofs.lemmas.Map.Keys.{IsDistinct-push}
use Rattle.bwe_specs.specs.Paths.{PathGroup, goes_over, uses, weight_of, weight_over, load_on}
use Rattle.bwe_specs.proofs.Lists.{sum_by-map}
use Rattle.bwe_specs.proofs.Loads.{weight_over-le}
use Rattle.std.specs.Int.{div_ceil}
use Rattle.bwe_specs.specs.declared.given.PathSpec.{PathSpec}
use Rattle.path_groups.specs.declared.part.LinkPart.{LinkPart}
use Rattle.bwe_specs.specs.Given.{path_of, weight_on}
use Rattle.path_groups.specs.Parts.{IsPart, IsPartOf, IsPartOn, has_part, AreSomeParts, AreParts, HasPartToo}

-- ---- the weights, over the paths as the code has them

pub weight_of-read : (paths : List PathSpec) → weight_of (map path_of paths) ≡ sum_by (λ path. path.weight) paths
unfolding weight_of
weight_of-read paths = sum_by-map (λ path. path.weight) path_of paths

pub weight_over-read : (paths : List PathSpec) (link : ℕ) → weight_over (map path_of paths) link ≡ sum_by (weight_on link) paths
unfolding weight_over
weight_over-read paths link = sum_by-map (λ path. if goes_over link path then path.weight else 0) path_of paths

weight_on-le : (link : ℕ) (spec : PathSpec) → weight_on link spec ≤ spec.weight
weight_on-le link spec = go (goes_over link (path_of spec)) where
  go : (b : Bool) → (if b then spec.weight else 0) ≤ spec.weight
  go true = le_refl spec.weight
  go false = zero-le

-- the paths over a link weigh at most as much as all
pub weights_over-le : (paths : List PathSpec) (link : ℕ) → sum_by (weight_on link) paths ≤ sum_by (λ path. path.weight) paths
weights_over-le paths link = sum_by-le-sum_by (weight_on link) (λ path. path.weight) paths (weight_on-le link)

-- ---- the parts so far

or-left : (a b : Bool) → a ≡ true → (a || b) ≡ true
or-left a b e = rw e

or-right : (a b : Bool) → b ≡ true → (a || b) ≡ true
or-right true b e = refl
or-right false b e = e

or-cases : {P : Type 0} (a b : Bool) → (a || b) ≡ true → (a ≡ true → P) → (b ≡ true → P) → P
or-cases true b e left right = left refl
or-cases false b e left right = right e

same : (n : ℕ) → (n == n) ≡ true
same n = nat_eq_equiv.refl n

-- a link that has a part
pub HasPartToo-there : (path_group : PathGroup) (parts : List LinkPart) (link : ℕ) → has_part parts link ≡ true → HasPartToo path_group parts parts link
HasPartToo-there path_group parts link there = record { some = λ are. are; keeps = λ other had. had; has = there }

has_part-links : (parts : List LinkPart) (link : ℕ) → list_any (nat_eq link) (map (λ part. part.link) parts) ≡ has_part parts link
has_part-links [] link = refl
has_part-links (part ∷ parts) link = ap (λ b. b || list_any (nat_eq link) (map (λ other. other.link) parts)) (nat_eq_equiv.symm link part.link) ∙ ap (λ b. part.link == link || b) (has_part-links parts link)

-- a link that gets its part
pub HasPartToo-push : (path_group : PathGroup) (parts : List LinkPart) (part : LinkPart) → has_part parts part.link ≡ false → IsPartOf path_group part
    → HasPartToo path_group parts (parts ++ part ∷ []) part.link
HasPartToo-push path_group parts part new is = record {
  some = λ are. record {
    each = All-push (IsPartOf path_group) parts part are.each is;
    once = rw (map_push (λ other. other.link) parts part) (IsDistinct-push nat_eq_equiv (map (λ other. other.link) parts) part.link are.once (has_part-links parts part.link ∙ new));
  };
  keeps = λ other had. list_any-append (λ p. p.link == other) parts (part ∷ []) ∙ or-left (has_part parts other) (part.link == other || false) had;
  has = list_any-append (λ p. p.link == part.link) parts (part ∷ []) ∙ or-right (has_part parts part.link) (part.link == part.link || false) (or-left (part.link == part.link) false (same part.link));
}

-- the links of these paths, and these further links, have their parts
pub record IsUnderWay (path_group : PathGroup) (parts : List LinkPart) (paths : List PathSpec) (links : List ℕ) : Type 0 where
  pub some : AreSomeParts path_group parts
  pub of_paths : (link : ℕ) → uses (map path_of paths) link ≡ true → has_part parts link ≡ true
  pub of_links : (link : ℕ) → list_any (λ other. other == link) links ≡ true → has_part parts link ≡ true

pub IsUnderWay-start : (path_group : PathGroup) → IsUnderWay path_group [] [] []
unfolding uses IsDistinct
IsUnderWay-start path_group = record {
  some = record { each = λ k d lt. absurd (omega arith); once = tt };
  of_paths = λ link never. absurd (cc);
  of_links = λ link never. absurd (cc);
}

-- one link more
pub IsUnderWay-link : (path_group : PathGroup) (parts more : List LinkPart) (paths : List PathSpec) (links : List ℕ) (link : ℕ) → IsUnderWay path_group parts paths links → HasPartToo path_group parts more link
    → IsUnderWay path_group more paths (links ++ link ∷ [])
IsUnderWay-link path_group parts more paths links link under too = record {
  some = too.some under.some;
  of_paths = λ other used. too.keeps other (under.of_paths other used);
  of_links = λ other among. or-cases (list_any (λ l. l == other) links) (link == other || false) (sym (list_any-append (λ l. l == other) links (link ∷ [])) ∙ among)
      (λ before. too.keeps other (under.of_links other before))
      (λ now. or-cases (link == other) false now (λ is. ap (has_part more) (sym (eqb-true link other is)) ∙ too.has) (λ never. absurd (cc)));
}

-- all links of one path more
pub IsUnderWay-path : (path_group : PathGroup) (parts : List LinkPart) (paths : List PathSpec) (path : PathSpec) → IsUnderWay path_group parts paths path.links.items
    → IsUnderWay path_group parts (paths ++ path ∷ []) []
unfolding uses
IsUnderWay-path path_group parts paths path under = record {
  some = under.some;
  of_paths = λ link used.
      let split : (list_any (goes_over link) (map path_of paths) || (goes_over link (path_of path) || false)) ≡ true =
      sym (list_any-append (goes_over link) (map path_of paths) (path_of path ∷ [])) ∙ ap (list_any (goes_over link)) (sym (map_push path_of paths path)) ∙ used in
      or-cases (list_any (goes_over link) (map path_of paths)) (goes_over link (path_of path) || false) split (under.of_paths link)
      (λ now. or-cases (goes_over link (path_of path)) false now (under.of_links link) (λ never. absurd (cc)));
  of_links = λ link never. absurd (cc);
}

-- where all paths are done, these are the parts
pub IsUnderWay-end : (parts : List LinkPart) (paths : List PathSpec) → IsUnderWay (map path_of paths) parts paths [] → AreParts (map path_of paths) parts
IsUnderWay-end parts paths under = record { some = under.some; every_link = under.of_paths }

-- a link of one of the paths is used
pub uses-of : (paths : List PathSpec) (i j : ℕ) (path : PathSpec) → i < length paths → path ≡ get_or paths i path → j < length path.links.items → uses (map path_of paths) (get_or path.links.items j 0) ≡ true
unfolding uses
uses-of [] i j path lt is within = absurd (omega arith)
uses-of (first ∷ later) zero j path lt is within =
    or-left (goes_over (get_or path.links.items j 0) (path_of first)) (list_any (goes_over (get_or path.links.items j 0)) (map path_of later))
    (ap (λ p. goes_over (get_or path.links.items j 0) (path_of p)) (sym is) ∙ among path.links.items j within) where
      among : (links : List ℕ) (n : ℕ) → n < length links → list_any (λ other. other == get_or links n 0) links ≡ true
      among [] n lt' = absurd (omega arith)
      among (link ∷ rest) zero lt' = or-left (link == link) (list_any (λ other. other == link) rest) (same link)
      among (link ∷ rest) (suc n) lt' = or-right (link == get_or rest n 0) (list_any (λ other. other == get_or rest n 0) rest) (among rest n (omega arith))
uses-of (first ∷ later) (suc i) j path lt is within =
    or-right (goes_over (get_or path.links.items j 0) (path_of first)) (list_any (goes_over (get_or path.links.items j 0)) (map path_of later)) (uses-of later i j path (omega arith) is within)

-- ---- what the parts say of the path group

-- the parts of a path group with a weight have theirs
pub AreParts-each : (path_group : PathGroup) (parts : List LinkPart) → 1 ≤ weight_of path_group → weight_of path_group ≤ 16_000 → AreParts path_group parts → All IsPart parts
AreParts-each path_group parts weighs light are k d lt =
    let part = are.some.each k d lt in
    record {
      weighs = omega (arith, part.whole, weighs);
      is_light = omega (arith, part.whole, light);
      within = omega (arith, part.whole, part.weight, weight_over-le path_group (get_or parts k d).link);
    }

-- a link with a part is used
pub AreParts-used : (path_group : PathGroup) (parts : List LinkPart) (link : ℕ) → AreParts path_group parts → has_part parts link ≡ uses path_group link
AreParts-used path_group parts link are = go (has_part parts link) refl (uses path_group link) refl where
  found : (parts' : List LinkPart) → All (IsPartOf path_group) parts' → has_part parts' link ≡ true → uses path_group link ≡ true
  found [] each there = absurd (cc)
  found (part ∷ later) each there =
      or-cases (part.link == link) (has_part later link) there
      (λ is. ap (uses path_group) (sym (eqb-true part.link link is)) ∙ (each 0 part (omega arith)).used)
      (found later (λ k d lt. each (suc k) d (omega arith)))

  go : (there : Bool) → has_part parts link ≡ there → (used : Bool) → uses path_group link ≡ used → has_part parts link ≡ uses path_group link
  go true e used f = e ∙ sym (found parts are.some.each e)
  go false e true f = absurd (let wrong = are.every_link link f in cc)
  go false e false f = e ∙ sym f

-- the load on a link by its part
pub IsPartOf-load : (path_group : PathGroup) (part : LinkPart) (amount : ℕ) → IsPartOf path_group part → div_ceil (amount * part.weight) part.whole ≡ load_on path_group part.link amount
unfolding load_on
IsPartOf-load path_group part amount is = ap₂ (λ weight whole. div_ceil (amount * weight) whole) is.weight is.whole

-- the load on this link by its part
pub IsPartOn-load : (path_group : PathGroup) (link amount : ℕ) (part : LinkPart) → IsPartOn path_group link part → div_ceil (amount * part.weight) part.whole ≡ load_on path_group link amount
IsPartOn-load path_group link amount part is = IsPartOf-load path_group part amount is.of ∙ ap (λ l. load_on path_group l amount) is.on
