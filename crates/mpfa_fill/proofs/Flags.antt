-- The flags of closed links, as the code keeps and reads them.
use Rattle.std.proofs.Common.{◌≡◌, ◌==◌, Bool, true, false, ◌||◌, List, [], ◌∷◌, refl, ◌∙◌, ap, ap₂}
use Rattle.std.specs.List.{list_any}
use Rattle.bwe_specs.specs.declared.network.Closing.{Closing}
use Rattle.bwe_specs.specs.Paths.{PathGroup, uses}
use Rattle.path_groups.specs.declared.part.LinkPart.{LinkPart}
use Rattle.path_groups.specs.Parts.{AreParts}
use Rattle.path_groups.proofs.Parts.{AreParts-used}
use Rattle.mpfa_fill.specs.Closings.{is_closed}

either-way : (a b c d : Bool) → ((a || b) || (c || d)) ≡ ((a || c) || (b || d))
either-way true b c d = refl
either-way false true true d = refl
either-way false true false d = refl
either-way false false c d = refl

any-or : {X : Type 0} (p q : X → Bool) (xs : List X) → list_any (λ x. p x || q x) xs ≡ (list_any p xs || list_any q xs)
any-or p q [] = refl
any-or p q (x ∷ xs) = ap (λ b. (p x || q x) || b) (any-or p q xs) ∙ either-way (p x) (q x) (list_any p xs) (list_any q xs)

any-never : {X : Type 0} (xs : List X) → list_any (λ x. false) xs ≡ false
any-never [] = refl
any-never (x ∷ xs) = any-never xs

-- one of the parts is of a closed link where one of the closings is of a link that is used
pub closed-parts : (path_group : PathGroup) (parts : List LinkPart) (closings : List Closing) → AreParts path_group parts
    → list_any (λ part. is_closed closings part.link) parts ≡ list_any (λ closing. uses path_group closing.link) closings
closed-parts path_group parts [] are = any-never parts
closed-parts path_group parts (closing ∷ closings) are =
    any-or (λ part. part.link == closing.link) (λ part. is_closed closings part.link) parts
    ∙ ap₂ (λ a b. a || b) (AreParts-used path_group parts closing.link are) (closed-parts path_group parts closings are)
