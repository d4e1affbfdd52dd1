-- Items that are taken one after the other, whatever follows them.
use Rattle.std.proofs.Common.{◌≡◌, ◌<◌, List, [], ◌∷◌, ◌++◌, length, ap, ◌∙◌, subst, append_assoc, arith}
use Rattle.std.proofs.Math.ListN.{length-append}
use Rattle.json.specs.Token.{Token}
use Rattle.json.specs.Json.{after_end_array, value}
use Rattle.serde_json.specs.Data.{Data}
use Rattle.serde_json.specs.Read.{of_json, converted}
use Rattle.raw_reader.specs.Takes.{Takes}
use Rattle.raw_reader.specs.Walks.{Amid}
use Rattle.raw_reader.specs.Pieces.{ItemsTake, item_depth}
use Rattle.raw_reader.proofs.Reading.{Amid-more}
use Rattle.raw_reader.proofs.Frames.{framed, good_before}

pub all_taken : {T : Type 0} (IsRead : Data → T → Type 0) (xs ys : List T) (old between new : List Token) → ItemsTake IsRead xs old between → ItemsTake IsRead ys between new → ItemsTake IsRead (xs ++ ys) old new
all_taken IsRead xs ys old between new first second = (
  λ good. first.0 (second.0 good),
  λ more start before amid.
      subst (λ zs. Amid item_depth IsRead start zs (new ++ more)) (append_assoc before xs ys) (second.1 more start (before ++ xs) (first.1 more start before amid)),
)

-- one item, whose brace is the first token
pub one_taken : {T : Type 0} (IsRead : Data → T → Type 0) (old inside new : List Token) (x : T) → old ≡ Token.begin_object ∷ inside → Takes item_depth (Token.begin_object ∷ inside) new (λ d. IsRead d x) → length new < length inside → ItemsTake IsRead (x ∷ []) old new
one_taken IsRead old inside new x brace taken less =
    let d = taken.0 in
    let read = ap (λ ts. converted of_json (value item_depth ts)) brace ∙ taken.1 in
    let longer : length new < length old = omega (arith, ap length brace) in (
      good_before item_depth old new d read,
      λ more start before amid.
          let lesser : length (new ++ more) < length (old ++ more) = omega (arith, length-append new more, length-append old more) in
          Amid-more item_depth IsRead start before (old ++ more) (new ++ more) x d amid (ap (λ ts. after_end_array (ts ++ more)) brace) (framed item_depth old new more d read) taken.2 lesser,
    )

-- one more, behind others
pub more_taken : {T : Type 0} (IsRead : Data → T → Type 0) (xs : List T) (old now inside new : List Token) (x : T) → ItemsTake IsRead xs old now → now ≡ Token.begin_object ∷ inside → Takes item_depth (Token.begin_object ∷ inside) new (λ d. IsRead d x)
    → length new < length inside → ItemsTake IsRead (xs ++ x ∷ []) old new
more_taken IsRead xs old now inside new x before brace taken less = all_taken IsRead xs (x ∷ []) old now new before (one_taken IsRead now inside new x brace taken less)
