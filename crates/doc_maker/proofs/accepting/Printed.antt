-- A value without floats that is printed as compact text is read back from it.
use Rattle.std.proofs.Common.{◌≡◌, ℕ, suc, ◌^◌, ◌<◌, ◌≤◌, Bool, true, false, List, [], ◌∷◌, ◌++◌, map, Option, Some, option_map, option_and_then, IsUtf8, decimal, refl, sym, ap, subst, ◌∙◌, arith, append-nil, append_assoc}
use Rattle.std.specs.Prelude.{All, ◌&&◌}
use Rattle.std.proofs.lemmas.Bool.{and_parts}
use Rattle.std.proofs.lemmas.Fmt.{IsAscii-decimal}
use Rattle.std.proofs.lemmas.List.Elements.{All-head, All-tail}
use Rattle.std.proofs.lemmas.Str.{IsUtf8-append, IsUtf8-nil, IsUtf8-from_ascii}
use Rattle.json.specs.Token.{Token}
use Rattle.json.specs.Json as json
use Rattle.json.specs.Lex.{tokens}
use Rattle.json.specs.Print.{quoted}
use Rattle.json.specs.Tree as tree
use Rattle.json.proofs.Printed.Decimals.{IsNumber-decimal}
use Rattle.json.proofs.Printed.Tokens.{tokens-print}
use Rattle.json.proofs.Printed.Trees.{value-json_tokens, ArePrintable-json_tokens}
use Rattle.json.proofs.Printed.Utf8.{are_ascii, IsUtf8-are_ascii, IsUtf8-quoted, IsUtf8-key}
use Rattle.serde_json.specs.Data.{Data, string, array, object, Items, no_items, item, Members, no_members, member, put}
use Rattle.serde_json.specs.Read.{of_json, of_items, of_members, max_depth}
use Rattle.serde_json.specs.View.{items_of}
use Rattle.serde_json.specs.Written.{outline, items_outline, members_outline, compact_text, items_text, members_text, comma_if}
use Rattle.serde_json.proofs.Numbers.{number_of-decimal}
use Rattle.serde_json.proofs.Texts.{print-outline}
use Rattle.raw_document.specs.Json as bytes
use Rattle.raw_document.proofs.JsonReading.{json_read}
use Rattle.doc_maker.specs.Layout.{whole_value, list_value}

-- the value is read back from its outline, and its text is right; so many levels are enough for it
pub record IsPrinted (levels : ℕ) (d : Data) : Type 0 where
  pub reads : of_json (outline d) ≡ Some d
  pub numbers : tree.HasNumbers (outline d)
  pub shallow : tree.depth (outline d) ≤ levels
  pub utf8 : IsUtf8 (compact_text d)

record AreItems (levels : ℕ) (ds : Items) : Type 0 where
  reads : of_items (items_outline ds) ≡ Some ds
  numbers : tree.ItemsHaveNumbers (items_outline ds)
  shallow : tree.items_depth (items_outline ds) ≤ levels
  utf8 : (later : Bool) → IsUtf8 (items_text later ds)

-- members that are read behind those found make all
record AreMembers (levels : ℕ) (found ms all : Members) : Type 0 where
  reads : of_members (members_outline ms) found ≡ Some all
  numbers : tree.MembersHaveNumbers (members_outline ms)
  shallow : tree.members_depth (members_outline ms) ≤ levels
  utf8 : (later : Bool) → IsUtf8 (members_text later ms)

IsUtf8-comma : (later : Bool) → IsUtf8 (comma_if later)
IsUtf8-comma true = IsUtf8-are_ascii (44 ∷ []) refl
IsUtf8-comma false = IsUtf8-nil

-- ---- numbers and texts

pub whole_printed : {levels : ℕ} (n : ℕ) → n < 2 ^ 64 → IsPrinted levels (whole_value n)
whole_printed n small = record {
  reads = rw (number_of-decimal n small) refl;
  numbers = IsNumber-decimal n small;
  shallow = omega arith;
  utf8 = IsUtf8-from_ascii (decimal n) (IsAscii-decimal n small);
}

pub text_printed : {levels : ℕ} (text : List ℕ) → IsUtf8 text → IsPrinted levels (string text)
text_printed text utf8 = record { reads = refl; numbers = tt; shallow = omega arith; utf8 = IsUtf8-quoted text utf8 }

-- ---- lists

-- each item is printed
abbrev pub EachItem : ℕ → Items → Type 0
EachItem levels no_items = Unit {0}
EachItem levels (item d ds) = IsPrinted levels d × EachItem levels ds

items_printed : (levels : ℕ) (ds : Items) → EachItem levels ds → AreItems levels ds
items_printed levels no_items each = record { reads = refl; numbers = tt; shallow = omega arith; utf8 = λ later. IsUtf8-are_ascii (93 ∷ []) refl }
items_printed levels (item d ds) each =
    let here = each.0 in
    let later = items_printed levels ds each.1 in
    record {
      reads = rw (here.reads, later.reads) refl;
      numbers = (here.numbers, later.numbers);
      shallow = let first = here.shallow in let rest = later.shallow in omega arith;
      utf8 = λ comma. IsUtf8-append (comma_if comma) (compact_text d ++ items_text true ds) (IsUtf8-comma comma) (IsUtf8-append (compact_text d) (items_text true ds) here.utf8 (later.utf8 true));
    }

pub array_printed : {levels : ℕ} (ds : Items) → EachItem levels ds → IsPrinted (suc levels) (array ds)
array_printed {levels = levels} ds each =
    let items = items_printed levels ds each in
    record {
      reads = rw items.reads refl;
      numbers = items.numbers;
      shallow = let deep = items.shallow in omega arith;
      utf8 = IsUtf8-append (91 ∷ []) (items_text false ds) (IsUtf8-are_ascii (91 ∷ []) refl) (items.utf8 false);
    }

each_mapped_item : {X A : Type 0} (levels : ℕ) (value : A → Data) (make : X → A) (P : X → Type 0) → ((x : X) → P x → IsPrinted levels (value (make x)))
    → (xs : List X) → All P xs → EachItem levels (items_of (map value (map make xs)))
each_mapped_item levels value make P printed [] known = tt
each_mapped_item levels value make P printed (x ∷ xs) known = (printed x (All-head P x xs known), each_mapped_item levels value make P printed xs (All-tail P x xs known))

pub list_printed : {X A : Type 0} {levels : ℕ} (value : A → Data) (make : X → A) (P : X → Type 0) → ((x : X) → P x → IsPrinted levels (value (make x)))
    → (xs : List X) → All P xs → IsPrinted (suc levels) (list_value value (map make xs))
list_printed {levels = levels} value make P printed xs known = array_printed (items_of (map value (map make xs))) (each_mapped_item levels value make P printed xs known)

-- ---- objects

-- each member is printed
abbrev pub EachMember : ℕ → Members → Type 0
EachMember levels no_members = Unit {0}
EachMember levels (member key d ms) = IsPrinted levels d × EachMember levels ms

-- the members, put one by one to those found
abbrev pub put_all : Members → Members → Members
put_all no_members found = found
put_all (member key d ms) found = put_all ms (put key d found)

abbrev pub ascii_keys : Members → Bool
ascii_keys no_members = true
ascii_keys (member key d ms) = are_ascii key && ascii_keys ms

members_printed : (levels : ℕ) (ms found : Members) → ascii_keys ms ≡ true → EachMember levels ms → AreMembers levels found ms (put_all ms found)
members_printed levels no_members found ascii each = record { reads = refl; numbers = tt; shallow = omega arith; utf8 = λ later. IsUtf8-are_ascii (125 ∷ []) refl }
members_printed levels (member key d ms) found ascii each =
    let here = each.0 in
    let plain = and_parts (are_ascii key) (ascii_keys ms) ascii in
    let later = members_printed levels ms (put key d found) plain.1 each.1 in
    record {
      reads = rw here.reads later.reads;
      numbers = (here.numbers, later.numbers);
      shallow = let first = here.shallow in let rest = later.shallow in omega arith;
      utf8 = λ comma. IsUtf8-append (comma_if comma) (quoted key ++ 58 ∷ (compact_text d ++ members_text true ms)) (IsUtf8-comma comma)
          (subst IsUtf8 (append_assoc (quoted key) (58 ∷ []) (compact_text d ++ members_text true ms))
          (IsUtf8-append (quoted key ++ 58 ∷ []) (compact_text d ++ members_text true ms) (IsUtf8-key key (IsUtf8-are_ascii key plain.0))
          (IsUtf8-append (compact_text d) (members_text true ms) here.utf8 (later.utf8 true))));
    }

-- an object whose keys are plain, and stand in their order
pub object_printed : {levels : ℕ} (ms : Members) → put_all ms no_members ≡ ms → ascii_keys ms ≡ true → EachMember levels ms → IsPrinted (suc levels) (object ms)
object_printed {levels = levels} ms ordered ascii each =
    let printed = members_printed levels ms no_members ascii each in
    record {
      reads = ap (option_map object) (printed.reads ∙ ap Some ordered);
      numbers = printed.numbers;
      shallow = let deep = printed.shallow in omega arith;
      utf8 = IsUtf8-append (123 ∷ []) (members_text false ms) (IsUtf8-are_ascii (123 ∷ []) refl) (printed.utf8 false);
    }

-- ---- the text

-- what a text is read as, by its first value and the tokens behind it
abbrev whole : Option (json.Json × List Token) → Option Data
whole found = option_and_then of_json (option_and_then (λ p. json.if_last p.0 p.1) found)

tokens_back : (levels : ℕ) (d : Data) → IsPrinted levels d → tokens (compact_text d) ≡ tree.json_tokens (outline d)
tokens_back levels d printed = ap tokens (sym (print-outline d)) ∙ tokens-print (tree.json_tokens (outline d)) (ArePrintable-json_tokens (outline d) printed.numbers)

pub json_back : (levels : ℕ) (d : Data) → levels ≤ max_depth → IsPrinted levels d → bytes.json (compact_text d) ≡ Some d
json_back levels d few printed =
    let deep = printed.shallow in
    json_read (compact_text d) d printed.utf8
    (ap whole (ap (json.value max_depth) (tokens_back levels d printed ∙ sym (append-nil (tree.json_tokens (outline d)))) ∙ value-json_tokens (outline d) max_depth [] (omega arith)) ∙ printed.reads)
