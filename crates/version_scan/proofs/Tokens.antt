-- What the first token says of the value that it begins.
use Rattle.std.proofs.Common.{◌≡◌, ℕ, ◌-◌, ◌<◌, List, [], ◌∷◌, Option, Some, None, option_map, Bool, true, false, refl, sym, ap, ◌∙◌, arith}
use Rattle.std.specs.Prelude.{IfSome, IsNone, MatchOption, is_none, length, nat_lt}
use Rattle.std.proofs.lemmas.Bool.{ltb-true, ltb-false}
use Rattle.json.specs.Token.{Token}
use Rattle.json.specs.Json as json
use Rattle.json.specs.Json.{parse_map, items, members, value}
use Rattle.json.proofs.Grammar.{value_is, value-begin_array, value-begin_object}
use Rattle.serde_json.specs.Data.{Data, Num, null, boolean, number, string, array, object, Items}
use Rattle.serde_json.specs.Find.{as_u64}
use Rattle.serde_json.specs.Read as spec
use Rattle.serde_json.specs.Read.{of_json, converted}
use Rattle.json.specs.Reads.{token_of}
use Rattle.json.specs.declared.token.Token.{Token as Read}
use Rattle.version_scan.proofs.Reading.{converted-array, converted-object, parsed, parsed_read, parsed_and_more}
use Rattle.raw_document.specs.Shape.{number_of, field}
use Rattle.version_scan.specs.Passing.{Passes, items_in, members_in, begins_object, is_4_read, opens_object}
use Rattle.version_scan.specs.Version.{is_4_at, is_4_in}

pub array_is : (depth : ℕ) (ts : List Token) → 0 < depth → converted of_json (value depth (Token.begin_array ∷ ts)) ≡ parse_map array (items_in (depth - 1) ts)
array_is depth ts some = ap (converted of_json) (value-begin_array depth ts some) ∙ converted-array (items (value (depth - 1)) (length ts) ts)

pub object_is : (depth : ℕ) (ts : List Token) → 0 < depth → converted of_json (value depth (Token.begin_object ∷ ts)) ≡ parse_map object (members_in (depth - 1) ts)
object_is depth ts some = ap (converted of_json) (value-begin_object depth ts some) ∙ converted-object (members (value (depth - 1)) (length ts) ts)

pub string_is : (depth : ℕ) (s : List ℕ) (ts : List Token) → converted of_json (value depth (Token.string s ∷ ts)) ≡ Some (string s, ts)
string_is depth s ts = ap (converted of_json) (value_is depth (Token.string s ∷ ts))

pub boolean_is : (depth : ℕ) (b : Bool) (ts : List Token) → converted of_json (value depth (Token.boolean b ∷ ts)) ≡ Some (boolean b, ts)
boolean_is depth b ts = ap (converted of_json) (value_is depth (Token.boolean b ∷ ts))

pub null_is : (depth : ℕ) (ts : List Token) → converted of_json (value depth (Token.null ∷ ts)) ≡ Some (null, ts)
null_is depth ts = ap (converted of_json) (value_is depth (Token.null ∷ ts))

pub number_is : (depth : ℕ) (s : List ℕ) (ts : List Token) → converted of_json (value depth (Token.number s ∷ ts)) ≡ option_map (λ n. (number n, ts)) (spec.number_of s)
number_is depth s ts = ap (converted of_json) (value_is depth (Token.number s ∷ ts)) ∙ go (spec.number_of s) where
  go : (o : Option Num) → option_map {U = Data × List Token} (λ d. (d, ts)) (option_map number o) ≡ option_map (λ n. (number n, ts)) o
  go None = refl
  go (Some n) = refl

-- a number was passed, or is none
pub number_passed : (depth : ℕ) (s : List ℕ) (ts : List Token) → IfSome (option_map as_u64 (spec.number_of s)) (λ found. Passes depth (Token.number s ∷ ts) ts (λ d. found ≡ number_of d))
number_passed depth s ts = go (spec.number_of s) (number_is depth s ts) where
  go : (o : Option Num) → converted of_json (value depth (Token.number s ∷ ts)) ≡ option_map (λ n. (number n, ts)) o → IfSome (option_map as_u64 o) (λ found. Passes depth (Token.number s ∷ ts) ts (λ d. found ≡ number_of d))
  go None e = tt
  go (Some n) e = (number n, e, refl)

pub number_refused : (depth : ℕ) (s : List ℕ) (ts : List Token) → IsNone (option_map as_u64 (spec.number_of s)) → converted of_json (value depth (Token.number s ∷ ts)) ≡ None
number_refused depth s ts none = number_is depth s ts ∙ go (spec.number_of s) none where
  go : (o : Option Num) → IsNone (option_map as_u64 o) → option_map {U = Data × List Token} (λ n. (number n, ts)) o ≡ None
  go None e = refl
  go (Some n) e = absurd cc

-- ---- a value that begins with no brace is of no version

array_read : (o : Option (Items × List Token)) → is_4_read (parse_map array o) ≡ false
unfolding field
array_read None = refl
array_read (Some p) = refl

number_read : (ts : List Token) (o : Option Num) → is_4_read (option_map (λ n. (number n, ts)) o) ≡ false
unfolding field
number_read ts None = refl
number_read ts (Some n) = refl

array_too : (depth : ℕ) (ts : List Token) → is_4_read (converted of_json (value depth (Token.begin_array ∷ ts))) ≡ false
array_too depth ts = go (nat_lt 0 depth) refl where
  go : (b : Bool) → nat_lt 0 depth ≡ b → is_4_read (converted of_json (value depth (Token.begin_array ∷ ts))) ≡ false
  go true some = ap is_4_read (array_is depth ts (ltb-true 0 depth some)) ∙ array_read (items_in (depth - 1) ts)
  go false none = let zero : depth ≡ 0 = omega (arith, ltb-false 0 depth none) in ap (λ n. is_4_read (converted of_json (value n (Token.begin_array ∷ ts)))) zero ∙ ap (λ o. is_4_read (converted of_json o)) (value_is 0 (Token.begin_array ∷ ts))

pub other_value : (depth : ℕ) (ts : List Token) → opens_object ts ≡ false → is_4_read (converted of_json (value depth ts)) ≡ false
unfolding field
other_value depth [] other = ap (λ o. is_4_read (converted of_json o)) (value_is depth [])
other_value depth (Token.begin_object ∷ ts) other = absurd cc
other_value depth (Token.end_object ∷ ts) other = ap (λ o. is_4_read (converted of_json o)) (value_is depth (Token.end_object ∷ ts))
other_value depth (Token.begin_array ∷ ts) other = array_too depth ts
other_value depth (Token.end_array ∷ ts) other = ap (λ o. is_4_read (converted of_json o)) (value_is depth (Token.end_array ∷ ts))
other_value depth (Token.key s ∷ ts) other = ap (λ o. is_4_read (converted of_json o)) (value_is depth (Token.key s ∷ ts))
other_value depth (Token.string s ∷ ts) other = ap is_4_read (string_is depth s ts)
other_value depth (Token.number s ∷ ts) other = ap is_4_read (number_is depth s ts) ∙ number_read ts (spec.number_of s)
other_value depth (Token.boolean b ∷ ts) other = ap (λ o. is_4_read (converted of_json o)) (value_is depth (Token.boolean b ∷ ts))
other_value depth (Token.null ∷ ts) other = ap (λ o. is_4_read (converted of_json o)) (value_is depth (Token.null ∷ ts))
other_value depth (Token.bad ∷ ts) other = ap (λ o. is_4_read (converted of_json o)) (value_is depth (Token.bad ∷ ts))

-- ---- the whole text

pub none_whole : (o : Option (json.Json × List Token)) → is_4_read (converted of_json o) ≡ false → is_4_in (parsed o) ≡ false
none_whole None e = refl
none_whole (Some (j, [])) e = go (of_json j) e where
  go : (o : Option Data) → is_4_read (option_map (λ d. (d, [])) o) ≡ false → is_4_in o ≡ false
  go None e = refl
  go (Some d) e = e
none_whole (Some (j, t ∷ ts)) e = refl

pub begin_object-from : (t : Token) → begins_object t ≡ true → t ≡ Token.begin_object
begin_object-from Token.begin_object e = refl
begin_object-from Token.end_object e = absurd cc
begin_object-from Token.begin_array e = absurd cc
begin_object-from Token.end_array e = absurd cc
begin_object-from (Token.key s) e = absurd cc
begin_object-from (Token.string s) e = absurd cc
begin_object-from (Token.number s) e = absurd cc
begin_object-from (Token.boolean b) e = absurd cc
begin_object-from Token.null e = absurd cc
begin_object-from Token.bad e = absurd cc

-- a value of version 4 is the text's where nothing follows it
pub last_whole : (o : Option (json.Json × List Token)) (d : Data) (rest after : List Token) (next : Option Read) → converted of_json o ≡ Some (d, rest) → is_4_at d ≡ true
    → MatchOption next ((rest ≡ []) × (after ≡ [])) (λ t. rest ≡ token_of t ∷ after) → is_none next ≡ is_4_in (parsed o)
last_whole o d rest after None e is empty = sym (ap is_4_in (parsed_read o d (e ∙ ap (λ (r : List Token). Some (d, r)) empty.0)) ∙ is)
last_whole o d rest after (Some t) e is more = sym (ap is_4_in (parsed_and_more o d (token_of t) after (e ∙ ap (λ (r : List Token). Some (d, r)) more)))
