-- The grammar's loops, a turn at a time, under the conversion to data.
use Rattle.std.proofs.Common.{◌≡◌, ℕ, ◌-◌, ◌<◌, List, [], ◌∷◌, ◌++◌, length, Option, Some, None, option_map, option_and_then, refl, ap, ◌∙◌, arith}
use Rattle.json.specs.Token.{Token}
use Rattle.json.specs.Json as json
use Rattle.json.specs.Json.{Parse, parse_map, after_end_array, read_key, items, members, value, if_last}
use Rattle.json.proofs.Grammar.{value_is, value-begin_array, value-begin_object, items_end, items_more, members_end, members_more}
use Rattle.serde_json.specs.Data.{Data, array, object, string, number, Num, Items, no_items, item, Members, no_members, put}
use Rattle.serde_json.specs.Read.{of_json, of_items, of_members, converted, number_of}
use Rattle.raw_document.specs.Shape.{list_items}
use Rattle.raw_reader.specs.Takes.{EachRead}
use Rattle.raw_reader.specs.Walks.{array_items, items_before, Amid, object_members, Within}

abbrev pick : {A : Type 0} → A → Option A → A
pick d None = d
pick d (Some a) = a

found : {A B : Type 0} (a : A) (r s : List Token) (x : Option B) (b : B) → option_map {U = B × List Token} (λ y. (y, r)) x ≡ Some (b, s) → (r ≡ s) × (x ≡ Some b)
found a r s None b e = absurd (cc)
found a r s (Some y) b e = let same = ap (pick (y, r)) e in (ap (λ p. p.1) same, ap (λ p. Some p.0) same)

pub converted_some : {A B : Type 0} (f : A → Option B) (o : Option (A × List Token)) (b : B) (r : List Token) → converted f o ≡ Some (b, r) → (a : A) × (o ≡ Some (a, r)) × (f a ≡ Some b)
converted_some f None b r e = absurd (cc)
converted_some f (Some p) b r e = let both = found p.0 p.1 r (f p.0) b e in (p.0, ap (λ s. Some (p.0, s)) both.0, both.1)

twice : {A B : Type 0} (g : A → B) (r : List Token) (x : Option A) → option_map (λ b. (b, r)) (option_map g x) ≡ parse_map g (option_map (λ a. (a, r)) x)
twice g r None = refl
twice g r (Some a) = refl

converted-array : (o : Option (json.Items × List Token)) → converted of_json (parse_map json.array o) ≡ parse_map array (converted of_items o)
converted-array None = refl
converted-array (Some p) = twice array p.1 (of_items p.0)

converted-object : (o : Option (json.Members × List Token)) → converted of_json (parse_map json.object o) ≡ parse_map object (converted (λ ms. of_members ms no_members) o)
converted-object None = refl
converted-object (Some p) = twice object p.1 (of_members p.0 no_members)

with_item : (j : json.Json) (d : Data) → of_json j ≡ Some d → (o : Option (json.Items × List Token)) → converted of_items (parse_map (json.item j) o) ≡ parse_map (item d) (converted of_items o)
with_item j d e None = refl
with_item j d e (Some p) = rw e (twice (item d) p.1 (of_items p.0))

with_member : (k : List ℕ) (j : json.Json) (d : Data) (old : Members) → of_json j ≡ Some d → (o : Option (json.Members × List Token))
    → converted (λ ms. of_members ms old) (parse_map (json.member k j) o) ≡ converted (λ ms. of_members ms (put k d old)) o
with_member k j d old e None = refl
with_member k j d old e (Some p) = rw e

-- ---- arrays

pub array_is : (depth : ℕ) (ts : List Token) → 0 < depth → converted of_json (value depth (Token.begin_array ∷ ts)) ≡ parse_map array (array_items (depth - 1) ts)
array_is depth ts some = ap (converted of_json) (value-begin_array depth ts some) ∙ converted-array (items (value (depth - 1)) (length ts) ts)

pub listed : (ds : List Data) → list_items (items_before ds no_items) ≡ ds
listed [] = refl
listed (d ∷ ds) = ap (λ es. d ∷ es) (listed ds)

items_push : (ds : List Data) (d : Data) (rest : Items) → items_before ds (item d rest) ≡ items_before (ds ++ d ∷ []) rest
items_push [] d rest = refl
items_push (e ∷ ds) d rest = ap (item e) (items_push ds d rest)

one_more : (ds : List Data) (d : Data) (r : Option (Items × List Token)) → parse_map (items_before ds) (parse_map (item d) r) ≡ parse_map (items_before (ds ++ d ∷ [])) r
one_more ds d None = refl
one_more ds d (Some p) = ap (λ js. Some (js, p.1)) (items_push ds d p.0)

none_before : (r : Option (Items × List Token)) → r ≡ parse_map (items_before []) r
none_before None = refl
none_before (Some p) = refl

EachRead-push : {T : Type 0} (IsRead : Data → T → Type 0) (ds : List Data) (xs : List T) (d : Data) (x : T) → EachRead IsRead ds xs → IsRead d x → EachRead IsRead (ds ++ d ∷ []) (xs ++ x ∷ [])
EachRead-push IsRead [] [] d x h is = (is, tt)
EachRead-push IsRead [] (y ∷ xs) d x h is = absurd h
EachRead-push IsRead (e ∷ ds) [] d x h is = absurd h
EachRead-push IsRead (e ∷ ds) (y ∷ xs) d x h is = (h.0, EachRead-push IsRead ds xs d x h.1 is)

pub Amid-start : {T : Type 0} (depth : ℕ) (IsRead : Data → T → Type 0) (ts : List Token) → Amid depth IsRead ts [] ts
Amid-start depth IsRead ts = (length ts, omega arith, [], tt, none_before (array_items depth ts), omega arith)

pub Amid-more : {T : Type 0} (depth : ℕ) (IsRead : Data → T → Type 0) (start : List Token) (xs : List T) (now after : List Token) (x : T) (d : Data) → Amid depth IsRead start xs now
    → after_end_array now ≡ None → converted of_json (value depth now) ≡ Some (d, after) → IsRead d x → length after < length now → Amid depth IsRead start (xs ++ x ∷ []) after
Amid-more depth IsRead start xs now after x d amid going read is less =
    let n = amid.0 in
    let ds = amid.2 in
    let j = converted_some of_json (value depth now) d after read in
    let turn = ap (converted of_items) (items_more (value depth) n now after j.0 (omega (arith, amid.1)) going j.1) ∙ with_item j.0 d j.2 _ in (
      n - 1,
      omega (arith, amid.1),
      ds ++ d ∷ [],
      EachRead-push IsRead ds xs d x amid.3 is,
      amid.4 ∙ ap (parse_map (items_before ds)) turn ∙ one_more ds d _,
      omega (arith, amid.5),
    )

pub Amid-end : {T : Type 0} (depth : ℕ) (IsRead : Data → T → Type 0) (start : List Token) (xs : List T) (now after : List Token) → Amid depth IsRead start xs now → after_end_array now ≡ Some after
    → (ds : List Data) × EachRead IsRead ds xs × (array_items depth start ≡ Some (items_before ds no_items, after))
Amid-end depth IsRead start xs now after amid over =
    (amid.2, amid.3, amid.4 ∙ ap (λ o. parse_map (items_before amid.2) (converted of_items o)) (items_end (value depth) amid.0 now after amid.1 over))

-- ---- objects

pub object_is : (depth : ℕ) (ts : List Token) → 0 < depth → converted of_json (value depth (Token.begin_object ∷ ts)) ≡ parse_map object (object_members (depth - 1) ts)
object_is depth ts some = ap (converted of_json) (value-begin_object depth ts some) ∙ converted-object (members (value (depth - 1)) (length ts) ts)

pub Within-start : (depth : ℕ) (Holds : Members → Type 0) (ts : List Token) → Holds no_members → Within depth Holds ts ts
Within-start depth Holds ts holds = (length ts, omega arith, no_members, holds, refl, omega arith)

pub Within-more : (depth : ℕ) (Before After : Members → Type 0) (start now inside after : List Token) (k : List ℕ) (d : Data) → Within depth Before start now
    → read_key now ≡ Some (Some k, inside) → converted of_json (value depth inside) ≡ Some (d, after) → ((found : Members) → Before found → After (put k d found))
    → length inside < length now → length after < length inside → Within depth After start after
Within-more depth Before After start now inside after k d within key read holds less lesser =
    let n = within.0 in
    let old = within.2 in
    let j = converted_some of_json (value depth inside) d after read in
    let turn = ap (converted (λ ms. of_members ms old)) (members_more (value depth) n k now inside after j.0 (omega (arith, within.1)) key j.1) ∙ with_member k j.0 d old j.2 _ in (
      n - 1,
      omega (arith, within.1),
      put k d old,
      holds old within.3,
      within.4 ∙ turn,
      omega (arith, within.5),
    )

pub Within-end : (depth : ℕ) (Holds : Members → Type 0) (start now after : List Token) → Within depth Holds start now → read_key now ≡ Some (None, after)
    → (found : Members) × Holds found × (object_members depth start ≡ Some (found, after))
Within-end depth Holds start now after within over =
    (within.2, within.3, within.4 ∙ ap (converted (λ ms. of_members ms within.2)) (members_end (value depth) within.0 now after within.1 over))

-- ---- single tokens

pub text_read : (depth : ℕ) (s : List ℕ) (ts : List Token) → converted of_json (value depth (Token.string s ∷ ts)) ≡ Some (string s, ts)
text_read depth s ts = ap (converted of_json) (value_is depth (Token.string s ∷ ts))

pub number_read : (depth : ℕ) (s : List ℕ) (n : Num) (ts : List Token) → number_of s ≡ Some n → converted of_json (value depth (Token.number s ∷ ts)) ≡ Some (number n, ts)
number_read depth s n ts e = ap (converted of_json) (value_is depth (Token.number s ∷ ts)) ∙ rw e

number_value : (depth : ℕ) (s : List ℕ) (ts : List Token) → value depth (Token.number s ∷ ts) ≡ Some (json.number s, ts)
number_value depth s ts = value_is depth (Token.number s ∷ ts)

-- two numbers in brackets
pub two_numbers : (depth : ℕ) (a b : List ℕ) (m n : Num) (ts : List Token) → 0 < depth → number_of a ≡ Some m → number_of b ≡ Some n
    → converted of_json (value depth (Token.begin_array ∷ Token.number a ∷ Token.number b ∷ Token.end_array ∷ ts)) ≡ Some (array (item (number m) (item (number n) no_items)), ts)
unfolding items
two_numbers depth a b m n ts some first second =
    let rest = Token.number b ∷ Token.end_array ∷ ts in
    ap (converted of_json) (value-begin_array depth (Token.number a ∷ rest) some)
    ∙ rw (number_value (depth - 1) a rest, number_value (depth - 1) b (Token.end_array ∷ ts), first, second)

-- ---- the whole text

abbrev whole : Option (json.Json × List Token) → Option Data
whole o = option_and_then of_json (option_and_then (λ p. if_last p.0 p.1) o)

pub whole_read : (o : Option (json.Json × List Token)) (d : Data) → converted of_json o ≡ Some (d, []) → whole o ≡ Some d
whole_read o d e = let j = converted_some of_json o d [] e in ap whole j.1 ∙ j.2
