-- Reading a value does not depend on what follows it.
use Rattle.std.proofs.Common.{◌≡◌, ℕ, zero, suc, ◌-◌, ◌<◌, ◌≤◌, List, [], ◌∷◌, ◌++◌, length, Option, Some, None, option_map, option_and_then, refl, sym, ap, ◌∙◌, subst, append_assoc, arith}
use Rattle.json.specs.Token.{Token}
use Rattle.json.specs.Json as json
use Rattle.json.specs.Json.{Json, Items, no_items, item, Members, no_members, member, Parse, parse_map, after_end_array, read_key, items_step, members_step, items, members, value_with, value}
use Rattle.json.proofs.Grammar.{left, Takes, closed_array, read_key_is, items_end, items_more, members_end, members_more, skip_value-shorter}
use Rattle.serde_json.specs.Data.{Data}
use Rattle.serde_json.specs.Read.{of_json, converted}
use Rattle.token_parts.specs.Parts.{AllGood}
use Rattle.token_parts.proofs.Cut.{AllGood-append}
use Rattle.raw_reader.proofs.Reading.{converted_some}

-- ---- tokens of which none is bad

pub AllGood-parts : (xs ys : List Token) → AllGood (xs ++ ys) → AllGood xs × AllGood ys
AllGood-parts [] ys good = (tt, good)
AllGood-parts (x ∷ xs) ys good = let parts = AllGood-parts xs ys good.1 in ((good.0, parts.0), parts.1)

-- ---- what a parser found

abbrev pick : {A : Type 0} → A → Option A → A
pick d None = d
pick d (Some a) = a

same : {A : Type 0} (p q : A × List Token) → Some p ≡ Some q → (p.0 ≡ q.0) × (p.1 ≡ q.1)
same p q e = let is = ap (pick p) e in (ap (λ x. x.0) is, ap (λ x. x.1) is)

mapped : {A B : Type 0} (f : A → B) (o : Option (A × List Token)) (b : B) (r : List Token) → parse_map f o ≡ Some (b, r) → (a : A) × (o ≡ Some (a, r)) × (f a ≡ b)
mapped f None b r e = absurd (cc)
mapped f (Some p) b r e = let both = same (f p.0, p.1) (b, r) e in (p.0, ap (λ s. Some (p.0, s)) both.1, both.0)

then_found : {A B : Type 0} (f : A × List Token → Option B) (o : Option (A × List Token)) (b : B) → option_and_then f o ≡ Some b → (q : A × List Token) × (o ≡ Some q) × (f q ≡ Some b)
then_found f None b e = absurd (cc)
then_found f (Some q) b e = (q, refl, e)

-- ---- frames

-- The tokens that were taken are good, and before any others the parser reads the same from them,
-- and leaves those.
abbrev Frame : {A : Type 0} → Parse A → List Token → A → List Token → Type 0
Frame p ts a rest = (taken : List Token) × (ts ≡ taken ++ rest) × AllGood taken × ((more : List Token) → p (taken ++ more) ≡ Some (a, more))

abbrev Frames : {A : Type 0} → Parse A → Type 0
Frames {A} p = (ts : List Token) (a : A) (rest : List Token) → p ts ≡ Some (a, rest) → Frame p ts a rest

-- the same by turns, of which there are as many as there are tokens, or more
abbrev TurnsFrame : {A : Type 0} → (ℕ → Parse A) → List Token → A → List Token → Type 0
TurnsFrame p ts a rest =
    (taken : List Token) × (ts ≡ taken ++ rest) × AllGood taken × ((more : List Token) (m : ℕ) → length (taken ++ more) ≤ m → p m (taken ++ more) ≡ Some (a, more))

abbrev TurnsFrames : {A : Type 0} → (ℕ → Parse A) → ℕ → Type 0
TurnsFrames {A} p n = (ts : List Token) (a : A) (rest : List Token) → p n ts ≡ Some (a, rest) → TurnsFrame p ts a rest

-- whether an array is over its first token says
first_says : (x : Token) (xs ys : List Token) → after_end_array (x ∷ xs) ≡ None → after_end_array (x ∷ ys) ≡ None
first_says Token.begin_object xs ys e = refl
first_says Token.end_object xs ys e = refl
first_says Token.begin_array xs ys e = refl
first_says Token.end_array xs ys e = absurd (cc)
first_says (Token.key s) xs ys e = refl
first_says (Token.string s) xs ys e = refl
first_says (Token.number s) xs ys e = refl
first_says (Token.boolean b) xs ys e = refl
first_says Token.null xs ys e = refl
first_says Token.bad xs ys e = refl

still_going : (xs ys zs : List Token) → length ys < length (xs ++ ys) → after_end_array (xs ++ ys) ≡ None → after_end_array (xs ++ zs) ≡ None
still_going [] ys zs less e = let never : ⊥ = omega arith in absurd never
still_going (x ∷ xs) ys zs less e = first_says x (xs ++ ys) (xs ++ zs) e

module _ (p : Parse Json) (takes : Takes p) (frames : Frames p) where
  took : (ts : List Token) (j : Json) (r : List Token) → p ts ≡ Some (j, r) → length r < length ts
  took ts j r e = takes ts r (ap left e)

  item_turn : (n : ℕ) (ts : List Token) (js : Items) (rest : List Token) (o : Option (List Token)) → TurnsFrames (items p) n → after_end_array ts ≡ o → items_step p (items p n) ts o ≡ Some (js, rest)
      → TurnsFrame (items p) ts js rest
  item_turn n ts js rest (Some r) again e f =
      let is = same (no_items, r) (js, rest) f in (
        Token.end_array ∷ [],
        closed_array ts r e ∙ ap (λ x. Token.end_array ∷ x) is.1,
        (refl, tt),
        λ more m le. items_end p m (Token.end_array ∷ more) more le refl ∙ ap (λ x. Some (x, more)) is.0,
      )
  item_turn n ts js rest None again e f =
      let first = then_found (λ q. parse_map (item q.0) (items p n q.1)) (p ts) (js, rest) f in
      let j = first.0.0 in
      let others = mapped (item j) (items p n first.0.1) js rest first.2 in
      let one = frames ts j first.0.1 first.1 in
      let next = again first.0.1 others.0 rest others.1 in (
        one.0 ++ next.0,
        one.1 ∙ ap (λ x. one.0 ++ x) next.1 ∙ sym (append_assoc one.0 next.0 rest),
        AllGood-append one.0 next.0 one.2 next.2,
        λ more m le.
            let all = append_assoc one.0 next.0 more in
            let after = next.0 ++ more in
            let read = one.3 after in
            let less = took (one.0 ++ after) j after read in
            let within : length (one.0 ++ after) ≤ m = subst (λ x. length x ≤ m) all le in
            let going = still_going one.0 first.0.1 after (subst (λ x. length first.0.1 < length x) one.1 (took ts j first.0.1 first.1)) (subst (λ x. after_end_array x ≡ None) one.1 e) in
            ap (items p m) all
            ∙ items_more p m (one.0 ++ after) after j (omega arith) going read
            ∙ ap (parse_map (item j)) (next.3 more (m - 1) (omega arith))
            ∙ ap (λ x. Some (x, more)) others.2,
      )

  items_frames : (n : ℕ) → TurnsFrames (items p) n
  unfolding items
  items_frames zero ts js rest e = absurd (cc)
  items_frames (suc n) ts js rest e = item_turn n ts js rest (after_end_array ts) (items_frames n) refl e

  member_turn : (n : ℕ) (ts : List Token) (ms : Members) (rest : List Token) (o : Option (Option (List ℕ) × List Token)) → TurnsFrames (members p) n → read_key ts ≡ o
      → option_and_then (λ q. members_step p (members p n) q.0 q.1) o ≡ Some (ms, rest) → TurnsFrame (members p) ts ms rest
  member_turn n ts ms rest None again e f = absurd (cc)
  member_turn n ts ms rest (Some (None, r)) again e f =
      let is = same (no_members, r) (ms, rest) f in (
        Token.end_object ∷ [],
        read_key_is ts None r e ∙ ap (λ x. Token.end_object ∷ x) is.1,
        (refl, tt),
        λ more m le. members_end p m (Token.end_object ∷ more) more le refl ∙ ap (λ x. Some (x, more)) is.0,
      )
  member_turn n ts ms rest (Some (Some k, r)) again e f =
      let first = then_found (λ q. parse_map (member k q.0) (members p n q.1)) (p r) (ms, rest) f in
      let j = first.0.0 in
      let others = mapped (member k j) (members p n first.0.1) ms rest first.2 in
      let one = frames r j first.0.1 first.1 in
      let next = again first.0.1 others.0 rest others.1 in (
        Token.key k ∷ (one.0 ++ next.0),
        read_key_is ts (Some k) r e ∙ ap (λ x. Token.key k ∷ x) (one.1 ∙ ap (λ x. one.0 ++ x) next.1 ∙ sym (append_assoc one.0 next.0 rest)),
        (refl, AllGood-append one.0 next.0 one.2 next.2),
        λ more m le.
            let all = append_assoc one.0 next.0 more in
            let after = next.0 ++ more in
            let read = one.3 after in
            let less = took (one.0 ++ after) j after read in
            let within : length (Token.key k ∷ (one.0 ++ after)) ≤ m = subst (λ x. length (Token.key k ∷ x) ≤ m) all le in
            ap (λ x. members p m (Token.key k ∷ x)) all
            ∙ members_more p m k (Token.key k ∷ (one.0 ++ after)) (one.0 ++ after) after j (omega arith) refl read
            ∙ ap (parse_map (member k j)) (next.3 more (m - 1) (omega arith))
            ∙ ap (λ x. Some (x, more)) others.2,
      )

  members_frames : (n : ℕ) → TurnsFrames (members p) n
  unfolding members
  members_frames zero ts ms rest e = absurd (cc)
  members_frames (suc n) ts ms rest e = member_turn n ts ms rest (read_key ts) (members_frames n) refl e

-- as many turns as there are tokens
by_length : {A : Type 0} (p : ℕ → Parse A) → ((n : ℕ) → TurnsFrames p n) → Frames (λ ts. p (length ts) ts)
by_length p frames ts a rest e = let f = frames (length ts) ts a rest e in (f.0, f.1, f.2, λ more. f.3 more (length (f.0 ++ more)) (omega arith))

-- a value that is a token
single : {A : Type 0} (p : Parse A) (t : Token) (b : A) (ts : List Token) (a : A) (rest : List Token) → ((more : List Token) → p (t ∷ more) ≡ Some (b, more)) → AllGood (t ∷ []) → p (t ∷ ts) ≡ Some (a, rest)
    → Frame p (t ∷ ts) a rest
single p t b ts a rest reads good e = let is = same (b, ts) (a, rest) (sym (reads ts) ∙ e) in (t ∷ [], ap (λ x. t ∷ x) is.1, good, λ more. reads more ∙ ap (λ x. Some (x, more)) is.0)

-- a value that a token opens
opened : {A B : Type 0} (p : Parse A) (t : Token) (inner : Parse B) (f : B → A) (ts : List Token) (a : A) (rest : List Token) → ((more : List Token) → p (t ∷ more) ≡ parse_map f (inner more)) → AllGood (t ∷ []) → Frames inner → parse_map f (inner ts) ≡ Some (a, rest)
    → Frame p (t ∷ ts) a rest
opened p t inner f ts a rest reads good frames e =
    let in_it = mapped f (inner ts) a rest e in
    let it = frames ts in_it.0 rest in_it.1 in
    (t ∷ it.0, ap (λ x. t ∷ x) it.1, (good.0, it.2), λ more. reads (it.0 ++ more) ∙ ap (parse_map f) (it.3 more) ∙ ap (λ x. Some (x, more)) in_it.2)

value_frames : (a : Parse Items) (o : Parse Members) → Frames a → Frames o → Frames (value_with a o)
value_frames a o fa fo [] j rest e = absurd (cc)
value_frames a o fa fo (Token.begin_object ∷ ts) j rest e = opened (value_with a o) Token.begin_object o json.object ts j rest (λ more. refl) (refl, tt) fo e
value_frames a o fa fo (Token.end_object ∷ ts) j rest e = absurd (cc)
value_frames a o fa fo (Token.begin_array ∷ ts) j rest e = opened (value_with a o) Token.begin_array a json.array ts j rest (λ more. refl) (refl, tt) fa e
value_frames a o fa fo (Token.end_array ∷ ts) j rest e = absurd (cc)
value_frames a o fa fo (Token.key s ∷ ts) j rest e = absurd (cc)
value_frames a o fa fo (Token.string s ∷ ts) j rest e = single (value_with a o) (Token.string s) (json.string s) ts j rest (λ more. refl) (refl, tt) e
value_frames a o fa fo (Token.number s ∷ ts) j rest e = single (value_with a o) (Token.number s) (json.number s) ts j rest (λ more. refl) (refl, tt) e
value_frames a o fa fo (Token.boolean b ∷ ts) j rest e = single (value_with a o) (Token.boolean b) (json.boolean b) ts j rest (λ more. refl) (refl, tt) e
value_frames a o fa fo (Token.null ∷ ts) j rest e = single (value_with a o) Token.null json.null ts j rest (λ more. refl) (refl, tt) e
value_frames a o fa fo (Token.bad ∷ ts) j rest e = absurd (cc)

-- The tokens that a value takes are good, and before any others the same value is read from them.
pub frame : (depth : ℕ) (ts : List Token) (j : Json) (rest : List Token) → value depth ts ≡ Some (j, rest)
    → (taken : List Token) × (ts ≡ taken ++ rest) × AllGood taken × ((more : List Token) → value depth (taken ++ more) ≡ Some (j, more))
unfolding value
frame zero = value_frames (λ ts. None) (λ ts. None) (λ ts js rest e. absurd (cc)) (λ ts ms rest e. absurd (cc))
frame (suc d) =
    value_frames (λ ts. items (value d) (length ts) ts) (λ ts. members (value d) (length ts) ts)
    (by_length (items (value d)) (items_frames (value d) (skip_value-shorter d) (frame d)))
    (by_length (members (value d)) (members_frames (value d) (skip_value-shorter d) (frame d)))

-- ---- the same of the data

pub taken : (depth : ℕ) (old new : List Token) (d : Data) → converted of_json (value depth old) ≡ Some (d, new)
    → (some : List Token) × (old ≡ some ++ new) × AllGood some × ((more : List Token) → converted of_json (value depth (some ++ more)) ≡ Some (d, more))
taken depth old new d e =
    let j = converted_some of_json (value depth old) d new e in
    let f = frame depth old j.0 new j.1 in
    (f.0, f.1, f.2, λ more. ap (converted of_json) (f.3 more) ∙ ap (option_map (λ b. (b, more))) j.2)

pub framed : (depth : ℕ) (old new more : List Token) (d : Data) → converted of_json (value depth old) ≡ Some (d, new) → converted of_json (value depth (old ++ more)) ≡ Some (d, new ++ more)
framed depth old new more d e =
    let f = taken depth old new d e in
    ap (λ x. converted of_json (value depth x)) (ap (λ x. x ++ more) f.1 ∙ append_assoc f.0 new more) ∙ f.3 (new ++ more)

pub good_before : (depth : ℕ) (old new : List Token) (d : Data) → converted of_json (value depth old) ≡ Some (d, new) → AllGood new → AllGood old
good_before depth old new d e good = let f = taken depth old new d e in subst AllGood (sym f.1) (AllGood-append f.0 new f.2 good)
