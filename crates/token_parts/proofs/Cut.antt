-- The tokens of a text that is cut at a comma, behind a closing brace and before an opening one.
use Rattle.std.proofs.Common.{◌≡◌, ℕ, ◌+◌, ◌-◌, ◌<◌, Bool, true, false, List, [], ◌∷◌, ◌++◌, length, take, get_or, Option, Some, None, refl, sym, ap, ◌∙◌, arith, take_all}
use Rattle.std.proofs.lemmas.Bool.{false≢true}
use Rattle.std.proofs.lemmas.List.{take_more}
use Rattle.json.specs.Token.{Token, begin_object, end_object, begin_array, end_array, key, string, number, boolean, null, bad}
use Rattle.json.specs.Text.{content, plain}
use Rattle.json.specs.Word.{word}
use Rattle.json.specs.Lex.{Lexeme, token, comma, colon, Class, quote, backslash, operator, space, other, class, operator_lexeme, string_token, Mode, between, in_word, in_string, in_escape, lex_byte, lex, Place, fresh, after_value, after_comma, after_key, begins_colon, may_begin, may_close, if_allowed, place_token, punctuate, tokens}
use Rattle.json.specs.Align.{is_good}
use Rattle.token_parts.specs.Parts.{AllGood, First}
use Rattle.token_parts.specs.Laws.{CutAtAComma}
use Rattle.token_parts.proofs.Words.{word_same}
use Rattle.token_parts.proofs.Strings.{closes_byte, closes, closes-between, closes-in_word, Kept, content_kept}

-- ---- lexemes

abbrev Goods : List Lexeme → Type 0
Goods [] = Unit {0}
Goods (token t ∷ ls) = (is_good t ≡ true) × Goods ls
Goods (comma ∷ ls) = Goods ls
Goods (colon ∷ ls) = Goods ls

goods_rest : (l : Lexeme) (ls : List Lexeme) → Goods (l ∷ ls) → Goods ls
goods_rest (token t) ls h = h.1
goods_rest comma ls h = h
goods_rest colon ls h = h

-- the lexemes end in a closing brace, and with the comma and the rest behind they are so many more
record Ends (rest front whole : List Lexeme) : Type 0 where
  before : List Lexeme
  front_is : front ≡ before ++ token end_object ∷ []
  whole_is : whole ≡ before ++ token end_object ∷ comma ∷ rest

one_more : (rest front whole : List Lexeme) (l m : Lexeme) → m ≡ l → Ends rest front whole → Ends rest (l ∷ front) (m ∷ whole)
one_more rest front whole l m e ends =
    record {
      before = l ∷ ends.before;
      front_is = ap (λ ls. l ∷ ls) ends.front_is;
      whole_is = ap (λ n. n ∷ whole) e ∙ ap (λ ls. l ∷ ls) ends.whole_is;
    }

string_same : (closed : Bool) (o p : Option (List ℕ)) → Kept closed o p → is_good (string_token o) ≡ true → (token (string_token p) ≡ token (string_token o)) × (closed ≡ true)
string_same closed None p kept good = absurd (false≢true good)
string_same closed (Some s) p kept good = (ap (λ q. token (string_token q)) kept.0, kept.1)

module _ (rest : List Lexeme) (x : ℕ) (xs more : List ℕ) (k l : Mode → List Lexeme) (closed : Mode → Bool)
    (no_string : closed between ≡ true) (no_word : closed in_word ≡ true)
    (word_is : is_good (word (x ∷ xs)) ≡ true → word (x ∷ more) ≡ word (x ∷ xs))
    (kept : Kept (closed in_string) (content plain xs) (content plain more))
    (next : (n : Mode) → closed n ≡ true → Goods (k n) → Ends rest (k n) (l n)) where
  step : (m : Mode) (c : Class) → closes_byte m c closed ≡ true → Goods (lex_byte m c x xs k) → Ends rest (lex_byte m c x xs k) (lex_byte m c x more l)
  step between quote h good =
      let same = string_same (closed in_string) (content plain xs) (content plain more) kept good.0 in
      one_more rest (k in_string) (l in_string) _ _ same.0 (next in_string same.1 good.1)
  step between backslash h good = absurd (false≢true good.0)
  step between operator h good = one_more rest (k between) (l between) _ _ refl (next between no_string (goods_rest (operator_lexeme x) (k between) good))
  step between space h good = next between no_string good
  step between other h good = one_more rest (k in_word) (l in_word) _ _ (ap token (word_is good.0)) (next in_word no_word good.1)
  step in_word quote h good = next in_word no_word good
  step in_word backslash h good = next in_word no_word good
  step in_word operator h good = one_more rest (k between) (l between) _ _ refl (next between no_string (goods_rest (operator_lexeme x) (k between) good))
  step in_word space h good = next between no_string good
  step in_word other h good = next in_word no_word good
  step in_string quote h good = next between no_string good
  step in_string backslash h good = next in_escape h good
  step in_string operator h good = next in_string h good
  step in_string space h good = next in_string h good
  step in_string other h good = next in_string h good
  step in_escape c h good = next in_string h good

module _ (b : List ℕ) where
  ended : (m : Mode) (a : List ℕ) → closes m (a ++ 125 ∷ []) ≡ true → Goods (lex m (a ++ 125 ∷ [])) → Ends (lex between b) (lex m (a ++ 125 ∷ [])) (lex m ((a ++ 125 ∷ []) ++ 44 ∷ b))
  unfolding closes lex
  ended between [] h good = record { before = []; front_is = refl; whole_is = refl }
  ended in_word [] h good = record { before = []; front_is = refl; whole_is = refl }
  ended in_string [] h good = absurd (false≢true h)
  ended in_escape [] h good = absurd (false≢true h)
  ended m (x ∷ a) h good =
      let xs = a ++ 125 ∷ [] in
      step (lex between b) x xs (xs ++ 44 ∷ b) (λ n. lex n xs) (λ n. lex n (xs ++ 44 ∷ b)) (λ n. closes n xs) (closes-between xs) (closes-in_word xs)
      (word_same b (x ∷ xs)) (content_kept (44 ∷ b) xs) (λ n. ended n a) m (class x) h good

-- ---- commas and colons

if_good : (c : Bool) (t : Token) (k : Place → List Token) (next : Place) (G : Type 0) → (AllGood (k next) → G) → AllGood (if_allowed c t k next) → (is_good t ≡ true) × G
if_good true t k next G f h = (h.0, f h.1)
if_good false t k next G f h = absurd (false≢true h.0)

place_good : (p : Place) (t : Token) (b : Bool) (k : Place → List Token) (G : Type 0) → ((n : Place) → AllGood (k n) → G) → AllGood (place_token p t b k) → (is_good t ≡ true) × G
place_good p begin_object b k G f h = if_good (may_begin p) begin_object k fresh G (f fresh) h
place_good p end_object b k G f h = if_good (may_close p) end_object k after_value G (f after_value) h
place_good p begin_array b k G f h = if_good (may_begin p) begin_array k fresh G (f fresh) h
place_good p end_array b k G f h = if_good (may_close p) end_array k after_value G (f after_value) h
place_good p (key s) b k G f h = absurd (false≢true h.0)
place_good p (string s) true k G f h = if_good (may_begin p) (key s) k after_key G (f after_key) h
place_good p (string s) false k G f h = if_good (may_begin p) (string s) k after_value G (f after_value) h
place_good p (number s) b k G f h = if_good (may_begin p) (number s) k after_value G (f after_value) h
place_good p (boolean v) b k G f h = if_good (may_begin p) (boolean v) k after_value G (f after_value) h
place_good p null b k G f h = if_good (may_begin p) null k after_value G (f after_value) h
place_good p bad b k G f h = absurd (false≢true h.0)

-- where no token is bad, no lexeme is
goods : (p : Place) (ls : List Lexeme) → AllGood (punctuate p ls) → Goods ls
unfolding punctuate
goods p [] h = tt
goods p (token t ∷ ls) h = place_good p t (begins_colon ls) (λ n. punctuate n ls) (Goods ls) (λ n. goods n ls) h
goods fresh (comma ∷ ls) h = absurd (false≢true h.0)
goods after_value (comma ∷ ls) h = goods after_comma ls h
goods after_comma (comma ∷ ls) h = absurd (false≢true h.0)
goods after_key (comma ∷ ls) h = absurd (false≢true h.0)
goods fresh (colon ∷ ls) h = absurd (false≢true h.0)
goods after_value (colon ∷ ls) h = absurd (false≢true h.0)
goods after_comma (colon ∷ ls) h = absurd (false≢true h.0)
goods after_key (colon ∷ ls) h = goods fresh ls h

module _ (ts : List Token) (k l : Place → List Token) where
  if_parts : (c : Bool) (t : Token) (next : Place) → (AllGood (k next) → l next ≡ k next ++ ts) → AllGood (if_allowed c t k next) → if_allowed c t l next ≡ if_allowed c t k next ++ ts
  if_parts true t next f h = ap (λ us. t ∷ us) (f h.1)
  if_parts false t next f h = absurd (false≢true h.0)

  place_parts : (p : Place) (t : Token) (b : Bool) → ((n : Place) → AllGood (k n) → l n ≡ k n ++ ts) → AllGood (place_token p t b k) → place_token p t b l ≡ place_token p t b k ++ ts
  place_parts p begin_object b f h = if_parts (may_begin p) begin_object fresh (f fresh) h
  place_parts p end_object b f h = if_parts (may_close p) end_object after_value (f after_value) h
  place_parts p begin_array b f h = if_parts (may_begin p) begin_array fresh (f fresh) h
  place_parts p end_array b f h = if_parts (may_close p) end_array after_value (f after_value) h
  place_parts p (key s) b f h = absurd (false≢true h.0)
  place_parts p (string s) true f h = if_parts (may_begin p) (key s) after_key (f after_key) h
  place_parts p (string s) false f h = if_parts (may_begin p) (string s) after_value (f after_value) h
  place_parts p (number s) b f h = if_parts (may_begin p) (number s) after_value (f after_value) h
  place_parts p (boolean v) b f h = if_parts (may_begin p) (boolean v) after_value (f after_value) h
  place_parts p null b f h = if_parts (may_begin p) null after_value (f after_value) h
  place_parts p bad b f h = absurd (false≢true h.0)

same_colon : (before rest : List Lexeme) → begins_colon (before ++ token end_object ∷ comma ∷ rest) ≡ begins_colon (before ++ token end_object ∷ [])
same_colon [] rest = refl
same_colon (token t ∷ ls) rest = refl
same_colon (comma ∷ ls) rest = refl
same_colon (colon ∷ ls) rest = refl

module _ (rest : List Lexeme) where
  parts : (p : Place) (ls : List Lexeme) → AllGood (punctuate p (ls ++ token end_object ∷ []))
      → punctuate p (ls ++ token end_object ∷ comma ∷ rest) ≡ punctuate p (ls ++ token end_object ∷ []) ++ punctuate after_comma rest
  unfolding punctuate
  parts p [] h = if_parts (punctuate after_comma rest) (λ n. punctuate n []) (λ n. punctuate n (comma ∷ rest)) (may_close p) end_object after_value (λ good. refl) h
  parts p (token t ∷ ls) h =
      let k = λ (n : Place). punctuate n (ls ++ token end_object ∷ []) in
      let l = λ (n : Place). punctuate n (ls ++ token end_object ∷ comma ∷ rest) in
      ap (λ c. place_token p t c l) (same_colon ls rest)
      ∙ place_parts (punctuate after_comma rest) k l p t (begins_colon (ls ++ token end_object ∷ [])) (λ n. parts n ls) h
  parts fresh (comma ∷ ls) h = absurd (false≢true h.0)
  parts after_value (comma ∷ ls) h = parts after_comma ls h
  parts after_comma (comma ∷ ls) h = absurd (false≢true h.0)
  parts after_key (comma ∷ ls) h = absurd (false≢true h.0)
  parts fresh (colon ∷ ls) h = absurd (false≢true h.0)
  parts after_value (colon ∷ ls) h = absurd (false≢true h.0)
  parts after_comma (colon ∷ ls) h = absurd (false≢true h.0)
  parts after_key (colon ∷ ls) h = parts fresh ls h

place_begun : (t : Token) (b : Bool) (k : Place → List Token) (ts : List Token) → place_token fresh t b k ≡ begin_object ∷ ts → place_token after_comma t b k ≡ place_token fresh t b k
place_begun begin_object b k ts e = refl
place_begun end_object b k ts e = absurd (cc)
place_begun begin_array b k ts e = refl
place_begun end_array b k ts e = absurd (cc)
place_begun (key s) b k ts e = refl
place_begun (string s) true k ts e = refl
place_begun (string s) false k ts e = refl
place_begun (number s) b k ts e = refl
place_begun (boolean v) b k ts e = refl
place_begun null b k ts e = refl
place_begun bad b k ts e = refl

-- what begins with an opening brace may stand behind a comma
begun : (ls : List Lexeme) (ts : List Token) → punctuate fresh ls ≡ begin_object ∷ ts → punctuate after_comma ls ≡ punctuate fresh ls
unfolding punctuate
begun [] ts e = absurd (cc)
begun (token t ∷ ls) ts e = place_begun t (begins_colon ls) (λ n. punctuate n ls) ts e
begun (comma ∷ ls) ts e = refl
begun (colon ∷ ls) ts e = refl

joined : (rest front whole : List Lexeme) → Ends rest front whole → AllGood (punctuate fresh front) → (ts : List Token) → punctuate fresh rest ≡ begin_object ∷ ts
    → punctuate fresh whole ≡ punctuate fresh front ++ punctuate fresh rest
joined rest front whole ends good ts e =
    let good_front : AllGood (punctuate fresh (ends.before ++ token end_object ∷ [])) = rw ends.front_is at good in
    ap (punctuate fresh) ends.whole_is ∙ parts rest fresh ends.before good_front
    ∙ ap (λ ls. punctuate fresh ls ++ punctuate after_comma rest) (sym ends.front_is)
    ∙ ap (λ us. punctuate fresh front ++ us) (begun rest ts e)

-- ---- texts

-- the text in front is `a` and a closing brace
pub tokens-cut : (a b : List ℕ) → AllGood (tokens (a ++ 125 ∷ [])) → (ts : List Token) → tokens b ≡ begin_object ∷ ts
    → tokens ((a ++ 125 ∷ []) ++ 44 ∷ b) ≡ tokens (a ++ 125 ∷ []) ++ tokens b
tokens-cut a b good ts e =
    let front = lex between (a ++ 125 ∷ []) in
    joined (lex between b) front (lex between ((a ++ 125 ∷ []) ++ 44 ∷ b)) (ended b between a (closes-between (a ++ 125 ∷ [])) (goods fresh front good)) good ts e

pub tokens-first : CutAtAComma
tokens-first first behind is ts e =
    let good : AllGood (tokens (is.front ++ 125 ∷ [])) = rw is.closed at is.good in
    ap (λ text. tokens (text ++ 44 ∷ behind)) is.closed ∙ tokens-cut is.front behind good ts e ∙ ap (λ text. tokens text ++ tokens behind) (sym is.closed)

-- a text whose last byte is a closing brace is a first part, where none of its tokens is bad
pub first_from_last : (text : List ℕ) → 0 < length text → get_or text (length text - 1) 0 ≡ 125 → AllGood (tokens text) → First text
first_from_last text some last good =
    let n = length text - 1 in
    let le : n < length text = omega arith in
    let all : n + 1 ≡ length text = omega arith in
    record {
      front = take n text;
      closed = sym (take_all (length text) text (omega arith)) ∙ ap (λ k. take k text) (sym all) ∙ take_more text n 0 le ∙ ap (λ x. take n text ++ x ∷ []) last;
      good = good;
    }

pub AllGood-append : (ts us : List Token) → AllGood ts → AllGood us → AllGood (ts ++ us)
AllGood-append [] us h g = g
AllGood-append (t ∷ ts) us h g = (h.0, AllGood-append ts us h.1 g)
