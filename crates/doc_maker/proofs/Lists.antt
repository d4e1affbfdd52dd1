-- Tokens that are added one after the other, and lists of them.
use Rattle.std.proofs.Common.{◌≡◌, ℕ, ◌+◌, ◌<◌, List, [], ◌∷◌, ◌++◌, map, take, length, get_or, append_assoc, append-nil, Result, Ok, Err, Option, Some, None, codes, refl, ap, ◌∙◌, sym, arith}
use Rattle.std.proofs.lemmas.List.{take_more}
use Rattle.std.proofs.lemmas.List.FromFn.{map-range_with_len_more}
use Rattle.json.specs.Token.{Token, begin_array, end_array, begin_object, end_object, key, string}
use Rattle.json.specs.Tree.{items_tokens, members_tokens}
use Rattle.json.specs.Written.{Written, Writes}
use Rattle.raw_document.specs.declared.key.DocKey.{DocKey}
use Rattle.serde_json.specs.Data.{Data}
use Rattle.serde_json.specs.Data as datum
use Rattle.serde_json.specs.View.{items_of}
use Rattle.serde_json.specs.Written.{items_outline, members_outline}
use Rattle.bwe_specs.specs.Reports.{numbers}
use Rattle.doc_maker.specs.Layout.{list_value, members_with, with_function, job_value, user_value, group_value}
use Rattle.doc_maker.specs.Made.{Size, numbered, user_function, made_job, made_user, made_group}
use Rattle.raw_document.specs.Words.{word}
use Rattle.raw_document.specs.declared.key.DocKey.TheVariants as keys
use Rattle.doc_maker.specs.Writing.{tokens_of, each_tokens, function_tokens, paths_tokens, jobs_tokens, users_tokens, Added, Adds}

-- ---- one after the other

pub wrote : {E : Type 0} (old new : Written) (t : Token) → Writes {E = E} (Ok tt) old new t → Added old new (t ∷ [])
wrote old new t h = (h.ok, h.room.0)

pub added_as : (old new : Written) (given tokens : List Token) → given ≡ tokens → Added old new given → Added old new tokens
added_as old new given tokens e h = (h.0 ∙ ap (λ ts. old.tokens ++ ts) e, h.1)

pub also : (old mid new : Written) (first more : List Token) → Added old mid first → Added mid new more → Added old new (first ++ more)
also old mid new first more before e = (e.0 ∙ ap (λ ts. ts ++ more) before.0 ∙ append_assoc old.tokens first more, e.1 ∙ before.1)

pub finally : {E : Type 0} (r : Result (Unit {0}) E) (old new : Written) (t : Token) → Writes r old new t → Adds r old new (t ∷ [])
finally (Ok tt) old new t h = wrote old new t h
finally (Err e) old new t h = tt

pub then : {E : Type 0} (r : Result (Unit {0}) E) (old mid new : Written) (first more : List Token) → Added old mid first → Adds r mid new more → Adds r old new (first ++ more)
then (Ok u) old mid new first more before h = also old mid new first more before h
then (Err e) old mid new first more before h = tt

pub adds_as : {E : Type 0} (r : Result (Unit {0}) E) (old new : Written) (given tokens : List Token) → given ≡ tokens → Adds r old new given → Adds r old new tokens
adds_as (Ok u) old new given tokens e h = added_as old new given tokens e h
adds_as (Err f) old new given tokens e h = tt

-- ---- lists

module _ {A : Type 0} (value : A → Data) where
  items-each : (xs : List A) → each_tokens value xs ++ end_array ∷ [] ≡ items_tokens (items_outline (items_of (map value xs)))
  items-each [] = refl
  items-each (x ∷ xs) = append_assoc (tokens_of (value x)) (each_tokens value xs) (end_array ∷ []) ∙ ap (λ tokens. tokens_of (value x) ++ tokens) (items-each xs)

  each-push : (xs : List A) (x : A) → each_tokens value xs ++ tokens_of (value x) ≡ each_tokens value (xs ++ x ∷ [])
  each-push [] x = sym (append-nil (tokens_of (value x)))
  each-push (y ∷ xs) x = append_assoc (tokens_of (value y)) (each_tokens value xs) (tokens_of (value x)) ∙ ap (λ tokens. tokens_of (value y) ++ tokens) (each-push xs x)

  -- the whole list, from its opening bracket to its closing one
  pub list_done : {E : Type 0} (r : Result (Unit {0}) E) (old opened now new : Written) (xs : List A) → Added old opened (begin_array ∷ []) → Added opened now (each_tokens value xs) → Writes r now new end_array
      → Adds r old new (tokens_of (list_value value xs))
  list_done (Err e) old opened now new xs start items close = tt
  list_done (Ok tt) old opened now new xs start items close =
      added_as old new (begin_array ∷ (each_tokens value xs ++ end_array ∷ [])) (tokens_of (list_value value xs)) (ap (λ tokens. begin_array ∷ tokens) (items-each xs))
      (also old opened new (begin_array ∷ []) (each_tokens value xs ++ end_array ∷ []) start (also opened now new (each_tokens value xs) (end_array ∷ []) items (wrote now new end_array close)))

  -- with one number more, all numbers up to it are written
  pub one_more : (make : ℕ → A) (start old new : Written) (n : ℕ) → Added start old (each_tokens value (map make (numbers n))) → Added old new (tokens_of (value (make n)))
      → Added start new (each_tokens value (map make (numbers (n + 1))))
  one_more make start old new n before e =
      added_as start new _ (each_tokens value (map make (numbers (n + 1))))
      (each-push (map make (numbers n)) (make n) ∙ ap (each_tokens value) (sym (map-range_with_len_more make 0 n n (omega arith))))
      (also start old new (each_tokens value (map make (numbers n))) (tokens_of (value (make n))) before e)

  -- the first items, and one item more
  pub item_more : (items : List A) (start old new : Written) (n : ℕ) (d : A) → Added start old (each_tokens value (take n items)) → n < length items → Added old new (tokens_of (value (get_or items n d)))
      → Added start new (each_tokens value (take (n + 1) items))
  item_more items start old new n d before within e =
      added_as start new _ (each_tokens value (take (n + 1) items))
      (each-push (take n items) (get_or items n d) ∙ ap (each_tokens value) (sym (take_more items n d within)))
      (also start old new (each_tokens value (take n items)) (tokens_of (value (get_or items n d))) before e)

  -- where all items are those written and those still to come, the first to come has come
  pub one_less_left : (make : ℕ → A) (old new : List Token) (first : ℕ) (left rest : List ℕ) (all : List Token) → old ++ each_tokens value (map make left) ≡ all → left ≡ first ∷ rest → new ≡ old ++ tokens_of (value (make first))
      → new ++ each_tokens value (map make rest) ≡ all
  one_less_left make old new first left rest all before is e =
      ap (λ tokens. tokens ++ each_tokens value (map make rest)) e ∙ append_assoc old (tokens_of (value (make first))) (each_tokens value (map make rest))
      ∙ ap (λ xs. old ++ each_tokens value (map make xs)) (sym is) ∙ before

-- ---- a function before the other members

pub function_first : (function : Option (List (ℕ × ℕ))) (rest : List (DocKey × Data))
    → function_tokens function ++ members_tokens (members_outline (members_with rest)) ≡ members_tokens (members_outline (members_with (with_function function rest)))
function_first None rest = refl
function_first (Some points) rest = refl

-- the members of a group one after the other
pub group_tokens : (size : Size) (group : ℕ)
    → begin_object ∷ key (word keys.From) ∷ string (codes "a") ∷ key (word keys.Name) ∷ string (numbered (codes "g") group) ∷ key (word keys.Paths)
    ∷ (paths_tokens size group ++ key (word keys.To) ∷ string (codes "b") ∷ key (word keys.Users) ∷ (users_tokens size group ++ end_object ∷ []))
    ≡ tokens_of (group_value (made_group size group))
unfolding paths_tokens users_tokens
group_tokens size group = refl

-- the members of a user one after the other
pub user_tokens : (size : Size) (group : ℕ)
    → begin_object ∷ (function_tokens (user_function group) ++ key (word keys.Jobs) ∷ (jobs_tokens size group ++ key (word keys.Name) ∷ string (codes "u0") ∷ end_object ∷ []))
    ≡ tokens_of (user_value (made_user size group))
unfolding jobs_tokens
user_tokens size group = ap (λ tokens. begin_object ∷ tokens) (function_first (user_function group) ((keys.Jobs, list_value job_value (made_job size group ∷ [])) ∷ (keys.Name, datum.string (codes "u0")) ∷ []))
