-- What is written for a value: its tokens, after those that stand.
use Rattle.std.specs.Prelude.{◌≡◌, List, [], ◌∷◌, ◌++◌, ℕ, Option, Some, None, OnOk, Result}
use Rattle.json.specs.Token.{Token, key}
use Rattle.json.specs.Tree.{json_tokens}
use Rattle.json.specs.Written.{Written}
use Rattle.raw_document.specs.declared.key.DocKey.TheVariants as keys
use Rattle.raw_document.specs.Words.{word}
use Rattle.serde_json.specs.Data.{Data}
use Rattle.serde_json.specs.Written.{outline}
use Rattle.doc_maker.specs.Layout.{function_value, list_value, path_value, job_value, user_value}
use Rattle.doc_maker.specs.Made.{Size, made_path_groups, made_job, made_user}

-- the tokens of a value without floats
abbrev pub tokens_of : Data → List Token
tokens_of d = json_tokens (outline d)

-- the tokens of the items, without brackets
abbrev pub each_tokens : {A : Type 0} → (A → Data) → List A → List Token
each_tokens value [] = []
each_tokens value (x ∷ items) = tokens_of (value x) ++ each_tokens value items

-- the member of a function, where there is one
abbrev pub function_tokens : Option (List (ℕ × ℕ)) → List Token
function_tokens None = []
function_tokens (Some points) = key (word keys.Function) ∷ tokens_of (function_value points)

-- the path groups, the jobs and the users of a made group
unfoldable pub paths_tokens : Size → ℕ → List Token
paths_tokens size group =
    tokens_of (list_value (list_value path_value) (made_path_groups size group))

unfoldable pub jobs_tokens : Size → ℕ → List Token
jobs_tokens size group = tokens_of (list_value job_value (made_job size group ∷ []))

unfoldable pub users_tokens : Size → ℕ → List Token
users_tokens size group = tokens_of (list_value user_value (made_user size group ∷ []))

-- these tokens were added to what stood
abbrev pub Added : Written → Written → List Token → Type 0
Added old new tokens = (new.tokens ≡ old.tokens ++ tokens) × (new.before ≡ old.before)

-- the same, unless memory ran out
abbrev pub Adds : {E : Type 0} → Result (Unit {0}) E → Written → Written → List Token → Type 0
Adds result old new tokens = OnOk result (Added old new tokens)
