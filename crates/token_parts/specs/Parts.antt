-- A text that may be cut behind a closing brace.
use Rattle.std.specs.Prelude.{◌≡◌, ℕ, List, [], ◌∷◌, ◌++◌, true}
use Rattle.json.specs.Token.{Token}
use Rattle.json.specs.Lex.{tokens}
use Rattle.json.specs.Align.{is_good}

-- no token is bad
abbrev pub AllGood : List Token → Type 0
AllGood [] = Unit {0}
AllGood (t ∷ ts) = (is_good t ≡ true) × AllGood ts

-- the text in front of a cut: it ends in a closing brace (125), and none of its tokens is bad
pub record First (text : List ℕ) : Type 0 where
  pub front : List ℕ
  pub closed : text ≡ front ++ 125 ∷ []
  pub good : AllGood (tokens text)
