-- The law of a text that is cut at a comma.
use Rattle.std.specs.Prelude.{◌≡◌, ℕ, List, ◌∷◌, ◌++◌}
use Rattle.json.specs.Token.{Token, begin_object}
use Rattle.json.specs.Lex.{tokens}
use Rattle.token_parts.specs.Parts.{First}

-- Cut at a comma (44): where the text behind the comma begins with an opening brace, the tokens of
-- the whole are those of its parts, one after the other
abbrev pub CutAtAComma : Type 0
CutAtAComma = (first behind : List ℕ) → First first
    → (ts : List Token) → tokens behind ≡ begin_object ∷ ts
    → tokens (first ++ 44 ∷ behind) ≡ tokens first ++ tokens behind
