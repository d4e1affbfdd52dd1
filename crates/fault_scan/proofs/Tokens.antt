-- What a number token and the items of an array are.
use Rattle.std.proofs.Common.{◌≡◌, ℕ, List, [], ◌∷◌, Option, Some, None, option_map, refl, sym, ap, ap₂, ◌∙◌}
use Rattle.json.specs.Token.{Token}
use Rattle.json.specs.Json.{value}
use Rattle.serde_json.specs.Data.{Data, Num, number}
use Rattle.serde_json.specs.Find.{as_u64}
use Rattle.serde_json.specs.Read as spec
use Rattle.serde_json.specs.Read.{of_json, converted}
use Rattle.raw_document.specs.Reading.{check}
use Rattle.raw_reader.specs.Takes.{EachRead}
use Rattle.version_scan.proofs.Tokens.{number_is}
use Rattle.fault_scan.specs.declared.kinds.Kind.{Kind}
use Rattle.fault_scan.specs.Kinds.{at, takes_number}
use Rattle.fault_scan.proofs.Forms.{number_at}

pub number_told : (version : ℕ) (kind : Kind) (depth : ℕ) (s : List ℕ) (ts : List Token) (r : Option (Option ℕ)) (whole : Option ℕ) → r ≡ option_map as_u64 (spec.number_of s) → r ≡ Some whole
    → (d : Data) × (converted of_json (value depth (Token.number s ∷ ts)) ≡ Some (d, ts)) × (at version kind d ≡ check (takes_number version kind whole))
number_told version kind depth s ts r whole is some = go (spec.number_of s) (number_is depth s ts) (sym is ∙ some) where
  go : (o : Option Num) → converted of_json (value depth (Token.number s ∷ ts)) ≡ option_map (λ n. (number n, ts)) o → option_map as_u64 o ≡ Some whole
      → (d : Data) × (converted of_json (value depth (Token.number s ∷ ts)) ≡ Some (d, ts)) × (at version kind d ≡ check (takes_number version kind whole))
  go None e some = absurd cc
  go (Some n) e some =
      let same : as_u64 n ≡ whole = cc in
      (number n, e, number_at version kind n ∙ ap (λ w. check (takes_number version kind w)) same)

pub same_items : (ds xs : List Data) → EachRead (λ (d x : Data). d ≡ x) ds xs → ds ≡ xs
same_items [] [] h = refl
same_items [] (x ∷ xs) h = absurd h
same_items (d ∷ ds) [] h = absurd h
same_items (d ∷ ds) (x ∷ xs) h = ap₂ (λ y ys. y ∷ ys) h.0 (same_items ds xs h.1)
