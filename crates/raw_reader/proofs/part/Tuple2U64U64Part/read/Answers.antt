use Rattle.std.proofs.Common.{◌≡◌, ◌∷◌, ap, ◌∙◌, refl, arith}
use Rattle.json.specs.Token.{begin_array, end_array, number}
use Rattle.json.specs.Json.{value}
use Rattle.serde_json.specs.Data as datum
use Rattle.serde_json.specs.Read.{of_json, converted}
use Rattle.raw_document.specs.Shape.{point, pair_of}
use Rattle.raw_reader.proofs.Reading.{two_numbers}
use Rattle.raw_reader.proofs.part.Tuple2U64U64Part.read.Goals as goal

pub returns-in-EndArray-clause-value : goal.returns-in-EndArray-clause-value
unfolding point pair_of
returns-in-EndArray-clause-value c =
    let first = c.in_ok-share.ensures in
    let second = c.in_ok-amount.ensures in
    let bracket = c.in_ok-open_array.ensures in
    let closed : c.number-2.new.reader ≡ end_array ∷ c.next.new.self = grind arith in
    let whole : c.args.reader.now ≡ begin_array ∷ number first.0 ∷ number second.0 ∷ end_array ∷ c.next.new.self =
    bracket.0 ∙ ap (λ ts. begin_array ∷ ts) (first.1 ∙ ap (λ ts. number first.0 ∷ ts) (second.1 ∙ ap (λ ts. number second.0 ∷ ts) closed)) in (
      datum.array (datum.item (datum.number (datum.unsigned c.in_ok-share.share)) (datum.item (datum.number (datum.unsigned c.in_ok-amount.amount)) datum.no_items)),
      ap (λ ts. converted of_json (value c.args.depth ts)) whole ∙ two_numbers c.args.depth first.0 second.0 _ _ c.next.new.self bracket.1 first.2 second.2,
      refl,
    )
