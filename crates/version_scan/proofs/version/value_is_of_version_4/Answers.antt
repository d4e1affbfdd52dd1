use Rattle.std.proofs.Common.{◌≡◌, List, [], ◌∷◌, refl, sym, ap, ◌∙◌, arith}
use Rattle.json.specs.Token.{Token}
use Rattle.json.specs.Json.{parse_map, value}
use Rattle.json.specs.Reads.{token_of}
use Rattle.serde_json.specs.Data.{object}
use Rattle.serde_json.specs.Read.{of_json, converted}
use Rattle.version_scan.specs.Passing.{is_4_read, opens_object}
use Rattle.version_scan.proofs.Tokens.{begin_object-from, object_is, other_value}
use Rattle.version_scan.proofs.version.value_is_of_version_4.Goals as goal

pub returns-in_default-clause-no : goal.returns-in_default-clause-no
returns-in_default-clause-no c = λ _.
    let empty : c.args.reader.now ≡ [] = grind arith in
    ap (λ (ts : List Token). is_4_read (converted of_json (value c.args.depth ts))) empty ∙ other_value c.args.depth [] refl

pub returns-then-not-begins_object-clause-no : goal.returns-then-not-begins_object-clause-no
returns-then-not-begins_object-clause-no c = λ _.
    let first : c.args.reader.now ≡ token_of c.in-Some.token ∷ c.next.new.self = grind arith in
    other_value c.args.depth c.args.reader.now (ap opens_object first ∙ sym c.begins_object.ensures ∙ c.if-not-begins_object.true)

pub returns-in-Some-members_are_of_version_4-clause-yes : goal.returns-in-Some-members_are_of_version_4-clause-yes
returns-in-Some-members_are_of_version_4-clause-yes c = λ yes.
    let first : c.args.reader.now ≡ token_of c.in-Some.token ∷ c.next.new.self = grind arith in
    let brace = begin_object-from (token_of c.in-Some.token) (sym c.begins_object.ensures ∙ c.if-not-begins_object.false) in
    let is : c.args.reader.now ≡ Token.begin_object ∷ c.next.new.self = first ∙ ap (λ t. t ∷ c.next.new.self) brace in
    let found = c.in-Some-members_are_of_version_4.ensures.passed in (
      object found.0,
      ap (λ (ts : List Token). converted of_json (value c.args.depth ts)) is ∙ object_is c.args.depth c.next.new.self c.requires ∙ ap (parse_map object) found.1,
      sym found.2 ∙ yes,
    )

pub returns-in-Some-members_are_of_version_4-clause-no : goal.returns-in-Some-members_are_of_version_4-clause-no
returns-in-Some-members_are_of_version_4-clause-no c = λ no.
    let first : c.args.reader.now ≡ token_of c.in-Some.token ∷ c.next.new.self = grind arith in
    let brace = begin_object-from (token_of c.in-Some.token) (sym c.begins_object.ensures ∙ c.if-not-begins_object.false) in
    let is : c.args.reader.now ≡ Token.begin_object ∷ c.next.new.self = first ∙ ap (λ t. t ∷ c.next.new.self) brace in
    let found = c.in-Some-members_are_of_version_4.ensures.passed in
    ap is_4_read (ap (λ (ts : List Token). converted of_json (value c.args.depth ts)) is ∙ object_is c.args.depth c.next.new.self c.requires ∙ ap (parse_map object) found.1) ∙ sym found.2 ∙ no

pub returns-in-None-clause-no : goal.returns-in-None-clause-no
returns-in-None-clause-no c = λ _.
    let first : c.args.reader.now ≡ token_of c.in-Some.token ∷ c.next.new.self = grind arith in
    let brace = begin_object-from (token_of c.in-Some.token) (sym c.begins_object.ensures ∙ c.if-not-begins_object.false) in
    let is : c.args.reader.now ≡ Token.begin_object ∷ c.next.new.self = first ∙ ap (λ t. t ∷ c.next.new.self) brace in
    ap is_4_read (ap (λ (ts : List Token). converted of_json (value c.args.depth ts)) is ∙ object_is c.args.depth c.next.new.self c.requires ∙ ap (parse_map object) (c.in-None.ensures.refused refl))
