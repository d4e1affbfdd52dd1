use Rattle.std.proofs.Common.{◌≡◌, List, [], ◌∷◌, None, Some, IfSome, IsNone, refl, sym, ap, ap₂, ◌∙◌, subst, arith}
use Rattle.json.specs.Token.{Token}
use Rattle.json.specs.Json.{parse_map, after_end_array, read_key, value}
use Rattle.json.specs.Reads.{token_of}
use Rattle.json.proofs.Grammar.{value_is}
use Rattle.serde_json.specs.Data.{null, boolean, string, array, object, no_members, put}
use Rattle.serde_json.specs.Read.{of_json, converted}
use Rattle.raw_document.specs.Shape.{number_of}
use Rattle.version_scan.specs.Passing.{Passes}
use Rattle.version_scan.proofs.Loops.{Amid-start, Amid-more, Amid-end, Amid-refused, Within-start, Within-more, Within-end, Within-no_key, Within-refused}
use Rattle.version_scan.proofs.Tokens.{array_is, object_is, string_is, boolean_is, null_is, number_passed, number_refused}
use Rattle.version_scan.proofs.passing.+pass.Goals as goal

pub pass-returns-in_err-next-clause-refused : goal.pass-returns-in_err-next-clause-refused
pass-returns-in_err-next-clause-refused t c = λ _.
    let empty : c.args.reader.now ≡ [] = grind arith in
    ap (converted of_json) (ap (value c.args.depth) empty ∙ value_is c.args.depth [])

pub pass-returns-then-depth-eq0-clause-refused : goal.pass-returns-then-depth-eq0-clause-refused
unfolding value
pass-returns-then-depth-eq0-clause-refused t c = λ _.
    let first : c.args.reader.now ≡ token_of c.in_ok-next.field-0 ∷ c.next.new.self = grind arith in
    let none : c.args.depth ≡ 0 = omega arith in
    ap (converted of_json) (ap₂ value none (first ∙ ap (λ k. token_of k ∷ c.next.new.self) c.in-BeginArray.is))

pub pass-returns-then-depth-eq0-2-clause-refused : goal.pass-returns-then-depth-eq0-2-clause-refused
unfolding value
pass-returns-then-depth-eq0-2-clause-refused t c = λ _.
    let first : c.args.reader.now ≡ token_of c.in_ok-next.field-0 ∷ c.next.new.self = grind arith in
    let none : c.args.depth ≡ 0 = omega arith in
    ap (converted of_json) (ap₂ value none (first ∙ ap (λ k. token_of k ∷ c.next.new.self) c.in-BeginObject.is))

pub pass-returns-in_err-pass_items-in-BeginArray-clause-refused : goal.pass-returns-in_err-pass_items-in-BeginArray-clause-refused
pass-returns-in_err-pass_items-in-BeginArray-clause-refused t c = λ _.
    let first : c.args.reader.now ≡ token_of c.in_ok-next.field-0 ∷ c.next.new.self = grind arith in
    let is = first ∙ ap (λ k. token_of k ∷ c.next.new.self) c.in-BeginArray.is in
    ap (λ ts. converted of_json (value c.args.depth ts)) is ∙ array_is c.args.depth c.next.new.self (omega arith) ∙ ap (parse_map array) (c.in_err-pass_items-in-BeginArray.ensures.refused refl)

pub pass-returns-in_err-pass_members-in-BeginObject-clause-refused : goal.pass-returns-in_err-pass_members-in-BeginObject-clause-refused
pass-returns-in_err-pass_members-in-BeginObject-clause-refused t c = λ _.
    let first : c.args.reader.now ≡ token_of c.in_ok-next.field-0 ∷ c.next.new.self = grind arith in
    let is = first ∙ ap (λ k. token_of k ∷ c.next.new.self) c.in-BeginObject.is in
    ap (λ ts. converted of_json (value c.args.depth ts)) is ∙ object_is c.args.depth c.next.new.self (omega arith) ∙ ap (parse_map object) (c.in_err-pass_members-in-BeginObject.ensures.refused refl)

pub pass-returns-in-String-clause-passed : goal.pass-returns-in-String-clause-passed
pass-returns-in-String-clause-passed t c =
    let first : c.args.reader.now ≡ token_of c.in_ok-next.field-0 ∷ c.next.new.self = grind arith in
    let is : c.args.reader.now ≡ Token.string c.in-String.field-0.now ∷ c.next.new.self = grind (arith, first) in
    (string c.in-String.field-0.now, ap (λ ts. converted of_json (value c.args.depth ts)) is ∙ string_is c.args.depth _ _, refl)

pub pass-returns-in-Bool-clause-passed : goal.pass-returns-in-Bool-clause-passed
pass-returns-in-Bool-clause-passed t c =
    let first : c.args.reader.now ≡ token_of c.in_ok-next.field-0 ∷ c.next.new.self = grind arith in
    let is : c.args.reader.now ≡ Token.boolean c.in-Bool.field-0 ∷ c.next.new.self = grind (arith, first) in
    (boolean c.in-Bool.field-0, ap (λ ts. converted of_json (value c.args.depth ts)) is ∙ boolean_is c.args.depth _ _, refl)

pub pass-returns-in-Null-clause-passed : goal.pass-returns-in-Null-clause-passed
pass-returns-in-Null-clause-passed t c =
    let first : c.args.reader.now ≡ token_of c.in_ok-next.field-0 ∷ c.next.new.self = grind arith in
    let is : c.args.reader.now ≡ Token.null ∷ c.next.new.self = grind (arith, first) in
    (null, ap (λ ts. converted of_json (value c.args.depth ts)) is ∙ null_is c.args.depth _, refl)

pub pass-returns-in-Number-clause-passed : goal.pass-returns-in-Number-clause-passed
pass-returns-in-Number-clause-passed t c =
    let first : c.args.reader.now ≡ token_of c.in_ok-next.field-0 ∷ c.next.new.self = grind arith in
    let is : c.args.reader.now ≡ Token.number c.in-Number.digits.now ∷ c.next.new.self = grind (arith, first) in
    subst (λ (old : List Token). IfSome c.number.result (λ whole. Passes c.args.depth old c.next.new.self (λ d. whole ≡ number_of d))) (sym is)
    (subst (λ r. IfSome r (λ whole. Passes c.args.depth (Token.number c.in-Number.digits.now ∷ c.next.new.self) c.next.new.self (λ d. whole ≡ number_of d))) (sym c.number.ensures)
    (number_passed c.args.depth c.in-Number.digits.now c.next.new.self))

pub pass-returns-in-Number-clause-refused : goal.pass-returns-in-Number-clause-refused
pass-returns-in-Number-clause-refused t c = λ none.
    let first : c.args.reader.now ≡ token_of c.in_ok-next.field-0 ∷ c.next.new.self = grind arith in
    let is : c.args.reader.now ≡ Token.number c.in-Number.digits.now ∷ c.next.new.self = grind (arith, first) in
    ap (λ ts. converted of_json (value c.args.depth ts)) is ∙ number_refused c.args.depth c.in-Number.digits.now c.next.new.self (subst (λ r. IsNone r) c.number.ensures none)

pub pass-returns-in-EndObject-clause-refused : goal.pass-returns-in-EndObject-clause-refused
pass-returns-in-EndObject-clause-refused t c = λ _.
    let first : c.args.reader.now ≡ token_of c.in_ok-next.field-0 ∷ c.next.new.self = grind arith in
    let none : value c.args.depth c.args.reader.now ≡ None = rw (value_is c.args.depth c.args.reader.now, first) (grind arith) in
    ap (converted of_json) none

pub pass-returns-in_ok-pass_items-in-BeginArray-clause-passed : goal.pass-returns-in_ok-pass_items-in-BeginArray-clause-passed
pass-returns-in_ok-pass_items-in-BeginArray-clause-passed t c =
    let first : c.args.reader.now ≡ token_of c.in_ok-next.field-0 ∷ c.next.new.self = grind arith in
    let is = first ∙ ap (λ k. token_of k ∷ c.next.new.self) c.in-BeginArray.is in
    let found = c.in_ok-pass_items-in-BeginArray.ensures.passed in
    (array found.0, ap (λ ts. converted of_json (value c.args.depth ts)) is ∙ array_is c.args.depth c.next.new.self (omega arith) ∙ ap (parse_map array) found.1, refl)

pub pass-returns-in_ok-pass_members-in-BeginObject-clause-passed : goal.pass-returns-in_ok-pass_members-in-BeginObject-clause-passed
pass-returns-in_ok-pass_members-in-BeginObject-clause-passed t c =
    let first : c.args.reader.now ≡ token_of c.in_ok-next.field-0 ∷ c.next.new.self = grind arith in
    let is = first ∙ ap (λ k. token_of k ∷ c.next.new.self) c.in-BeginObject.is in
    let found = c.in_ok-pass_members-in-BeginObject.ensures.passed in
    (object found.0, ap (λ ts. converted of_json (value c.args.depth ts)) is ∙ object_is c.args.depth c.next.new.self (omega arith) ∙ ap (parse_map object) found.1, refl)

pub pass_items-items-init : goal.pass_items-items-init
pass_items-items-init t c = Amid-start c.args.depth c.args.reader.now

pub pass_items-items-preserved : goal.pass_items-items-preserved
pass_items-items-preserved t c =
    let now = c.items.reader in
    let going : (after_end_array now ≡ None) × (c.take_end_array.new.self ≡ now) = grind arith in
    let done = c.in_ok-pass.ensures in
    Amid-more c.args.depth c.args.reader.now now c.pass.new.reader done.passed.0 c.items.invariant going.0 (rw (← going.1) done.passed.1) (rw (← going.1) done.shorter)

pub pass_items-returns-in_err-pass-clause-refused : goal.pass_items-returns-in_err-pass-clause-refused
pass_items-returns-in_err-pass-clause-refused t c = λ _.
    let now = c.items.reader in
    let going : (after_end_array now ≡ None) × (c.take_end_array.new.self ≡ now) = grind arith in
    Amid-refused c.args.depth c.args.reader.now now c.items.invariant going.0 (rw (← going.1) (c.in_err-pass.ensures.refused refl))

pub pass_items-returns-clause-passed : goal.pass_items-returns-clause-passed
pass_items-returns-clause-passed t c =
    let over : after_end_array c.items.reader ≡ Some c.take_end_array.new.self = grind arith in
    Amid-end c.args.depth c.args.reader.now c.items.reader c.take_end_array.new.self c.items.invariant over

pub pass_members-members-init : goal.pass_members-members-init
pass_members-members-init t c = (no_members, Within-start c.args.depth c.args.reader.now)

pub pass_members-returns-in_err-ok-clause-refused : goal.pass_members-returns-in_err-ok-clause-refused
pass_members-returns-in_err-ok-clause-refused t c = λ _.
    let none : read_key c.members.reader ≡ None = grind arith in
    Within-no_key c.args.depth c.args.reader.now c.members.reader c.members.invariant.0 c.members.invariant.1 none

pub pass_members-members-preserved : goal.pass_members-members-preserved
pass_members-members-preserved t c =
    let l = c.members in
    let k = c.in-Some.field-0.now in
    let inside = c.next_key.new.self in
    let named : read_key l.reader ≡ Some (Some k, inside) = grind arith in
    let done = c.in_ok-pass.ensures in
    (put k done.passed.0 l.invariant.0, Within-more c.args.depth c.args.reader.now l.reader inside c.pass.new.reader k done.passed.0 l.invariant.0 l.invariant.1 named done.passed.1 done.shorter)

pub pass_members-returns-in_err-pass-clause-refused : goal.pass_members-returns-in_err-pass-clause-refused
pass_members-returns-in_err-pass-clause-refused t c = λ _.
    let l = c.members in
    let k = c.in-Some.field-0.now in
    let inside = c.next_key.new.self in
    let named : read_key l.reader ≡ Some (Some k, inside) = grind arith in
    Within-refused c.args.depth c.args.reader.now l.reader inside k l.invariant.0 l.invariant.1 named (c.in_err-pass.ensures.refused refl)

pub pass_members-returns-clause-passed : goal.pass_members-returns-clause-passed
pass_members-returns-clause-passed t c =
    let over : read_key c.members.reader ≡ Some (None, c.next_key.new.self) = grind arith in
    (c.members.invariant.0, Within-end c.args.depth c.args.reader.now c.members.reader c.next_key.new.self c.members.invariant.0 c.members.invariant.1 over)
