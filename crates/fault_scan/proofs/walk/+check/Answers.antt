use Rattle.std.proofs.Common.{◌≡◌, [], ◌∷◌, ◌++◌, None, Some, refl, sym, ap, ◌∙◌, subst, arith}
use Rattle.json.specs.Token.{Token}
use Rattle.json.specs.Json.{parse_map, after_end_array, read_key, value}
use Rattle.json.specs.Reads.{token_of}
use Rattle.json.proofs.Grammar.{read_key-shorter}
use Rattle.serde_json.specs.Data.{Data, null, boolean, string, array, object, no_items}
use Rattle.serde_json.specs.Read.{of_json, converted}
use Rattle.raw_document.specs.Reading.{check}
use Rattle.raw_document.specs.Shape.{list_items}
use Rattle.raw_reader.specs.Walks.{items_before}
use Rattle.raw_reader.proofs.Reading.{Amid-start, Amid-more, Amid-end, listed, Within-start, Within-more, Within-end}
use Rattle.version_scan.proofs.Tokens.{array_is, object_is, string_is, boolean_is, null_is}
use Rattle.fault_scan.specs.Kinds.{at}
use Rattle.fault_scan.specs.Tables.{item_at}
use Rattle.fault_scan.specs.Seen.{Tells, Holds, ItemsAre, are_apart}
use Rattle.fault_scan.proofs.Forms.{text_at, boolean_at, null_at}
use Rattle.fault_scan.proofs.Entries.{fields_apart}
use Rattle.fault_scan.proofs.Tokens.{number_told, same_items}
use Rattle.fault_scan.proofs.walk.+check.Goals as goal

pub check-returns-in-String-clause-value : goal.check-returns-in-String-clause-value
check-returns-in-String-clause-value t c =
    let first : c.args.reader.now ≡ token_of c.in_ok-next.field-0 ∷ c.next.new.self = grind arith in
    let is : c.args.reader.now ≡ Token.string c.in-String.field-0.now ∷ c.next.new.self = grind (arith, first) in (
      string c.in-String.field-0.now,
      ap (λ ts. converted of_json (value c.args.depth ts)) is ∙ string_is c.args.depth _ _,
      subst (λ r. Tells c.fine_if.result r) (sym (text_at c.args.version c.args.kind _ ∙ ap check (sym c.takes_text.ensures))) c.fine_if.ensures,
    )

pub check-returns-in-Bool-clause-value : goal.check-returns-in-Bool-clause-value
check-returns-in-Bool-clause-value t c =
    let first : c.args.reader.now ≡ token_of c.in_ok-next.field-0 ∷ c.next.new.self = grind arith in
    let is : c.args.reader.now ≡ Token.boolean c.in-Bool.field-0 ∷ c.next.new.self = grind (arith, first) in (
      boolean c.in-Bool.field-0,
      ap (λ ts. converted of_json (value c.args.depth ts)) is ∙ boolean_is c.args.depth _ _,
      subst (λ r. Tells c.fine_if-in-Bool.result r) (sym (boolean_at c.args.version c.args.kind _ ∙ ap check (sym c.takes_all.ensures))) c.fine_if-in-Bool.ensures,
    )

pub check-returns-in-Null-clause-value : goal.check-returns-in-Null-clause-value
check-returns-in-Null-clause-value t c =
    let first : c.args.reader.now ≡ token_of c.in_ok-next.field-0 ∷ c.next.new.self = grind arith in
    let is : c.args.reader.now ≡ Token.null ∷ c.next.new.self = grind (arith, first) in (
      null,
      ap (λ ts. converted of_json (value c.args.depth ts)) is ∙ null_is c.args.depth _,
      subst (λ r. Tells c.fine_if-in-Null.result r) (sym (null_at c.args.version c.args.kind ∙ ap check (sym c.takes_all-in-Null.ensures))) c.fine_if-in-Null.ensures,
    )

pub check-returns-in_ok-whole-in-Number-clause-value : goal.check-returns-in_ok-whole-in-Number-clause-value
check-returns-in_ok-whole-in-Number-clause-value t c =
    let first : c.args.reader.now ≡ token_of c.in_ok-next.field-0 ∷ c.next.new.self = grind arith in
    let is : c.args.reader.now ≡ Token.number c.in-Number.digits.now ∷ c.next.new.self = grind (arith, first) in
    let told = number_told c.args.version c.args.kind c.args.depth c.in-Number.digits.now c.next.new.self _ _ c.number.ensures c.in_ok-whole-in-Number.was in (
      told.0,
      ap (λ ts. converted of_json (value c.args.depth ts)) is ∙ told.1,
      subst (λ r. Tells c.fine_if-in-Number.result r) (sym (told.2 ∙ ap check (sym c.takes_number.ensures))) c.fine_if-in-Number.ensures,
    )

pub check-returns-in_ok-items-in-BeginArray-clause-value : goal.check-returns-in_ok-items-in-BeginArray-clause-value
check-returns-in_ok-items-in-BeginArray-clause-value t c =
    let first : c.args.reader.now ≡ token_of c.in_ok-next.field-0 ∷ c.next.new.self = grind arith in
    let is = first ∙ ap (λ k. token_of k ∷ c.next.new.self) c.in-BeginArray.is in
    let found = c.in_ok-items-in-BeginArray.ensures.value in
    (array found.0, ap (λ ts. converted of_json (value c.args.depth ts)) is ∙ array_is c.args.depth c.next.new.self (omega arith) ∙ ap (parse_map array) found.1, c.fault.ensures c.args.version found.0 found.2)

pub check-returns-in_ok-seen-in-BeginObject-clause-value : goal.check-returns-in_ok-seen-in-BeginObject-clause-value
check-returns-in_ok-seen-in-BeginObject-clause-value t c =
    let first : c.args.reader.now ≡ token_of c.in_ok-next.field-0 ∷ c.next.new.self = grind arith in
    let is = first ∙ ap (λ k. token_of k ∷ c.next.new.self) c.in-BeginObject.is in
    let found = c.in_ok-seen-in-BeginObject.ensures.value in
    (object found.0, ap (λ ts. converted of_json (value c.args.depth ts)) is ∙ object_is c.args.depth c.next.new.self (omega arith) ∙ ap (parse_map object) found.1, c.object_fault.ensures found.0 found.2)

pub check_items-items-init : goal.check_items-items-init
check_items-items-init t c = ([], Amid-start c.args.depth (λ (d x : Data). d ≡ x) c.args.reader.now, c.new-items.ensures c.args.version _)

pub check_items-items-preserved : goal.check_items-items-preserved
check_items-items-preserved t c =
    let l = c.items in
    let going : (after_end_array l.reader ≡ None) × (c.take_end_array.new.self ≡ l.reader) = grind arith in
    let read = c.in_ok-found.ensures in
    let d = read.value.0 in (
      l.invariant.0 ++ d ∷ [],
      Amid-more c.args.depth (λ (d x : Data). d ≡ x) c.args.reader.now l.invariant.0 l.reader c.check.new.reader d d l.invariant.1 going.0 (rw (← going.1) read.value.1) refl (rw (← going.1) read.shorter),
      c.in_ok-items.ensures c.args.version _ d l.invariant.0 l.invariant.2 read.value.2,
    )

pub check_items-returns-clause-value : goal.check_items-returns-clause-value
check_items-returns-clause-value t c =
    let l = c.items in
    let over : after_end_array l.reader ≡ Some c.take_end_array.new.self = grind arith in
    let whole = Amid-end c.args.depth (λ (d x : Data). d ≡ x) c.args.reader.now l.invariant.0 l.reader c.take_end_array.new.self l.invariant.1 over in
    let all : l.invariant.0 ≡ list_items (items_before whole.0 no_items) = sym (listed whole.0 ∙ same_items whole.0 l.invariant.0 whole.1) in
    (items_before whole.0 no_items, whole.2, subst (λ ds. ItemsAre c.args.version (item_at c.args.kind) l.items ds) all (subst (λ k. ItemsAre c.args.version k l.items l.invariant.0) c.item_at-kind_of_item.ensures l.invariant.2))

pub check_members-members-init : goal.check_members-members-init
check_members-members-init t c = (Within-start c.args.depth (Holds c.args.version c.in_ok-seen.seen) c.args.reader.now (c.in_ok-seen.ensures.empty c.args.version), c.in_ok-seen.ensures.fields ∙ c.fields_at.ensures)

pub check_members-put-requires : goal.check_members-put-requires
check_members-put-requires t c = ap are_apart c.members.invariant.1 ∙ fields_apart c.args.version c.args.kind

pub check_members-members-preserved : goal.check_members-members-preserved
check_members-members-preserved t c =
    let l = c.members in
    let k = c.in-Some.key.now in
    let inside = c.next_key.new.self in
    let named : read_key l.reader ≡ Some (Some k, inside) = grind arith in
    let read = c.in_ok-found.ensures in
    let d = read.value.0 in
    let told = subst (λ kind. Tells c.in_ok-found.found (at c.args.version kind d)) c.kind_at.ensures read.value.2 in (
      Within-more c.args.depth (Holds c.args.version l.seen) (Holds c.args.version c.put.new.self) c.args.reader.now l.reader inside c.check.new.reader k d l.invariant.0 named read.value.1 (λ found before. c.put.ensures.holds c.args.version d found before told)
          (read_key-shorter l.reader (Some k) inside named) read.shorter,
      c.put.ensures.fields ∙ l.invariant.1,
    )

pub check_members-returns-clause-value : goal.check_members-returns-clause-value
check_members-returns-clause-value t c =
    let l = c.members in
    let after = c.next_key.new.self in
    let over : read_key l.reader ≡ Some (None, after) = grind arith in
    let whole = Within-end c.args.depth (Holds c.args.version l.seen) c.args.reader.now l.reader after l.invariant.0 over in
    (whole.0, whole.2, whole.1, l.invariant.1)
