use Rattle.std.proofs.Common.{◌≡◌, None, Some, refl, sym, ap, ◌∙◌, arith}
use Rattle.json.specs.Json.{read_key}
use Rattle.raw_document.specs.Shape.{field}
use Rattle.serde_json.specs.Data.{no_members, put}
use Rattle.version_scan.specs.Version.{is_number_4}
use Rattle.version_scan.proofs.Loops.{Within-start, Within-more, Within-end, Within-no_key, Within-refused}
use Rattle.version_scan.proofs.Named.{named, unnamed}
use Rattle.version_scan.proofs.version.members_are_of_version_4.Goals as goal

pub members-init : goal.members-init
unfolding field
members-init c = (no_members, Within-start c.args.depth c.args.reader.now, refl)

pub returns-in_err-key-clause-refused : goal.returns-in_err-key-clause-refused
returns-in_err-key-clause-refused c = λ _.
    let none : read_key c.members.reader ≡ None = grind arith in
    Within-no_key c.args.depth c.args.reader.now c.members.reader c.members.invariant.0 c.members.invariant.1 none

pub returns-in_err-whole-clause-refused : goal.returns-in_err-whole-clause-refused
returns-in_err-whole-clause-refused c = λ _.
    let l = c.members in
    let k = c.in-Some.key.now in
    let inside = c.next_key.new.self in
    let key : read_key l.reader ≡ Some (Some k, inside) = grind arith in
    Within-refused c.args.depth c.args.reader.now l.reader inside k l.invariant.0 l.invariant.1 key (c.in_err-whole.ensures.refused refl)

pub members-preserved-then-named : goal.members-preserved-then-named
members-preserved-then-named c =
    let l = c.members in
    let k = c.in-Some.key.now in
    let inside = c.next_key.new.self in
    let key : read_key l.reader ≡ Some (Some k, inside) = grind arith in
    let done = c.in_ok-whole.ensures in
    let d = done.passed.0 in (
      put k d l.invariant.0,
      Within-more c.args.depth c.args.reader.now l.reader inside c.pass.new.reader k d l.invariant.0 l.invariant.1 key done.passed.1 done.shorter,
      c.is_number_4-is_4.ensures ∙ ap is_number_4 done.passed.2 ∙ sym (named k d l.invariant.0 (c.is_version-named.ensures.yes c.if-named.true)),
    )

pub members-preserved : goal.members-preserved
members-preserved c =
    let l = c.members in
    let k = c.in-Some.key.now in
    let inside = c.next_key.new.self in
    let key : read_key l.reader ≡ Some (Some k, inside) = grind arith in
    let done = c.in_ok-whole.ensures in
    let d = done.passed.0 in (
      put k d l.invariant.0,
      Within-more c.args.depth c.args.reader.now l.reader inside c.pass.new.reader k d l.invariant.0 l.invariant.1 key done.passed.1 done.shorter,
      l.invariant.2 ∙ sym (unnamed k d l.invariant.0 (c.is_version-named.ensures.no c.if-named.false)),
    )

pub returns-clause-passed : goal.returns-clause-passed
returns-clause-passed c =
    let over : read_key c.members.reader ≡ Some (None, c.next_key.new.self) = grind arith in
    (c.members.invariant.0, Within-end c.args.depth c.args.reader.now c.members.reader c.next_key.new.self c.members.invariant.0 c.members.invariant.1 over, c.members.invariant.2)
