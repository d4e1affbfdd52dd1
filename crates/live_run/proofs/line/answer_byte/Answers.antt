use Rattle.std.proofs.Common.{◌≡◌, ◌∙◌, [], ◌∷◌, ◌++◌, ◌==◌, true, false, ap, subst}
use Rattle.std.proofs.lemmas.Bool.{ne_eqb}
use Rattle.live_run.proofs.LinesBehind.{behind-fed, behind-held, lines}
use Rattle.live_run.proofs.Pieces.{byte-fed, byte-fed-part, byte-held}
use Rattle.live_run.proofs.line.answer_byte.Goals as goal

pub returns-then-byte-ne10-clause-behind : goal.returns-then-byte-ne10-clause-behind
returns-then-byte-ne10-clause-behind g c = λ document now at.
    let e : (c.args.byte == 10) ≡ false = ne_eqb c.args.byte 10 c.if-byte-ne10.true in
    behind-held g.F.Follower.has_followed document c.args.follower.now c.args.cutter.now c.push.new.self now c.args.byte e at c.push.ensures

pub returns-then-byte-ne10-clause-given : goal.returns-then-byte-ne10-clause-given
returns-then-byte-ne10-clause-given g c = λ document now at.
    let e : (c.args.byte == 10) ≡ false = ne_eqb c.args.byte 10 c.if-byte-ne10.true in
    byte-held g.F.Follower.follow document (g.S.Stream.talk c.args.stream.now) now c.args.byte e

pub returns-in-Ok-clause-behind : goal.returns-in-Ok-clause-behind
returns-in-Ok-clause-behind g c = λ document now at.
    let e : (c.args.byte == 10) ≡ true = ap (λ n. n == 10) c.if-byte-ne10.false in
    behind-fed g.F.Follower.has_followed document c.args.follower.now c.answer_line.new.follower c.args.cutter.now c.clear.new.self now c.args.byte e at
    (λ l followed. subst (λ line. g.F.Follower.has_followed c.answer_line.new.follower document (l ++ line ∷ [])) c.text.ensures
    (c.in-Ok.ensures.followed document l followed))
    c.clear.ensures

pub returns-in-Ok-clause-given : goal.returns-in-Ok-clause-given
returns-in-Ok-clause-given g c = λ document now at.
    let e : (c.args.byte == 10) ≡ true = ap (λ n. n == 10) c.if-byte-ne10.false in
    byte-fed g.F.Follower.follow document (g.S.Stream.talk c.args.stream.now) (g.S.Stream.talk c.answer_line.new.stream) now _ c.args.byte e
    (c.text.ensures ∙ at.held_so) (c.in-Ok.ensures.given document (lines now) at.followed)

pub returns-in-Err-clause-partly : goal.returns-in-Err-clause-partly
returns-in-Err-clause-partly g c = λ is document now at.
    let e : (c.args.byte == 10) ≡ true = ap (λ n. n == 10) c.if-byte-ne10.false in
    byte-fed-part g.F.Follower.follow document (g.S.Stream.talk c.args.stream.now) (g.S.Stream.talk c.answer_line.new.stream) now _ c.args.byte e
    (c.text.ensures ∙ at.held_so) (c.in-Err.ensures.partly is document (lines now) at.followed)
