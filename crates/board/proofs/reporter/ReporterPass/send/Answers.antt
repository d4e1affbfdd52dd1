use Rattle.std.proofs.Common.{◌≡◌, ◌++◌, length, ℕ, Some, sym, ◌∙◌, ap, subst, arith}
use Rattle.std.specs.List.{All}
use Rattle.board_log.specs.Roll.{IsBy, Membership, placed, own_of}
use Rattle.board_log.specs.Laws.{StandIn}
use Rattle.board_log.proofs.Placing.{own_stands}
use Rattle.board.specs.Reporting.{own_in}
use Rattle.board.proofs.Sending.{sent_after}
use Rattle.board.proofs.reporter.ReporterPass.send.Goals as goal

pub overflow_add-self : goal.overflow_add-self
overflow_add-self g c =
    let own = own_in c.self.inside.member in
    let number = c.self.inside.number in
    let is : c.in-Some.member ≡ record { number = number; own = own } = cc (c.in-Some.ensures.value, c.self.invariant.seated) in
    let new = c.append.result.own in
    let piece = c.args.piece.now in
    let log = c.args.roll.now.log in
    let by : All (IsBy number) piece.items = subst (λ (n : ℕ). All (IsBy n) piece.items) (sym (ap (λ v. v.number) c.self.view_is)) c.requires.by in
    let grown : new ≡ own ++ placed number (length log) piece.items = c.append.ensures.own ∙ ap (λ (m : Membership). m.own ++ placed m.number (length log) piece.items) is in
    let exact : new ≡ own_of number c.args.whole = c.append.ensures.exact ∙ (λ i. own_of (is i).number (c.append.ensures.log i)) ∙ ap (own_of number) (sym c.requires.whole) in
    let after = sent_after number own log piece.items c.args.whole new grown exact by c.requires.room in
    omega (arith, after.0, after.1, c.self.invariant.counted, c.len.ensures, piece.ok.0)

pub invariant_of-self : goal.invariant_of-self
invariant_of-self g c =
    let own = own_in c.self.inside.member in
    let number = c.self.inside.number in
    let is : c.in-Some.member ≡ record { number = number; own = own } = cc (c.in-Some.ensures.value, c.self.invariant.seated) in
    let new = c.append.result.own in
    let piece = c.args.piece.now in
    let log = c.args.roll.now.log in
    let by : All (IsBy number) piece.items = subst (λ (n : ℕ). All (IsBy n) piece.items) (sym (ap (λ v. v.number) c.self.view_is)) c.requires.by in
    let grown : new ≡ own ++ placed number (length log) piece.items = c.append.ensures.own ∙ ap (λ (m : Membership). m.own ++ placed m.number (length log) piece.items) is in
    let exact : new ≡ own_of number c.args.whole = c.append.ensures.exact ∙ (λ i. own_of (is i).number (c.append.ensures.log i)) ∙ ap (own_of number) (sym c.requires.whole) in
    let after = sent_after number own log piece.items c.args.whole new grown exact by c.requires.room in
    let number_is : c.append.result.number ≡ number = c.append.ensures.number ∙ ap (λ (m : Membership). m.number) is in
    record {
      seated = λ i. Some (record { number = number_is i; own = new });
      counted = omega (arith, after.0, c.self.invariant.counted, c.len.ensures, piece.ok.0);
      stand = subst (StandIn c.args.whole) (sym exact) (own_stands number c.args.whole);
    }
