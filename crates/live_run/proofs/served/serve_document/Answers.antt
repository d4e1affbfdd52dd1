use Rattle.std.proofs.Common.{◌≡◌, ◌∙◌, List, [], ℕ, true, false, ap, refl, subst, sym}
use Rattle.two_part.specs.TwoPart.{document_in}
use Rattle.live_run.specs.Endings.{IsDue, IsTooLong, long_document, too_long}
use Rattle.live_run.specs.Front.{HasDocument}
use Rattle.live_run.proofs.Conversing.{Converses-nothing}
use Rattle.live_run.proofs.Ends.{refused-here}
use Rattle.live_run.proofs.Steps.{whole-nothing}
use Rattle.live_run.proofs.served.serve_document.Goals as goal

pub is_too_long-requires : goal.is_too_long-requires
is_too_long-requires g c = subst (λ (b : List ℕ). HasDocument b c.args.parts) (sym c.deref.ensures.value) c.requires.document

pub returns-in-Err : goal.returns-in-Err
returns-in-Err g c = (
  record { read = c.args.bytes.items; written = [] },
  Converses-nothing g.F.Follower.follow _ _,
  whole-nothing g.F.Follower.follow c.args.bytes.items,
)

pub returns-then-long : goal.returns-then-long
returns-then-long g c =
    let bytes : List ℕ = c.args.bytes.items in
    let line : List ℕ = c.as_bytes.result.now in
    let long : g.F.Follower.follow.is_too_long (document_in bytes c.args.parts) ≡ true =
    ap (λ (b : List ℕ). g.F.Follower.follow.is_too_long (document_in b c.args.parts)) (sym c.deref.ensures.value) ∙ sym c.in-Ok.ensures ∙ c.if-long.true in
    let is : IsTooLong g.F.Follower.follow bytes = record { parts = c.args.parts; found = c.requires.document.found; few = c.requires.document.few; long = long } in
    refused-here g.F.Follower.follow _ _ _ _ bytes line 8 c.refuse.result c.refuse.ensures.given c.refuse.ensures.partly
    (subst (λ (l : List ℕ). IsDue g.F.Follower.follow 0 bytes l) (sym c.as_bytes.ensures.value) (long_document is))
    (λ gives. too_long refl is c.as_bytes.ensures.value)

pub follow_document-requires-clause-short : goal.follow_document-requires-clause-short
follow_document-requires-clause-short g c =
    ap (λ (b : List ℕ). g.F.Follower.follow.is_too_long (document_in b c.args.parts)) (sym c.deref.ensures.value) ∙ sym c.in-Ok.ensures ∙ c.if-long.false
