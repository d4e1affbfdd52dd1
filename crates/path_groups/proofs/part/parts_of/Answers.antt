use Rattle.std.proofs.Common.{◌≡◌, ◌∙◌, ◌<◌, sym, ap, subst, [], ◌∷◌, ◌++◌, map, take, length, get_or, arith}
use Rattle.std.proofs.lemmas.List.{take_more, take_all}
use Rattle.bwe_specs.specs.Paths.{uses}
use Rattle.bwe_specs.specs.Given.{path_of}
use Rattle.path_groups.proofs.Parts.{IsUnderWay, IsUnderWay-start, IsUnderWay-link, IsUnderWay-path, IsUnderWay-end, uses-of}
use Rattle.path_groups.proofs.part.parts_of.Goals as goal

pub loop-path-init : goal.loop-path-init
loop-path-init c = subst (λ parts. IsUnderWay (map path_of c.args.paths.now) parts [] []) (sym c.in_ok-parts.ensures.items) (IsUnderWay-start (map path_of c.args.paths.now))

pub loop-link-init : goal.loop-link-init
loop-link-init c = c.loop-path.invariant

pub with_part-requires-clause-used : goal.with_part-requires-clause-used
with_part-requires-clause-used c =
    let within : c.loop-link.link-index < length c.path-item.result.links.items = omega (arith, c.loop-link-test.true, ap length c.deref-link-items.ensures.value) in
    ap (λ links. uses (map path_of c.args.paths.now) (get_or links c.loop-link.link-index 0)) c.deref-link-items.ensures.value
    ∙ uses-of c.args.paths.now c.loop-path.path-index c.loop-link.link-index c.path-item.result c.loop-path-test.true c.path-item.is within

pub loop-link-preserved : goal.loop-link-preserved
loop-link-preserved c =
    subst (IsUnderWay (map path_of c.args.paths.now) c.in_ok-parts-2.parts.items (take c.loop-path.path-index c.args.paths.now)) (sym (take_more c.deref-link-items.result.now c.loop-link.link-index 0 c.loop-link-test.true))
    (IsUnderWay-link (map path_of c.args.paths.now) c.loop-link.parts.items c.in_ok-parts-2.parts.items (take c.loop-path.path-index c.args.paths.now) (take c.loop-link.link-index c.deref-link-items.result.now) (get_or c.deref-link-items.result.now c.loop-link.link-index 0) c.loop-link.invariant c.in_ok-parts-2.ensures)

pub loop-path-preserved : goal.loop-path-preserved
loop-path-preserved c =
    let all : take c.loop-link.link-index c.deref-link-items.result.now ≡ c.path-item.result.links.items = take_all c.loop-link.link-index c.deref-link-items.result.now c.loop-link-test.false ∙ c.deref-link-items.ensures.value in
    let one = IsUnderWay-path (map path_of c.args.paths.now) c.loop-link.parts.items (take c.loop-path.path-index c.args.paths.now) c.path-item.result
    (subst (IsUnderWay (map path_of c.args.paths.now) c.loop-link.parts.items (take c.loop-path.path-index c.args.paths.now)) all c.loop-link.invariant) in
    subst (λ paths. IsUnderWay (map path_of c.args.paths.now) c.loop-link.parts.items paths [])
    (sym (take_more c.args.paths.now c.loop-path.path-index c.path-item.result c.loop-path-test.true ∙ ap (λ path. take c.loop-path.path-index c.args.paths.now ++ path ∷ []) (sym c.path-item.is))) one

pub returns : goal.returns
returns c =
    IsUnderWay-end c.loop-path.parts.items c.args.paths.now
    (subst (λ paths. IsUnderWay (map path_of c.args.paths.now) c.loop-path.parts.items paths []) (take_all c.loop-path.path-index c.args.paths.now c.loop-path-test.false) c.loop-path.invariant)
