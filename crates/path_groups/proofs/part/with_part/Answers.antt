use Rattle.std.proofs.Common.{◌∙◌, sym, ap, subst, arith, map}
use Rattle.bwe_specs.specs.Given.{path_of}
use Rattle.path_groups.specs.Parts.{has_part, HasPartToo}
use Rattle.path_groups.proofs.Parts.{weights_over-le, weight_of-read, weight_over-read, HasPartToo-there, HasPartToo-push}
use Rattle.path_groups.proofs.part.with_part.Goals as goal

pub weights_over-weight-requires : goal.weights_over-weight-requires
weights_over-weight-requires c = omega (arith, c.requires.weights, weights_over-le c.args.paths.now c.args.link)

pub overflow_cast-weight : goal.overflow_cast-weight
overflow_cast-weight c = omega (arith, c.requires.weights, c.weights_over-weight.ensures, weights_over-le c.args.paths.now c.args.link)

pub returns-then-has_part : goal.returns-then-has_part
returns-then-has_part c =
    HasPartToo-there (map path_of c.args.paths.now) c.args.parts.items c.args.link
    (ap (λ parts. has_part parts c.args.link) (sym c.deref.ensures.value) ∙ sym c.has_part.ensures ∙ c.if-has_part.true)

pub returns : goal.returns
returns c =
    subst (λ parts. HasPartToo (map path_of c.args.paths.now) c.args.parts.items parts c.args.link) (sym c.in_ok-push.ensures.items)
    (HasPartToo-push (map path_of c.args.paths.now) c.args.parts.items (record { link = c.args.link; weight = c.weights_over-weight.result; whole = c.args.whole })
    (ap (λ parts. has_part parts c.args.link) (sym c.deref.ensures.value) ∙ sym c.has_part.ensures ∙ c.if-has_part.false)
    (record {
      used = c.requires.used;
      weight = c.weights_over-weight.ensures ∙ sym (weight_over-read c.args.paths.now c.args.link);
      whole = c.requires.whole ∙ sym (weight_of-read c.args.paths.now);
    }))
