use Rattle.std.proofs.Common.{◌≡◌, ℕ, List, [], ◌++◌, ◌∙◌, ap, ap₂, refl, rules}
use Rattle.json.specs.Print.{print}
use Rattle.json.specs.Written.{Written}
use Rattle.serde_json.specs.Data.{Data}
use Rattle.serde_json.specs.Written.{compact_text}
use Rattle.serde_json.proofs.Texts.{print-outline}
use Rattle.doc_maker.specs.Layout.{document_value}
use Rattle.doc_maker.specs.Made.{Size, made, made_document}
use Rattle.doc_maker.specs.Writing.{tokens_of, Added}
use Rattle.doc_maker.proofs.document.make_document.Goals as goal

-- what is written from nothing is the text of the value
from_nothing : (old new : Written) (text : List ℕ) (d : Data) → old.before ≡ [] → old.tokens ≡ [] → Added old new (tokens_of d) → text ≡ new.before ++ print new.tokens → text ≡ compact_text d
from_nothing old new text d no_text no_tokens added e =
    e ∙ ap₂ (λ before tokens. before ++ print tokens) (added.1 ∙ no_text) (added.0 ∙ ap (λ tokens. tokens ++ tokens_of d) no_tokens) ∙ print-outline d

made_is : (size : Size) → compact_text (document_value (made size)) ≡ made_document size
unfolding made_document
made_is size = refl

pub returns : goal.returns
returns c =
    let empty : c.new-out.result.before ≡ [] = search rules in
    from_nothing c.new-out.result c.write_document.new.out c.into_inner.result.items (document_value (made c.new-size.result)) empty c.new-out.ensures.tokens c.in_ok-write_document.ensures c.into_inner.ensures.items
    ∙ made_is c.new-size.result ∙ ap made_document c.new-size.ensures
