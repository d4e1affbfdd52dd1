use Rattle.std.proofs.Common.{◌≡◌, ℕ, List, ◌++◌, Option, Some, None, codes, option_map, sym, ap, ◌∙◌, append_assoc}
use Rattle.doc_refusals.specs.Refusals.{Refusal, refusal_of}
use Rattle.refusal_text.specs.RefusalLines.{refusal_text, refusal_line, AddsText}
use Rattle.refusal_text.proofs.text.refusal_line.Goals as goal

line_is : (refusal : Option Refusal) (before after line : List ℕ) → before ≡ codes "refused " → AddsText refusal before after → line ≡ after ++ codes "\n" → option_map refusal_line refusal ≡ Some line
unfolding refusal_line
line_is None before after line begins adds ends = absurd adds
line_is (Some refusal) before after line begins adds ends =
    ap Some (sym (ends ∙ ap (λ text. text ++ codes "\n") (adds ∙ ap (λ text. text ++ refusal_text refusal) begins) ∙ append_assoc (codes "refused ") (refusal_text refusal) (codes "\n")))

pub returns : goal.returns
returns c = line_is (refusal_of c.args.error.now) _ _ _ c.in_ok-text.ensures.ok c.in_ok-push_refusal.ensures (ap (λ vec. vec.items) c.into_bytes.ensures.value ∙ c.in_ok-push_str.ensures.bytes)
