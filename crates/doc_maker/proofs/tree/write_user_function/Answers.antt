use Rattle.std.proofs.Common.{◌≡◌, ℕ, ◌%◌, [], ◌∷◌, eq-eqb, sym, ap, Some, arith}
use Rattle.json.specs.Token.{key}
use Rattle.raw_document.specs.declared.key.DocKey.TheVariants as keys
use Rattle.raw_document.specs.Words.{word}
use Rattle.doc_maker.specs.Layout.{function_value}
use Rattle.doc_maker.specs.Made.{user_function}
use Rattle.doc_maker.specs.Writing.{tokens_of, function_tokens}
use Rattle.doc_maker.proofs.Lists.{wrote, then, adds_as}
use Rattle.doc_maker.proofs.tree.write_user_function.Goals as goal

chosen : (group : ℕ) → group % 3 ≡ 0 → user_function group ≡ Some ((0, 0) ∷ (1_000_000, 2_000) ∷ [])
chosen group e = rw (eq-eqb (group % 3) 0 e)

pub returns-in_ok-key : goal.returns-in_ok-key
unfolding word
returns-in_ok-key c =
    adds_as c.write_function.result c.args.out.now c.write_function.new.out (key (word keys.Function) ∷ tokens_of (function_value ((0, 0) ∷ (1_000_000, 2_000) ∷ []))) (function_tokens (user_function c.args.group))
    (ap function_tokens (sym (chosen c.args.group (omega arith))))
    (then c.write_function.result c.args.out.now c.key.new.self c.write_function.new.out (key (word keys.Function) ∷ []) (tokens_of (function_value ((0, 0) ∷ (1_000_000, 2_000) ∷ [])))
    (wrote c.args.out.now c.key.new.self _ c.in_ok-key.ensures) c.write_function.ensures)
