use Rattle.std.proofs.Common.{ℕ, List, ap, ◌∙◌}
use Rattle.doc_names.specs.NameTexts.{texts_of}
use Rattle.one_run.specs.Endings.{Reply}
use Rattle.plan_doc.specs.Plans.{plan_in}
use Rattle.tier_text.specs.TierText.{tier_text_of}
use Rattle.line_answers.proofs.Tiered.{tiered_after_script}
use Rattle.line_answers.proofs.tiers_line.fill.Goals as goal

abbrev reply_of : List ℕ → Reply
reply_of text = record { status = 0; text = text }

pub returns : goal.returns
returns c =
    let parts = c.into_parts-tree.ensures in
    let allocator = c.in_ok-allocator.field-0.allocator in
    let opened = c.in_ok-allocator.ensures in
    let filled = rw (c.rematch.ensures, parts.tree, parts.network, parts.plan, c.prefix-prefix.ensures) at c.in_ok-table.ensures.table in
    let tiered = filled ∙ tiered_after_script allocator.reported allocator.groups (plan_in c.args.document) c.args.document.script.items c.args.tiers.now opened.absorbed opened.plan in
    let text = rw opened.names at c.in_ok-text.ensures in
    ap reply_of (text ∙ ap (tier_text_of (texts_of c.args.document.names)) tiered)
