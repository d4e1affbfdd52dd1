-- The text of a verdict on closings.
use Rattle.std.specs.Prelude.{ℕ, ◌++◌, List, codes, decimal}
use Rattle.bwe_specs.specs.declared.network.Cause.{Cause}
use Rattle.bwe_specs.specs.declared.network.Cause.TheVariants.{NoSuchLink, Reclosed, ShareFalls, ShareAtTop, OverBefore, FitsAfter, LowerLink, OverAtTop}
use Rattle.bwe_specs.specs.declared.network.Verdict.{Verdict}
use Rattle.bwe_specs.specs.declared.network.Verdict.TheVariants.{Right, Wrong}
use Rattle.doc_names.specs.NameTexts.{NameTexts, entry_at}

-- what is wrong
unfoldable pub cause_text : NameTexts → Cause → List ℕ
cause_text names NoSuchLink = codes "no such link"
cause_text names Reclosed = codes "link closed before"
cause_text names ShareFalls = codes "share falls"
cause_text names ShareAtTop = codes "share at top"
cause_text names (OverBefore link) =
    codes "link " ++ entry_at names.links link ++ codes " is over at the share"
cause_text names FitsAfter = codes "link fits at the next share"
cause_text names (LowerLink link) =
    codes "lower link " ++ entry_at names.links link ++ codes " is over"
cause_text names (OverAtTop link) =
    codes "link " ++ entry_at names.links link ++ codes " is over at top"

-- that the closings are right, or which is wrong and why
unfoldable pub verdict_line : NameTexts → Verdict → List ℕ
verdict_line names Right = codes "right\n"
verdict_line names (Wrong at cause) =
    codes "wrong at " ++ decimal at ++ codes ": " ++ cause_text names cause ++ codes "\n"
