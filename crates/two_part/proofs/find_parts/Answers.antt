use Rattle.std.proofs.Common.{arith, ◌∙◌, sym}
use Rattle.two_part.proofs.PartsFacts.{no_line_feed, refused_number, too_few_bytes, enough_bytes, parts_found, parts_complete}
use Rattle.two_part.proofs.find_parts.Goals as goal

pub returns-in_err-line_feed-clause-exact : goal.returns-in_err-line_feed-clause-exact
returns-in_err-line_feed-clause-exact c = c.from_residual.ensures ∙ no_line_feed c.args.bytes.now (sym c.in_err-line_feed.ensures)

pub returns-in_err-line_feed-clause-complete : goal.returns-in_err-line_feed-clause-complete
returns-in_err-line_feed-clause-complete c = λ digits document rest two. returns-in_err-line_feed-clause-exact c ∙ parts_complete c.args.bytes.now digits document rest two

pub returns-in_err-number-clause-exact : goal.returns-in_err-number-clause-exact
returns-in_err-number-clause-exact c = c.from_residual-in_err-number.ensures ∙ refused_number c.args.bytes.now c.in_ok-line_feed.line_feed (omega arith) (sym c.in_ok-line_feed.ensures) (sym c.in_err-number.ensures)

pub returns-in_err-number-clause-complete : goal.returns-in_err-number-clause-complete
returns-in_err-number-clause-complete c = λ digits document rest two. returns-in_err-number-clause-exact c ∙ parts_complete c.args.bytes.now digits document rest two

pub returns-then-number-bytes-clause-exact : goal.returns-then-number-bytes-clause-exact
returns-then-number-bytes-clause-exact c = too_few_bytes c.args.bytes.now c.in_ok-line_feed.line_feed c.in_ok-number.number (sym c.in_ok-line_feed.ensures) (sym c.in_ok-number.ensures) (omega arith)

pub returns-then-number-bytes-clause-complete : goal.returns-then-number-bytes-clause-complete
returns-then-number-bytes-clause-complete c = λ digits document rest two. returns-then-number-bytes-clause-exact c ∙ parts_complete c.args.bytes.now digits document rest two

pub returns-clause-exact : goal.returns-clause-exact
returns-clause-exact c = enough_bytes c.args.bytes.now c.in_ok-line_feed.line_feed c.in_ok-number.number (sym c.in_ok-line_feed.ensures) (sym c.in_ok-number.ensures) (omega arith)

pub returns-clause-found : goal.returns-clause-found
returns-clause-found c = parts_found c.args.bytes.now _ (returns-clause-exact c)

pub returns-clause-complete : goal.returns-clause-complete
returns-clause-complete c = λ digits document rest two. returns-clause-exact c ∙ parts_complete c.args.bytes.now digits document rest two
