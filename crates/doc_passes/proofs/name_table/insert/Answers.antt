use Rattle.doc_passes.proofs.NameTables.{fresh_new, fresh_old, absent_from, there_from, fails_here}
use Rattle.doc_passes.proofs.name_table.insert.Goals as goal

pub returns-then-is_new : goal.returns-then-is_new
returns-then-is_new c = fresh_new c.args.names.now.keys c.insert_full.new.self.keys c.args.name (absent_from c.in-Ok.is_new _ c.in-Ok.ensures.added c.if-is_new.true) c.in-Ok.ensures.keys

pub returns-else-is_new : goal.returns-else-is_new
returns-else-is_new c = fails_here _ c.here.result (fresh_old c.args.names.now.keys c.args.name.now (there_from c.in-Ok.is_new _ c.in-Ok.ensures.added c.if-is_new.false)) c.here.ensures
