use Rattle.doc_maker.specs.Writing.{users_tokens}
use Rattle.doc_maker.proofs.Lists.{wrote, finally, then}
use Rattle.doc_maker.proofs.tree.write_users.Goals as goal

pub returns : goal.returns
unfolding users_tokens
returns c =
    then c.end_array.result c.args.out.now c.begin_array.new.self c.end_array.new.self _ _ (wrote c.args.out.now c.begin_array.new.self _ c.in_ok-begin_array.ensures)
    (then c.end_array.result c.begin_array.new.self c.write_user.new.out c.end_array.new.self _ _ c.in_ok-write_user.ensures
    (finally c.end_array.result c.write_user.new.out c.end_array.new.self _ c.end_array.ensures))
