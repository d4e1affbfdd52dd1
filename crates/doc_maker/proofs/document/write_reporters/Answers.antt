use Rattle.std.proofs.Common.{◌≡◌, map, ap, arith}
use Rattle.json.specs.Token.{begin_array}
use Rattle.serde_json.specs.Data as datum
use Rattle.bwe_specs.specs.Reports.{numbers}
use Rattle.doc_maker.specs.Made.{reporter_name}
use Rattle.doc_maker.specs.Writing.{each_tokens}
use Rattle.doc_maker.proofs.Lists.{wrote, added_as, list_done, one_more}
use Rattle.doc_maker.proofs.document.write_reporters.Goals as goal

pub loop-reporter-preserved : goal.loop-reporter-preserved
loop-reporter-preserved c = one_more datum.string reporter_name c.begin_array.new.self c.loop-reporter.out c.write_numbered.new.out c.loop-reporter.reporter c.loop-reporter.invariant c.in_ok-write_numbered.ensures

pub returns : goal.returns
returns c =
    let end : c.loop-reporter.reporter ≡ 4 = omega (arith) in
    list_done datum.string c.end_array.result c.args.out.now c.begin_array.new.self c.loop-reporter.out c.end_array.new.self (map reporter_name (numbers 4))
    (wrote c.args.out.now c.begin_array.new.self begin_array c.in_ok-begin_array.ensures)
    (added_as c.begin_array.new.self c.loop-reporter.out _ _ (ap (λ n. each_tokens datum.string (map reporter_name (numbers n))) end) c.loop-reporter.invariant)
    c.end_array.ensures
