-- The loop that reads records: a turn, and a turn that meets a refusal. Assumes nothing.
use Rattle.std.proofs.Common.{None, vec_items, arith, rules}
use Rattle.std.proofs.lemmas.Result.{err_from_is_err_and}
use Rattle.reading.specs.Reading.{one, many}
use Rattle.reading.proofs.Steps.{turn, stopped, told_bad}
use Rattle.reading.proofs.records.read_records.Goals as goal

pub returns-in_err-item-clause-told : goal.returns-in_err-item-clause-told
returns-in_err-item-clause-told g c =
    let p = err_from_is_err_and c.from_residual.result c.from_residual.ensures.1 in
    told_bad vec_items (many (one g.T.Recorded.shape c.args.n c.args.from.now.bytes.now) c.args.count None c.args.from.now.at) _
    (stopped (one g.T.Recorded.shape c.args.n) c.loop-i.last c.loop-i.from.at (vec_items c.loop-i.items) {r = c.read_record.result} (omega arith) c.loop-i.invariant.0 c.loop-i.invariant.1
    c.in_err-item.was c.read_record.ensures.value)
    p.1 p.2

pub loop-i-preserved : goal.loop-i-preserved
loop-i-preserved g c = (
  search rules,
  turn (one g.T.Recorded.shape c.args.n) c.loop-i.last c.loop-i.from.at (vec_items c.loop-i.items) (omega arith) c.loop-i.invariant.0 c.loop-i.invariant.1
      c.in_ok-item.was c.read_record.ensures.value c.read_record.ensures.at c.in_ok-push.was c.push.ensures.items,
)
