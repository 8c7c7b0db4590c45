-- What the loop that reads records keeps: what is left, put behind what was read, gives the whole. Assumes nothing.
use Rattle.std.proofs.Common.{◌≡◌, ◌-◌, None, vec_items}
use Rattle.reading.specs.Reading.{one, many}
use Rattle.reading.proofs.Steps.{onto}
use Rattle.reading.proofs.records.read_records.Given as goal

abbrev pub invariant-loop-i : goal.invariant-loop-i
invariant-loop-i g l =
    (l.from.bytes.now ≡ l.initial.from.bytes.now)
    × (onto (vec_items l.items) (many (one g.T.Recorded.shape l.n l.initial.from.bytes.now) (l.count - l._i) l.last l.from.at)
    ≡ many (one g.T.Recorded.shape l.n l.initial.from.bytes.now) l.count None l.initial.from.at)
