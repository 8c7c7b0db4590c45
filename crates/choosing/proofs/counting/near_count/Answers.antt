use Rattle.std.proofs.Common.{sym, arith}
use Rattle.choosing.proofs.RowParts.{near_zero, near_yes, near_no}
use Rattle.choosing.proofs.counting.near_count.Goals as goal
use Rattle.choosing.proofs.counting.near_count.Goals.{then-far-away, else-far-away}

pub loop-v-init : goal.loop-v-init
loop-v-init c = (sym (near_zero c.args.row.now c.args.away.now), omega arith)

pub loop-v-preserved : goal.loop-v-preserved
loop-v-preserved c =
    elim c.if-far-away.branch [
      | then-far-away w ↦ (omega (arith, w.near-is, near_yes c.args.row.now c.args.away.now c.loop-v.v w.if-far-away.true), omega (arith, w.near-is))
      | else-far-away w ↦ (omega (arith, w.near-is, near_no c.args.row.now c.args.away.now c.loop-v.v w.if-far-away.false), omega (arith, w.near-is))
    ]
