use Rattle.std.proofs.Common.{◌≡◌, ◌+◌, ◌-◌, ◌*◌, length, refl, ◌∙◌, arith}
use Rattle.std.proofs.lemmas.List.Edits.{length-between}
use Rattle.maps.specs.Charts.{chart}
use Rattle.distances.proofs.OrdersOf.{orders_more}
use Rattle.distances.proofs.RowsOf.{row_fits, mid_long, before_more}
use Rattle.distances.proofs.rows.work_out_all.Goals as goal

pub loop-place-preserved : goal.loop-place-preserved
loop-place-preserved g c =
    let n = c.args.map.now.n in
    let d = c.loop-place.place in
    let i = c.loop-place.invariant in
    let h = row_fits d n c.loop-place-test.true in
    let ld : length c.work_out.new.dist ≡ n = c.work_out.auto.dist ∙ length-between c.loop-place.dist (d * n) (d * n + n) (omega (arith, h, i.dists)) ∙ omega arith in
    let ln : length c.work_out.new.next ≡ n = c.work_out.auto.next ∙ length-between c.loop-place.next (d * n) (d * n + n) (omega (arith, h, i.nexts)) ∙ omega arith in
    record {
      size = c.work_out.ensures.size;
      idle = c.work_out.ensures.idle;
      dists = mid_long d n c.loop-place.dist c.work_out.new.dist c.loop-place-test.true i.dists ld;
      nexts = mid_long d n c.loop-place.next c.work_out.new.next c.loop-place-test.true i.nexts ln;
      rows = before_more (chart c.args.map.now) n d ((d * n + n) - d * n) ((d * n + n) - d * n) c.loop-place.dist c.loop-place.next c.work_out.new.dist c.work_out.new.next refl c.loop-place-test.true i.dists i.nexts ld ln i.rows c.work_out.ensures.far c.work_out.ensures.hop;
      orders = λ xs q l.
          let o = i.orders xs q l in
          let w = c.work_out.ensures.order o.0 o.1 (omega (arith, h, l, o.2.long)) in
          (w.0, w.1, orders_more n d ((d * n + n) - d * n) c.loop-place.dist c.work_out.new.dist xs o.0 w.0 c.loop-place-test.true i.dists ld o.2 w.2);
    }

pub returns-clause-orders : goal.returns-clause-orders
returns-clause-orders g c = λ xs q l. (let o = c.loop-place.invariant.orders xs q l in (o.0, o.1, λ d m. o.2.rows d (omega arith)))
