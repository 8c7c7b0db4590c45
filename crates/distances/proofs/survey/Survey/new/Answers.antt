use Rattle.std.proofs.Common.{◌≡◌, length, vec_items, refl, ◌∙◌, rules}
use Rattle.std.proofs.lemmas.List.{take_at}
use Rattle.maps.specs.Charts.{chart, ground_of}
use Rattle.maps.proofs.Views.{view_is}
use Rattle.distances.proofs.Ranks.{orders_of, order_inside, order_there, order_back, order_forth, order_rises}
use Rattle.distances.proofs.Surveyed.{fars_of, hops_of}
use Rattle.distances.proofs.survey.Survey.new.Goals as goal

pub invariant_of-result : goal.invariant_of-result
invariant_of-result c =
    let b = c.args.map in
    let e = view_is c.map.result b.n (vec_items b.roads) c.map.ensures.n c.map.ensures.same in
    let w = c.in_ok-all_rows_in_order.ensures in
    let dl : length c.all_rows_in_order.new.dist ≡ c.in_ok-dist.dist.len = c.all_rows_in_order.auto.dist ∙ c.deref_mut.ensures.len in
    let nl : length c.all_rows_in_order.new.next ≡ c.in_ok-next.next.len = c.all_rows_in_order.auto.next ∙ c.deref_mut-2.ensures.len in
    let ol : length c.all_rows_in_order.new.order ≡ c.in_ok-order.order.len = c.all_rows_in_order.auto.order ∙ c.deref_mut-3.ensures.len in
    let ds = take_at c.all_rows_in_order.new.dist _ c.in_ok-dist.dist.len dl in
    let os = take_at c.all_rows_in_order.new.order _ c.in_ok-order.order.len ol in
    let o = orders_of c.map.result.n b.n c.all_rows_in_order.new.dist c.all_rows_in_order.new.order _ _ c.map.ensures.n ds os w.5 in
    record {
      dists = search rules;
      nexts = search rules;
      orders = search rules;
      fars = fars_of (chart c.map.result) (ground_of b) b.n c.all_rows_in_order.new.dist _ ds e refl w.3;
      hops = hops_of (chart c.map.result) (ground_of b) b.n c.all_rows_in_order.new.next _ (take_at c.all_rows_in_order.new.next _ c.in_ok-next.next.len nl) e refl w.4;
      inside = order_inside b.n _ _ o;
      there = order_there b.n _ _ o;
      back = order_back b.n _ _ o;
      forth = order_forth b.n _ _ o;
      rises = order_rises b.n _ _ o;
    }
