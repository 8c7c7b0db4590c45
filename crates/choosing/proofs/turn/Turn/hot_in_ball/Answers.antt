use Rattle.std.proofs.Common.{false, get_or, ◌∙◌, rules}
use Rattle.std.proofs.lemmas.Iterator.{YieldsList-from_slice}
use Rattle.std.proofs.lemmas.Iterator.Consumers.{YieldsList-from_filter, count_from_yields_List}
use borrow.Author.Tests.{tests}
use Rattle.distances.specs.Orders.{in_order}
use Rattle.choosing.proofs.Listed.{marked_list}
use Rattle.choosing.proofs.turn.Turn.hot_in_ball.Goals as goal

pub returns-clause-is : goal.returns-clause-is
returns-clause-is c =
    let t = c.args.self.now in
    let r = t.map.rows in
    count_from_yields_List _ _ c.count.ensures.ran
    (YieldsList-from_filter _ (λ u. get_or c.args.hot.now u false) (YieldsList-from_slice c.closest-ball.result.now cc) c.filter.ensures.closure (λ x b q k. search (rules, tests)))
    ∙ marked_list c.args.hot.now c.closest-ball.result.now (get_or t.ball.now c.args.v 0) (in_order r.n r.order.now c.args.v) c.closest-ball.ensures.long c.closest-ball.ensures.is
