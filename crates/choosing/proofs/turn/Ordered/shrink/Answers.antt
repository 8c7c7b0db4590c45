use Rattle.std.proofs.Common.{◌≡◌, ◌-◌, ◌<◌, length, reverse, sym, ◌∙◌, subst, arith, rules}
use Rattle.std.proofs.lemmas.Iterator.Adapters.{YieldsList-from_rev_slice, serves_from_places}
use Rattle.std.proofs.lemmas.Iterator.Consumers.{count_from_yields_List}
use Rattle.std.proofs.lemmas.Iterator.Search.{YieldsList-from_take_while}
use Rattle.std.proofs.lemmas.List.Folds.{length-prefix_len}
use borrow.Author.Tests.{tests}
use Rattle.distances.specs.Orders.{in_order}
use Rattle.choosing.specs.Tables.{apart}
use Rattle.choosing.specs.Turns.{BallAt, OuterAt}
use Rattle.choosing.proofs.Ordering.{sorted_at, reverse_inside}
use Rattle.choosing.proofs.Ranges.{past, outside, shrunk}
use Rattle.choosing.proofs.turn.Ordered.shrink.Goals as goal

pub count-requires-clause-can : goal.count-requires-clause-can
count-requires-clause-can c =
    let order = c.closest.result.now in
    let inside = reverse_inside c.args.self.now.rows.n order c.closest.ensures.inside in
    (tt, serves_from_places (YieldsList-from_rev_slice order cc) (λ x q k. search rules) (λ x k h e. (let below : x.now < length c.dists-dists.result.now = omega (arith, inside k x.now h, c.dists-dists.ensures.long) in search rules)))

pub returns : goal.returns
returns c =
    let r = c.args.self.now.rows in
    let v = c.args.v in
    let order = c.closest.result.now in
    let row = c.dists-dists.result.now in
    let long = c.closest.ensures.long in
    let all = shrunk r.n (apart r.n r.dist.now v) (in_order r.n r.order.now v) (sorted_at c.args.self.now v c.requires.there) c.args.to row order
    (omega (arith, c.requires.outer.few)) c.dists-dists.ensures.is (λ j h. c.closest.ensures.is j (omega arith))
    (subst (OuterAt r.n r.dist.now r.order.now v c.args.to) (sym long) c.requires.outer) in
    let e : c.count.result ≡ outside c.args.to row order =
    count_from_yields_List _ _ c.count.ensures.ran
    (YieldsList-from_take_while _ (past c.args.to row) (YieldsList-from_rev_slice order cc) c.take_while.ensures.closure c.take_while.ensures.done (λ x b q k. search (rules, tests)))
    ∙ length-prefix_len (past c.args.to row) (reverse order) in
    let same : length order - outside c.args.to row order ≡ c.args.ball - c.count.result = omega arith in
    subst (BallAt r.n r.dist.now r.order.now v c.args.to) same all
