use Rattle.std.proofs.Common.{◌≡◌, ◌<◌, length, get_or, reverse, take, arith, rules}
use Rattle.std.proofs.lemmas.Iterator.Adapters.{YieldsList-from_rev_slice, serves_from_places}
use Rattle.std.proofs.lemmas.Iterator.Consumers.{YieldsList-at, YieldsList-end, YieldsList-turn}
use Rattle.std.proofs.lemmas.Iterator.Search.{YieldsList-from_take_while}
use Rattle.std.proofs.lemmas.List.{length_push}
use borrow.Author.Tests.{tests}
use Rattle.choosing.proofs.Fadings.{fading_ends, fading_goes, fading_room}
use Rattle.choosing.proofs.Ordering.{reverse_inside}
use Rattle.choosing.proofs.Ranges.{outside, past}
use Rattle.choosing.proofs.turn.Turn.fade.Goals as goal

pub loop-u-init-derived : goal.loop-u-init-derived
loop-u-init-derived c =
    let order = c.closest-ball.result.now in
    let inside = reverse_inside c.args.self.now.map.rows.n order c.closest-ball.ensures.inside in
    ((tt, serves_from_places (YieldsList-from_rev_slice order cc) (λ x q k. search rules) (λ x k h e. (let below : x.now < length c.dists-dists.result.now = omega (arith, inside k x.now h, c.dists-dists.ensures.long) in search rules))), tt)

pub overflow_add-lost : goal.overflow_add-lost
overflow_add-lost c =
    let order = c.closest-ball.result.now in
    let row = c.dists-dists.result.now in
    let l = c.loop-u in
    let turn : (length l.yielded < length (take (outside c.args.from row order) (reverse order))) × (c.in-Some.u.now ≡ get_or (take (outside c.args.from row order) (reverse order)) (length l.yielded) c.in-Some.u.now) =
    YieldsList-turn (YieldsList-at c.into_iter-u-iterator.ensures.into_iter_gives
    (YieldsList-from_take_while _ (past c.args.from row) (YieldsList-from_rev_slice order cc) c.take_while-u-items.ensures.closure c.take_while-u-items.ensures.done (λ x b q k. search (rules, tests))))
    l.yielded _ l.yielded_by _ _ c.in-Some.u c.in-Some.is c.next.ensures.steps in
    omega (
      arith,
      fading_room c.args.self.now c.args.v c.requires.there c.args.from row order c.dists-dists.ensures.is c.closest-ball.ensures.long c.closest-ball.ensures.is
          c.args.lost.now l.lost (length l.yielded) l.invariant c.in-Some.u.now turn c.requires.low c.requires.losts,
    )

pub loop-u-preserved : goal.loop-u-preserved
loop-u-preserved c =
    let order = c.closest-ball.result.now in
    let row = c.dists-dists.result.now in
    let l = c.loop-u in
    let turn : (length l.yielded < length (take (outside c.args.from row order) (reverse order))) × (c.in-Some.u.now ≡ get_or (take (outside c.args.from row order) (reverse order)) (length l.yielded) c.in-Some.u.now) =
    YieldsList-turn (YieldsList-at c.into_iter-u-iterator.ensures.into_iter_gives
    (YieldsList-from_take_while _ (past c.args.from row) (YieldsList-from_rev_slice order cc) c.take_while-u-items.ensures.closure c.take_while-u-items.ensures.done (λ x b q k. search (rules, tests))))
    l.yielded _ l.yielded_by _ _ c.in-Some.u c.in-Some.is c.next.ensures.steps in
    fading_goes c.args.self.now c.args.v c.requires.there c.args.from row order c.dists-dists.ensures.is c.closest-ball.ensures.long c.closest-ball.ensures.is
    c.args.lost.now l.lost (length l.yielded) l.invariant c.in-Some.u.now turn _ (length_push l.yielded c.in-Some.u) (omega (arith, c.requires.losts))

pub returns : goal.returns
returns c =
    let order = c.closest-ball.result.now in
    let row = c.dists-dists.result.now in
    let l = c.loop-u in
    let all : length l.yielded ≡ length (take (outside c.args.from row order) (reverse order)) =
    (YieldsList-end (YieldsList-at c.into_iter-u-iterator.ensures.into_iter_gives
    (YieldsList-from_take_while _ (past c.args.from row) (YieldsList-from_rev_slice order cc) c.take_while-u-items.ensures.closure c.take_while-u-items.ensures.done (λ x b q k. search (rules, tests))))
    l.yielded _ l.yielded_by _ _ c.in-None.is c.next.ensures.steps).1 in
    fading_ends c.args.self.now c.args.v c.requires.there c.args.from row order c.dists-dists.ensures.is c.closest-ball.ensures.long c.closest-ball.ensures.is
    c.args.lost.now l.lost (length l.yielded) l.invariant all
