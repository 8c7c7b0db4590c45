use Rattle.std.proofs.Common.{◌<◌, get_or, ◌∙◌, arith}
use Rattle.choosing.proofs.Gathers.{weight_of, weight_small, ball, gathers_start, closer_fits, passed_fits, gathers_far, gathers_same, gathers_end}
use Rattle.choosing.proofs.turn.Turn.gather.Goals as goal
use Rattle.choosing.proofs.turn.Turn.gather.Goals.{then-far-last, else-far-last}

pub loop-c-init : goal.loop-c-init
loop-c-init c = gathers_start c.args.self.now c.args.v c.requires.there c.args.hot.now c.args.total.now

pub overflow_sub-total : goal.overflow_sub-total
overflow_sub-total c =
    let l = c.loop-c in
    let all = c.hot_in_ball-all in
    elim c.if-far-last.branch [
      | then-far-last w ↦ omega (arith, w.closer-is, passed_fits c.args.self.now c.args.v c.requires.there c.args.hot.now l.c-index l.passed l.closer l.last c.args.total.now l.total l.invariant all.result all.ensures.is)
      | else-far-last w ↦ omega (arith, w.closer-is, closer_fits c.args.self.now c.args.v c.requires.there c.args.hot.now l.c-index l.passed l.closer l.last c.args.total.now l.total l.invariant all.result all.ensures.is)
    ]

pub overflow_add-passed : goal.overflow_add-passed
overflow_add-passed c =
    let l = c.loop-c in
    let all = c.hot_in_ball-all in
    omega (arith, all.ensures.small, c.from-passed.ensures, weight_small c.args.hot.now (get_or c.closest-c-items.result.now l.c-index 0), passed_fits c.args.self.now c.args.v c.requires.there c.args.hot.now l.c-index l.passed l.closer l.last c.args.total.now l.total l.invariant all.result all.ensures.is)

pub loop-c-preserved : goal.loop-c-preserved
loop-c-preserved c =
    let l = c.loop-c in
    let all = c.hot_in_ball-all in
    let j : l.c-index < ball c.args.self.now c.args.v = omega (arith, c.closest-c-items.ensures.long) in
    let here = c.closest-c-items.ensures.is l.c-index j in
    let u = get_or c.closest-c-items.result.now l.c-index 0 in
    let f = c.dists-dists.ensures.is u (c.closest-c-items.ensures.inside l.c-index 0 c.loop-c-test.true) in
    let h = c.from-passed.ensures ∙ weight_of c.args.hot.now u in
    let long = l.auto.total ∙ c.requires.totals in
    elim c.if-far-last.branch [
      | then-far-last w ↦ gathers_far c.args.self.now c.args.v c.requires.there c.args.hot.now l.c-index l.passed l.closer l.last c.args.total.now l.total l.invariant all.result all.ensures.is
          j u (get_or c.dists-dists.result.now u 0) c.from-passed.result c.if-far-last.closer c.if-far-last.last here f h all.ensures.small long w.if-far-last.true w.closer-is w.last-is
      | else-far-last w ↦ gathers_same c.args.self.now c.args.v c.requires.there c.args.hot.now l.c-index l.passed l.closer l.last c.args.total.now l.total l.invariant all.result all.ensures.is
          j u (get_or c.dists-dists.result.now u 0) c.from-passed.result c.if-far-last.closer c.if-far-last.last here f h all.ensures.small long w.if-far-last.false w.closer-is w.last-is
    ]

pub returns-clause-least : goal.returns-clause-least
returns-clause-least c =
    let l = c.loop-c in
    let all = c.hot_in_ball-all in
    λ u un. (gathers_end c.args.self.now c.args.v c.requires.there c.args.hot.now l.c-index l.passed l.closer l.last c.args.total.now l.total l.invariant all.result all.ensures.is (omega arith) u un).0

pub returns-clause-most : goal.returns-clause-most
returns-clause-most c =
    let l = c.loop-c in
    let all = c.hot_in_ball-all in
    λ u un. (gathers_end c.args.self.now c.args.v c.requires.there c.args.hot.now l.c-index l.passed l.closer l.last c.args.total.now l.total l.invariant all.result all.ensures.is (omega arith) u un).1
