use Rattle.std.proofs.Common.{◌≡◌, ℕ, ◌+◌, List, length, get_or, ap, ◌∙◌, subst, arith}
use Rattle.choosing.specs.Tables.{left_below}
use Rattle.choosing.proofs.Losses.{Fading, fading_start, fading_none, fading_some, fading_few, judged_left}
use Rattle.choosing.proofs.turn.Turn.judge.Goals as goal
use Rattle.choosing.proofs.turn.Turn.judge.Goals.{then-from-self, else-from-self}

pub loop-v-init : goal.loop-v-init
loop-v-init c =
    let t = c.args.self.now in
    (fading_start t.map.rows.n t.map.rows.dist.now t.away.now c.args.c (length c.args.lost.now) c.fill.new.self c.requires.losts (c.fill.ensures.after (λ y e. e)), c.fill.ensures.len ∙ c.requires.losts)

pub fade-requires-clause-low : goal.fade-requires-clause-low
fade-requires-clause-low c =
    let t = c.args.self.now in
    fading_few t.map.rows.n t.map.rows.dist.now t.away.now c.args.c c.loop-v.v c.loop-v.lost c.loop-v.invariant.0 (omega arith) c.loop-v.invariant.1

pub loop-v-preserved : goal.loop-v-preserved
loop-v-preserved c =
    let t = c.args.self.now in
    let v = c.loop-v.v in
    let from = get_or c.dists-from-items.result.now v 0 in
    let is = c.dists-from-items.ensures.is v (omega arith) in
    elim c.if-from-self.branch [
      | then-from-self w ↦ (simp w.lost-is (fading_some t.map.rows.n t.map.rows.dist.now t.away.now c.args.c v from is c.loop-v.lost c.loop-v.invariant.0 w.fade.new.lost w.fade.ensures), omega arith)
      | else-from-self w ↦ (simp w.lost-is (fading_none t.map.rows.n t.map.rows.dist.now t.away.now c.args.c v from is c.loop-v.lost c.loop-v.invariant.0 w.if-from-self.false), omega arith)
    ]

pub tally-requires-clause-losts : goal.tally-requires-clause-losts
tally-requires-clause-losts c =
    let t = c.args.self.now in
    fading_few t.map.rows.n t.map.rows.dist.now t.away.now c.args.c c.loop-v.v c.loop-v.lost c.loop-v.invariant.0 (omega arith) c.loop-v.invariant.1

pub returns-clause-is : goal.returns-clause-is
returns-clause-is c =
    let t = c.args.self.now in
    let r = t.map.rows in
    let e : c.loop-v.v ≡ r.n = omega arith in
    let f = subst (λ k. Fading r.n r.dist.now t.away.now c.args.c k c.loop-v.lost) e c.loop-v.invariant.0 in
    λ z l a k g. c.tally.ensures.is
    ∙ ap (λ (xs : List ℕ). left_below xs c.loop-v.lost c.one_more.result.count t.room (length c.loop-v.lost)) c.one_more.ensures.near
    ∙ ap (λ k. left_below t.lines.near.now c.loop-v.lost k t.room (length c.loop-v.lost)) c.one_more.ensures.count
    ∙ ap (left_below t.lines.near.now c.loop-v.lost (t.lines.count + 1) t.room) c.loop-v.invariant.1
    ∙ judged_left z l r.n r.dist.now t.away.now t.lines.near.now c.loop-v.lost t.lines.count t.room c.args.c a k g c.requires.there t.near_is f
