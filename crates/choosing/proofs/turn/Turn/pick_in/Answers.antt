use Rattle.std.proofs.Common.{◌≡◌, ℕ, ◌+◌, true, ltb, min, List, length, get_or, ap, subst, arith, rules}
use Rattle.std.specs.Option.{MatchOption}
use borrow.Author.Tests.{tests}
use Rattle.landmarks.specs.Landmarks.{marks_in}
use Rattle.choosing.specs.Choosing.{above, with_mark}
use Rattle.choosing.specs.Tables.{over_below}
use Rattle.choosing.proofs.Picks.{NoFewer, fewer, no_fewer, no_fewer_bound, picking_start, picking_mark, picking_takes, picking_stays}
use Rattle.choosing.proofs.Totals.{bounded}
use Rattle.choosing.proofs.turn.Turn.pick_in.Goals as goal
use Rattle.choosing.proofs.turn.Turn.pick_in.Goals.{then-not-marked+then-is_none_or+then-is_none_or-2, then-not-marked+then-is_none_or+else-is_none_or-2, else-not-marked, else-not-marked-via-then-not-marked+else-is_none_or, else-not-marked-via-else-not-marked}

pub loop-c-init : goal.loop-c-init
loop-c-init c =
    let t = c.args.self.now in
    (picking_start t.map.rows.n t.map.rows.dist.now t.marks.now t.away.now t.lines.count t.room, c.requires.losts)

pub loop-c-preserved : goal.loop-c-preserved
loop-c-preserved c =
    let t = c.args.self.now in
    let r = t.map.rows in
    let l = c.loop-c in
    elim c.if-not-marked.branch [
      | then-not-marked+then-is_none_or+then-is_none_or-2 w ↦ (let ask = w.is_none_or-then-is_none_or in
          let test : MatchOption l.best (ask.result ≡ true) (λ b. ask.result ≡ ltb w.judge-lines.result b.lines) = search (rules, tests) in (
            simp w.best-is (picking_takes r.n r.dist.now t.marks.now t.away.now t.lines.count t.room l.c-counter l.best l.invariant.0 w.if-not-marked.true w.judge-lines.result w.judge-lines.ensures.is
                (fewer l.best w.judge-lines.result ask.result test w.if-is_none_or-2.true)),
            omega arith,
          ))
      | then-not-marked+then-is_none_or+else-is_none_or-2 w ↦ (let ask = w.is_none_or-then-is_none_or in
          let test : MatchOption l.best (ask.result ≡ true) (λ b. ask.result ≡ ltb w.judge-lines.result b.lines) = search (rules, tests) in (
            simp w.best-is (picking_stays r.n r.dist.now t.marks.now t.away.now t.lines.count t.room l.c-counter l.best l.invariant.0 w.if-not-marked.true
                (λ z a k. subst (λ x. NoFewer x l.best) (w.judge-lines.ensures.is z (marks_in t.marks.now) a k w.if-not-marked.true) (no_fewer l.best w.judge-lines.result ask.result test w.if-is_none_or-2.false))),
            omega arith,
          ))
      | else-not-marked w ↦ (
        simp w.best-is (elim w.else-not-marked.branch [
          | else-not-marked-via-then-not-marked+else-is_none_or v ↦ (let ask = v.is_none_or in
              let most = c.above-most.result in
              let total = get_or c.bound.new.total l.c-counter 0 in
              let test : MatchOption l.best (ask.result ≡ true) (λ b. ask.result ≡ ltb most (min (b.lines + total) 4294967295)) = search (rules, tests) in
              picking_stays r.n r.dist.now t.marks.now t.away.now t.lines.count t.room l.c-counter l.best l.invariant.0 v.if-not-marked.true
              (λ z a k. no_fewer_bound l.best most total (above z t.room (with_mark l.c-counter (marks_in t.marks.now))) ask.result test v.if-is_none_or.false
              (omega (arith, c.above-most.ensures.small, ap length c.one_more.ensures.near, t.nears))
              (omega (
                arith,
                c.above-most.ensures.is,
                ap (λ (xs : List ℕ). over_below xs c.one_more.result.count t.room (length xs)) c.one_more.ensures.near,
                ap (λ k. over_below t.lines.near.now k t.room (length t.lines.near.now)) c.one_more.ensures.count,
                ap (over_below t.lines.near.now (t.lines.count + 1) t.room) t.nears,
                bounded z (marks_in t.marks.now) r.n r.dist.now t.away.now t.lines.near.now c.heat.new.hot c.bound.new.total t.lines.count t.room l.c-counter a k v.if-not-marked.true (omega arith) t.near_is c.heat.ensures c.bound.ensures,
              ))))
          | else-not-marked-via-else-not-marked v ↦ picking_mark r.n r.dist.now t.marks.now t.away.now t.lines.count t.room l.c-counter l.best l.invariant.0 v.if-not-marked.false
        ]),
        omega arith,
      )
    ]
