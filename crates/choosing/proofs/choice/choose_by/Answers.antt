use Rattle.std.proofs.Common.{◌≡◌, true, length, set, get_or, sym, ap, ◌∙◌, arith, length-set}
use Rattle.choosing.specs.Tables.{apart, over_below}
use Rattle.choosing.proofs.Loops.{turn_start, turn_done, turn_full, turn_none, turn_on, turn_crowd, marks_first}
use Rattle.choosing.proofs.Ranges.{outers_start, outers_lower}
use Rattle.choosing.proofs.RowParts.{lowered}
use Rattle.choosing.proofs.choice.choose_by.Goals as goal

pub choosing-init : goal.choosing-init
choosing-init c =
    let r = c.args.map.now.rows in
    record {
      rule = λ z t. turn_start z c.args.room r.n r.dist.now (set c.fill.new.self 0 true) c.copy_from_slice.new.self t r.some
          (marks_first (length c.args.marks.now) c.fill.new.self (omega (arith, r.some, c.requires.marks)) (c.fill.ensures.after (λ y e. e)))
          (λ v vn. ap (λ xs. get_or xs v 0) c.copy_from_slice.ensures.after ∙ c.dists.ensures.is v vn);
      few = omega arith;
      some = omega arith;
      outers = outers_start r.n r.dist.now r.order.now c.copy_from_slice.new.self c.fill-2.new.self (length c.args.ball.now) c.requires.balls (c.fill-2.ensures.after (λ y e. e));
    }

pub returns-then-count-from : goal.returns-then-count-from
returns-then-count-from c =
    let r = c.args.map.now.rows in
    let l = c.choosing in
    let near = c.count_near.new.near in
    let long : length near ≡ r.n = omega arith in
    let some : over_below near l.count c.args.room r.n ≡ 0 → ⊥ = λ h. c.if-above-eq0.false (c.above.ensures.is ∙ ap (over_below near l.count c.args.room) long ∙ h) in
    λ z t. (
      turn_full z c.args.room r.n r.dist.now l.marks l.away l.count (l.invariant.rule z t) l.invariant.few near c.count_near.ensures.is some (omega (arith, c.if-count-from.true, c.from.ensures)),
      turn_crowd z c.args.room r.n r.dist.now l.marks l.away l.count (l.invariant.rule z t) l.invariant.few near c.count_near.ensures.is some c.fullest.result long c.fullest.ensures,
    )

pub returns-in_default : goal.returns-in_default
returns-in_default c =
    let r = c.args.map.now.rows in
    let l = c.choosing in
    let near = c.count_near.new.near in
    let long : length near ≡ r.n = omega arith in
    let some : over_below near l.count c.args.room r.n ≡ 0 → ⊥ = λ h. c.if-above-eq0.false (c.above.ensures.is ∙ ap (over_below near l.count c.args.room) long ∙ h) in
    λ z t. (
      turn_none z c.args.room r.n r.dist.now l.marks l.away l.count (l.invariant.rule z t) l.invariant.few near c.count_near.ensures.is some (omega (arith, c.if-count-from.false, c.from.ensures)) (c.in_default.ensures.is z (l.invariant.rule z t).aways (l.invariant.rule z t).counts),
      turn_crowd z c.args.room r.n r.dist.now l.marks l.away l.count (l.invariant.rule z t) l.invariant.few near c.count_near.ensures.is some c.fullest-in_default.result long c.fullest-in_default.ensures,
    )

pub choosing-preserved : goal.choosing-preserved
choosing-preserved c =
    let r = c.args.map.now.rows in
    let l = c.choosing in
    let near = c.count_near.new.near in
    let long : length near ≡ r.n = omega arith in
    let some : over_below near l.count c.args.room r.n ≡ 0 → ⊥ = λ h. c.if-above-eq0.false (c.above.ensures.is ∙ ap (over_below near l.count c.args.room) long ∙ h) in
    let best = c.in-Some.best in
    let u = c.in-Some.ensures.unmarked in
    let less = lowered r.n best.place r.dist.now l.away c.dists-in-choosing.result.now c.dists-in-choosing.ensures.is (omega arith) c.lower.new.away c.lower.ensures in
    record {
      rule = λ z t. turn_on z c.args.room r.n r.dist.now l.marks l.away l.count (l.invariant.rule z t) l.invariant.few near c.count_near.ensures.is some best.place best.lines c.lower.new.away (omega (arith, c.if-count-from.false, c.from.ensures))
          (c.in-Some.ensures.is z (l.invariant.rule z t).aways (l.invariant.rule z t).counts) u.0 (omega (arith, u.0, length-set c.fill.new.self 0 true)) u.1 less;
      few = omega (arith, c.if-count-from.false, c.from.ensures);
      some = omega arith;
      outers = outers_lower r.n r.dist.now r.order.now l.away c.lower.new.away c.shrink_all.new.ball (apart r.n r.dist.now best.place) c.shrink_all.ensures less;
    }

pub returns : goal.returns
returns c =
    let r = c.args.map.now.rows in
    let l = c.choosing in
    let near = c.count_near.new.near in
    let long : length near ≡ r.n = omega arith in
    λ z t. turn_done z c.args.room r.n r.dist.now l.marks l.away l.count (l.invariant.rule z t) l.invariant.few near c.count_near.ensures.is (sym (ap (over_below near l.count c.args.room) long) ∙ sym c.above.ensures.is ∙ c.if-above-eq0.true)
