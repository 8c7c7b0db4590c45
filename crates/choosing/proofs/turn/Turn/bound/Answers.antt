use Rattle.std.proofs.Common.{◌≡◌, ℕ, ◌<◌, List, length, get_or, ap, ◌∙◌, arith}
use Rattle.std.proofs.lemmas.List.{get_or-replicate}
use Rattle.choosing.specs.Tables.{weight}
use Rattle.choosing.proofs.Totals.{losses_zero, losses_more}
use Rattle.choosing.proofs.turn.Turn.bound.Goals as goal

pub loop-v-init : goal.loop-v-init
loop-v-init c =
    let r = c.args.self.now.map.rows in
    let z : (u : ℕ) → u < r.n → get_or c.fill.new.self u 0 ≡ 0 = λ u un. ap (λ (xs : List ℕ). get_or xs u 0) (c.fill.ensures.after (λ y e. e)) ∙ get_or-replicate (length c.args.total.now) u 0 0 (omega (arith, c.requires.totals)) in
    (λ u un. omega (arith, losses_zero r.n r.dist.now c.args.self.now.away.now (weight c.args.hot.now) u), λ u un. omega (arith, z u un), c.fill.ensures.len ∙ c.requires.totals)

pub loop-v-preserved : goal.loop-v-preserved
loop-v-preserved c =
    let r = c.args.self.now.map.rows in (
      λ u un. omega (arith, c.gather.ensures.least u un, c.loop-v.invariant.0 u un, losses_more r.n r.dist.now c.args.self.now.away.now (weight c.args.hot.now) u c.loop-v.v),
      λ u un. omega (arith, c.gather.ensures.most u un, c.loop-v.invariant.1 u un),
      c.gather.auto.total ∙ c.loop-v.invariant.2,
    )
