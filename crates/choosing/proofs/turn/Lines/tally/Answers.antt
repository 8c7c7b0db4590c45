use Rattle.std.proofs.Common.{ℕ, ◌+◌, ◌-◌, ◌∙◌, arith, rules}
use Rattle.std.proofs.lemmas.Iterator.{YieldsList-from_map, YieldsList-from_slice, YieldsList-from_zip}
use Rattle.std.proofs.lemmas.Iterator.Adapters.{serves_from_places}
use Rattle.std.proofs.lemmas.Iterator.Consumers.{fits_by_from_yields_list, sum_by_from_yields_List}
use Rattle.std.specs.List.{zip}
use Rattle.choosing.proofs.Listed.{left_list, left_most, pair_small}
use Rattle.choosing.proofs.turn.Lines.tally.Goals as goal

pub sum-requires-clause-can : goal.sum-requires-clause-can
sum-requires-clause-can c = (
  (tt, tt),
  serves_from_places (YieldsList-from_zip (YieldsList-from_slice c.args.self.now.near.now cc) (YieldsList-from_slice c.args.lost.now cc)) (λ x q k. search rules)
      (λ x k h e. (let small = pair_small c.args.self.now.near.now c.args.lost.now c.requires.long k (x.0.now, x.1.now) c.args.self.now.small c.requires.losts h e in search rules)),
)

pub sum-requires-clause-fits : goal.sum-requires-clause-fits
sum-requires-clause-fits c =
    fits_by_from_yields_list (λ (p : ℕ × ℕ). (c.args.self.now.count + p.0) - (p.1 + (c.args.room + 1))) (zip c.args.self.now.near.now c.args.lost.now) _ _
    (YieldsList-from_map _ (λ p. (c.args.self.now.count + p.0) - (p.1 + (c.args.room + 1)))
    (YieldsList-from_zip (YieldsList-from_slice c.args.self.now.near.now cc) (YieldsList-from_slice c.args.lost.now cc)) c.map.ensures.closure (λ x r q k. search rules))
    (omega (arith, left_most c.args.self.now.near.now c.args.lost.now c.requires.long c.args.self.now.count c.args.room c.args.self.now.counts c.args.self.now.small, c.args.self.now.few))

pub returns-clause-is : goal.returns-clause-is
returns-clause-is c =
    sum_by_from_yields_List (λ (p : ℕ × ℕ). (c.args.self.now.count + p.0) - (p.1 + (c.args.room + 1))) (zip c.args.self.now.near.now c.args.lost.now) _ _ c.sum.ensures.ran
    (YieldsList-from_map _ (λ p. (c.args.self.now.count + p.0) - (p.1 + (c.args.room + 1)))
    (YieldsList-from_zip (YieldsList-from_slice c.args.self.now.near.now cc) (YieldsList-from_slice c.args.lost.now cc)) c.map.ensures.closure (λ x r q k. search rules))
    ∙ left_list c.args.self.now.near.now c.args.lost.now c.requires.long c.args.self.now.count c.args.room

pub returns-clause-small : goal.returns-clause-small
returns-clause-small c =
    omega (
      arith,
      returns-clause-is c,
      left_list c.args.self.now.near.now c.args.lost.now c.requires.long c.args.self.now.count c.args.room,
      left_most c.args.self.now.near.now c.args.lost.now c.requires.long c.args.self.now.count c.args.room c.args.self.now.counts c.args.self.now.small,
    )
