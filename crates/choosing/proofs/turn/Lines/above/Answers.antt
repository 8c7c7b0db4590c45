use Rattle.std.proofs.Common.{◌+◌, ◌-◌, ◌∙◌, arith, rules}
use Rattle.std.proofs.lemmas.Iterator.{YieldsList-from_map, YieldsList-from_slice}
use Rattle.std.proofs.lemmas.Iterator.Consumers.{fits_by_from_yields_list, sum_by_from_yields_List}
use Rattle.choosing.proofs.Listed.{over_list, over_most}
use Rattle.choosing.proofs.turn.Lines.above.Goals as goal

pub sum-requires-clause-fits : goal.sum-requires-clause-fits
sum-requires-clause-fits c =
    fits_by_from_yields_list (λ x. (c.args.self.now.count + x) - (c.args.room + 1)) c.args.self.now.near.now _ _
    (YieldsList-from_map _ (λ x. (c.args.self.now.count + x) - (c.args.room + 1)) (YieldsList-from_slice c.args.self.now.near.now cc) c.map.ensures.closure (λ x r q k. search rules))
    (omega (arith, over_most c.args.self.now.count c.args.room c.args.self.now.near.now c.args.self.now.counts c.args.self.now.small, c.args.self.now.few))

pub returns-clause-is : goal.returns-clause-is
returns-clause-is c =
    sum_by_from_yields_List (λ x. (c.args.self.now.count + x) - (c.args.room + 1)) c.args.self.now.near.now _ _ c.sum.ensures.ran
    (YieldsList-from_map _ (λ x. (c.args.self.now.count + x) - (c.args.room + 1)) (YieldsList-from_slice c.args.self.now.near.now cc) c.map.ensures.closure (λ x r q k. search rules))
    ∙ over_list c.args.self.now.count c.args.room c.args.self.now.near.now

pub returns-clause-small : goal.returns-clause-small
returns-clause-small c =
    omega (arith, returns-clause-is c, over_list c.args.self.now.count c.args.room c.args.self.now.near.now, over_most c.args.self.now.count c.args.room c.args.self.now.near.now c.args.self.now.counts c.args.self.now.small)
