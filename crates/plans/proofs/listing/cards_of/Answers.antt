use Rattle.std.proofs.Common.{◌≡◌, Bool, true, false, cond, ltb, Some, None, arith, rules, tests}
use Rattle.std.proofs.lemmas.Iterator.{YieldsList-from_map, YieldsList-from_range, items_from_collect}
use Rattle.cards.specs.Cards.{card_of}
use Rattle.cards.specs.declared.kinds.Card.{Card}
use Rattle.landmarks.specs.Lands.{map_in, marks_of}
use Rattle.plans.proofs.listing.cards_of.Goals as goal

-- a card that is there
card : (b : Bool) (x y : Card) → cond b (Some x) None ≡ Some y → y ≡ x
card true x y e = cc
card false x y e = cc

pub returns : goal.returns
returns c =
    let s = c.args.land.now in
    let z = map_in s in
    let l = marks_of s in
    items_from_collect _ c.collect.ensures.ran
    (YieldsList-from_map _ (card_of z l) (YieldsList-from_range 0 z.n z.n (cc) (omega arith)) c.map-2.ensures.closure (λ x r q k. (search (rules, tests), card (ltb x z.n) (card_of z l x) r (search (rules, tests)))))
