use Rattle.std.proofs.Common.{◌≡◌, ℕ, List, get_or, Option, MatchOption, arith}
use Rattle.maps.specs.Charts.{chart}
use Rattle.maps.specs.Arcs.{arc_part}
use Rattle.maps.specs.Sought.{Sought}
use Rattle.maps.specs.declared.map.RoadMap.{RoadMap}
use Rattle.maps.proofs.Views.{view_arcs}
use Rattle.maps.proofs.Searching.{searched_cost}
use Rattle.maps.proofs.map.RoadMap.cost.Goals as goal

-- the same of arcs that are lent
lent_cost : (m : RoadMap) (a e : ℕ) (places costs : List ℕ) (r : Option ℕ) → places ≡ arc_part m.n m.starts.now m.places.now a → costs ≡ arc_part m.n m.starts.now m.costs.now a
    → Sought (λ y. y) places e r → MatchOption r (0 ≡ (chart m).cost a e) (λ k. get_or costs k 0 ≡ (chart m).cost a e)
lent_cost m a e places costs r p q h = rw q (searched_cost m.n m.starts.now m.places.now m.costs.now (view_arcs m) a e r (rw p at h))

pub bounds-costs-k : goal.bounds-costs-k
bounds-costs-k c = omega (arith, (rw c.in-Some.is at c.search.ensures).0, c.arcs.result.level)

pub returns-in-Some : goal.returns-in-Some
returns-in-Some c =
    rw c.in-Some.is at (lent_cost c.args.self.now c.args.a c.args.e c.arcs.result.places.now c.arcs.result.costs.now c.search.result c.arcs.ensures.places c.arcs.ensures.costs c.search.ensures)

pub returns-in-None : goal.returns-in-None
returns-in-None c =
    rw c.in-None.is at (lent_cost c.args.self.now c.args.a c.args.e c.arcs.result.places.now c.arcs.result.costs.now c.search.result c.arcs.ensures.places c.arcs.ensures.costs c.search.ensures)
