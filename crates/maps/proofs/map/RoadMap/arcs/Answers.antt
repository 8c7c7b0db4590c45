use Rattle.std.proofs.Common.{◌+◌, ◌<◌, ◌≤◌, ℕ, get_or, length, arith, rules}
use Rattle.maps.specs.declared.map.RoadMap.{RoadMap}
use Rattle.maps.proofs.Views.{view_arcs}
use Rattle.maps.proofs.Costs.{starts_most}
use Rattle.maps.proofs.map.RoadMap.arcs.Goals as goal

forward : (m : RoadMap) (a : ℕ) → a < m.n → get_or m.starts.now a 0 ≤ get_or m.starts.now (a + 1) 0
forward m a l = (view_arcs m).rises a l

within : (m : RoadMap) (a : ℕ) → a < m.n → get_or m.starts.now (a + 1) 0 ≤ length m.places.now
within m a l = starts_most m.n m.starts.now m.places.now m.costs.now (view_arcs m) (a + 1) (omega arith)

pub slice_bounds-result-count : goal.slice_bounds-result-count
slice_bounds-result-count c = forward c.args.self.now c.args.a (omega arith)

pub slice_bounds-result-start : goal.slice_bounds-result-start
slice_bounds-result-start c = let h = forward c.args.self.now c.args.a (omega arith) in search rules

pub slice_bounds-result-end-2 : goal.slice_bounds-result-end-2
slice_bounds-result-end-2 c = let h = within c.args.self.now c.args.a (omega arith) in search rules

pub slice_bounds-result-count-2 : goal.slice_bounds-result-count-2
slice_bounds-result-count-2 c = forward c.args.self.now c.args.a (omega arith)

pub slice_bounds-result-start-2 : goal.slice_bounds-result-start-2
slice_bounds-result-start-2 c = let h = forward c.args.self.now c.args.a (omega arith) in search rules

pub slice_bounds-result-end-3 : goal.slice_bounds-result-end-3
slice_bounds-result-end-3 c = let h = within c.args.self.now c.args.a (omega arith) in let e = (view_arcs c.args.self.now).level in search rules
