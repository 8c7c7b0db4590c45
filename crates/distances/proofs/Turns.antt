-- One turn of the search, over a map in memory and the queue as the code has it. Assumes nothing.
use Rattle.std.proofs.Common.{◌≡◌, ℕ, ◌+◌, ◌-◌, ◌<◌, List, length, get_or, Some, None, refl, ap, ◌∙◌, subst, arith}
use Rattle.ways.specs.Ways.{count_below}
use Rattle.ways.proofs.Counting.{count_most}
use Rattle.maps.specs.Arcs.{arc_part}
use Rattle.maps.specs.Charts.{chart}
use Rattle.maps.specs.declared.map.RoadMap.{RoadMap}
use Rattle.maps.proofs.Views.{view_arcs}
use Rattle.maps.proofs.ArcParts.{part_length, part_at, part_inside}
use Rattle.distances.specs.Keys.{Popped}
use Rattle.distances.specs.Orders.{Reached, Sorted}
use Rattle.distances.specs.Rows.{FarRow}
use Rattle.distances.specs.Steps.{Followed}
use Rattle.distances.proofs.Ordering.{Ordering}
use Rattle.distances.proofs.Searching.{settled, Searching, searching_more, settled_more, searching_end, fewer, order_more, order_end}

module _ (m : RoadMap) (d : ℕ) (dn : d < m.n) (dist keys : List ℕ) (o : Searching (chart m) m.n d dist keys) where
  module _ (q : ℕ) (qn : q ≡ m.n) (u : ℕ) (keys₁ : List ℕ) (p : Popped q keys keys₁ (Some u)) where
    popped : Popped m.n keys keys₁ (Some u)
    popped = subst (λ n. Popped n keys keys₁ (Some u)) qn p

    -- there is a place for u in the order
    pub turn_place : (seq : ℕ → ℕ) (count : ℕ) → Ordering m.n (λ a. get_or dist a 0) (settled m.n dist keys) seq count → count < m.n
    turn_place seq count ordered = omega (arith, ordered.counts, fewer m.n m.starts.now m.places.now m.costs.now (view_arcs m) d dn dist keys o u popped.0 popped.1 popped.2)

    module _ (ps cs : List ℕ) (pe : ps ≡ arc_part m.n m.starts.now m.places.now u) (ce : cs ≡ arc_part m.n m.starts.now m.costs.now u) where
      pub turn_places : (k : ℕ) → k < length ps → get_or ps k 0 < m.n
      turn_places k l = omega (arith, part_inside m.n m.starts.now m.places.now m.costs.now (view_arcs m) u popped.0 k (omega (arith, ap length pe)), ap (λ (xs : List ℕ). get_or xs k 0) pe)

      module _ (r : ℕ) (rn : r ≡ m.n) (after keys₂ : List ℕ) (fo : Followed r ps cs (get_or dist u 0) (length ps) dist after keys₁ keys₂) (la : length after ≡ length dist) where
        followed : Followed m.n ps cs (get_or dist u 0) (length ps) dist after keys₁ keys₂
        followed = subst (λ n. Followed n ps cs (get_or dist u 0) (length ps) dist after keys₁ keys₂) rn fo

        long : length ps ≡ get_or m.starts.now (u + 1) 0 - get_or m.starts.now u 0
        long = ap length pe ∙ part_length m.n m.starts.now m.places.now m.costs.now (view_arcs m) m.places.now refl u popped.0

        places_at : (k : ℕ) → get_or m.starts.now u 0 + k < get_or m.starts.now (u + 1) 0 → get_or ps k 0 ≡ get_or m.places.now (get_or m.starts.now u 0 + k) 0
        places_at k h = ap (λ (xs : List ℕ). get_or xs k 0) pe ∙ part_at m.n m.starts.now m.places.now m.costs.now (view_arcs m) m.places.now refl u popped.0 k h

        costs_at : (k : ℕ) → get_or m.starts.now u 0 + k < get_or m.starts.now (u + 1) 0 → get_or cs k 0 ≡ get_or m.costs.now (get_or m.starts.now u 0 + k) 0
        costs_at k h = ap (λ (xs : List ℕ). get_or xs k 0) ce ∙ part_at m.n m.starts.now m.places.now m.costs.now (view_arcs m) m.costs.now (view_arcs m).level u popped.0 k h

        pub turn_more : Searching (chart m) m.n d after keys₂
        turn_more = searching_more m.n m.starts.now m.places.now m.costs.now (view_arcs m) d dn dist keys o u popped.0 popped.1 popped.2 keys₁ popped.3 ps cs after keys₂ long places_at costs_at followed la

        pub turn_ordered : (seq next : ℕ → ℕ) (count : ℕ) → Ordering m.n (λ a. get_or dist a 0) (settled m.n dist keys) seq count → next count ≡ u → ((j : ℕ) → j < count → next j ≡ seq j)
            → Ordering m.n (λ a. get_or after a 0) (settled m.n after keys₂) next (count + 1)
        turn_ordered = order_more m.n m.starts.now m.places.now m.costs.now (view_arcs m) d dn dist keys o u popped.0 popped.1 popped.2 keys₁ popped.3 ps cs after keys₂ long places_at costs_at followed la

        -- fewer places are left
        pub turn_less : m.n - count_below m.n (settled m.n after keys₂) < m.n - count_below m.n (settled m.n dist keys)
        turn_less = omega (
          arith,
          settled_more m.n m.starts.now m.places.now m.costs.now (view_arcs m) d dn dist keys o u popped.0 popped.1 popped.2 keys₁ popped.3 ps cs after keys₂ long places_at costs_at followed la,
          count_most m.n (settled m.n after keys₂),
        )

  -- nobody waits any more
  pub turn_end : (q : ℕ) → q ≡ m.n → (keys₁ : List ℕ) → Popped q keys keys₁ None → FarRow (chart m) d dist
  turn_end q qn keys₁ p =
      searching_end m.n m.starts.now m.places.now m.costs.now (view_arcs m) d dn dist keys o (subst (λ n. Popped n keys keys₁ None) qn p).1

  pub turn_sorted : (q : ℕ) → q ≡ m.n → (keys₁ : List ℕ) → Popped q keys keys₁ None → (seq : ℕ → ℕ) (count : ℕ) → Ordering m.n (λ a. get_or dist a 0) (settled m.n dist keys) seq count
      → Reached m.n (λ a. get_or dist a 0) → Sorted m.n (λ a. get_or dist a 0) seq
  turn_sorted q qn keys₁ p =
      order_end m.n m.starts.now m.places.now m.costs.now (view_arcs m) d dn dist keys o (subst (λ n. Popped n keys keys₁ None) qn p).1
