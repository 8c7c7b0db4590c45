-- A search among the arcs of a place finds the cost of a road, or that there is none. Assumes nothing.
use Rattle.std.proofs.Common.{◌≡◌, ℕ, ◌+◌, ◌-◌, ◌<◌, ◌≤◌, List, length, get_or, Option, Some, None, MatchOption, sym, refl, ap, ◌∙◌, inl, inr, arith}
use Rattle.std.proofs.lemmas.Bool.{cases_lt, cases_eq}
use Rattle.std.proofs.lemmas.List.Sorted.{IsNonDecreasingBy-from_default}
use Rattle.maps.specs.Sought.{Sought}
use Rattle.maps.specs.Arcs.{map_in, Arcs, arc_part}
use Rattle.maps.proofs.ArcParts.{part_length, part_at, no_part}
use Rattle.maps.proofs.Costs.{arcs_rise, arc_cost, road_arc, past_row, past_column}

module _ (n : ℕ) (starts places costs : List ℕ) (A : Arcs n starts places costs) (a e : ℕ) where
  rises_by : (i j : ℕ) → a < n → i ≤ j → j < length (arc_part n starts places a) → get_or (arc_part n starts places a) i 0 ≤ get_or (arc_part n starts places a) j 0
  rises_by i j l p q =
      let s = get_or starts a 0 in
      let m : s + j < get_or starts (a + 1) 0 = omega (arith, part_length n starts places costs A places refl a l) in
      let x = part_at n starts places costs A places refl a l in
      elim (cases_eq i j) [
        | inl r ↦ omega (arith, ap (λ k. get_or (arc_part n starts places a) k 0) r)
        | inr r ↦ omega (arith, x i (omega arith), x j m, arcs_rise n starts places costs A a (s + i) (s + j) l (omega arith) (omega arith) m)
      ]

  found : (k : ℕ) → a < n → (k < length (arc_part n starts places a)) × (get_or (arc_part n starts places a) k 0 ≡ e) → get_or (arc_part n starts costs a) k 0 ≡ (map_in n starts places costs).cost a e
  found k l h =
      let s = get_or starts a 0 in
      let m : s + k < get_or starts (a + 1) 0 = omega (arith, h.0, part_length n starts places costs A places refl a l) in
      part_at n starts places costs A costs A.level a l k m ∙ sym (arc_cost n starts places costs A a (s + k) l (omega arith) m)
      ∙ ap ((map_in n starts places costs).cost a) (sym (part_at n starts places costs A places refl a l k m) ∙ h.1)

  -- every road is an arc
  none : a < n → ((k : ℕ) → k < length (arc_part n starts places a) → get_or (arc_part n starts places a) k 0 ≡ e → ⊥) → 0 ≡ (map_in n starts places costs).cost a e
  none l other = elim (cases_lt e n) [
    | inr m ↦ sym (past_column n starts places costs A a e m)
    | inl m ↦ elim (cases_lt 0 ((map_in n starts places costs).cost a e)) [
      | inr p ↦ omega arith
      | inl p ↦
          let r = road_arc n starts places costs A a e l m p in
          let k = r.0 - get_or starts a 0 in
          let at : get_or starts a 0 + k ≡ r.0 = omega (arith, r.1) in
          let x : get_or (arc_part n starts places a) k 0 ≡ e = part_at n starts places costs A places refl a l k (omega (arith, r.2)) ∙ ap (λ j. get_or places j 0) at ∙ r.3 in
          absurd (other k (omega (arith, r.2, part_length n starts places costs A places refl a l)) x)
    ]
  ]

  pub searched_cost : (r : Option ℕ) → Sought (λ y. y) (arc_part n starts places a) e r
      → MatchOption r (0 ≡ (map_in n starts places costs).cost a e) (λ k. get_or (arc_part n starts costs a) k 0 ≡ (map_in n starts places costs).cost a e)
  searched_cost None h = elim (cases_lt a n) [
    | inl l ↦ none l (λ k m f. h (IsNonDecreasingBy-from_default (λ y. y) (arc_part n starts places a) 0 (λ i j p q. rises_by i j l p q)) k 0 (omega arith) m f)
    | inr l ↦ sym (past_row n starts places costs A a e l)
  ]
  searched_cost (Some k) h = elim (cases_lt a n) [
    | inl l ↦ found k l (h.0, h.1 0)
    | inr l ↦ absurd (omega (arith, h.0, ap length (no_part n starts places a l)))
  ]
