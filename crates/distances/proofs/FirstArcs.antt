-- The first arc that begins a cheapest way leads to the next place. Assumes nothing.
use Rattle.std.proofs.Common.{◌≡◌, ℕ, ◌+◌, ◌-◌, ◌^◌, ◌<◌, List, length, get_or, Some, None, Option, sym, refl, ap, ◌∙◌, subst, inl, inr, arith}
use Rattle.std.specs.Prelude.{unwrap_or}
use Rattle.std.proofs.lemmas.Bool.{cases_eq, cases_lt}
use Rattle.ways.specs.Map.{At, far, Hop, Nowhere, To, hop}
use Rattle.ways.specs.Laws.{Closer}
use Rattle.ways.proofs.Fars.{at_same}
use Rattle.ways.proofs.Certified.{certified}
use Rattle.ways.proofs.NextPlaces.{next_place}
use Rattle.maps.specs.Arcs.{arc_part}
use Rattle.maps.specs.Charts.{chart}
use Rattle.maps.specs.declared.map.RoadMap.{RoadMap}
use Rattle.maps.proofs.Views.{view_arcs}
use Rattle.maps.proofs.ArcParts.{part_length, part_at, part_inside}
use Rattle.maps.proofs.Costs.{arc_cost, road_arc, arcs_rise}
use Rattle.distances.specs.Rows.{hop_number, FarRow}
use Rattle.distances.specs.Steps.{Leads, FirstOn}
use Rattle.distances.proofs.Numbers.{number_at, at_number}

module _ (m : RoadMap) (d : ℕ) (dn : d < m.n) (dist : List ℕ) (f : FarRow (chart m) d dist) (a : ℕ) (an : a < m.n) (fits : get_or dist a 0 < 2 ^ 32)
    (ps cs : List ℕ) (pe : ps ≡ arc_part m.n m.starts.now m.places.now a) (ce : cs ≡ arc_part m.n m.starts.now m.costs.now a) where
  long : length ps ≡ get_or m.starts.now (a + 1) 0 - get_or m.starts.now a 0
  long = ap length pe ∙ part_length m.n m.starts.now m.places.now m.costs.now (view_arcs m) m.places.now refl a an

  place_at_lem : (k : ℕ) → get_or m.starts.now a 0 + k < get_or m.starts.now (a + 1) 0 → get_or ps k 0 ≡ get_or m.places.now (get_or m.starts.now a 0 + k) 0
  place_at_lem k h = ap (λ (xs : List ℕ). get_or xs k 0) pe ∙ part_at m.n m.starts.now m.places.now m.costs.now (view_arcs m) m.places.now refl a an k h

  cost_at : (k : ℕ) → get_or m.starts.now a 0 + k < get_or m.starts.now (a + 1) 0 → get_or cs k 0 ≡ get_or m.costs.now (get_or m.starts.now a 0 + k) 0
  cost_at k h = ap (λ (xs : List ℕ). get_or xs k 0) ce ∙ part_at m.n m.starts.now m.places.now m.costs.now (view_arcs m) m.costs.now (view_arcs m).level a an k h

  pub arcs_inside : (k : ℕ) → k < length ps → get_or ps k 0 < m.n
  arcs_inside k l = omega (arith, part_inside m.n m.starts.now m.places.now m.costs.now (view_arcs m) a an k (omega (arith, ap length pe)), ap (λ (xs : List ℕ). get_or xs k 0) pe)

  within_arcs : (k : ℕ) → k < length ps → get_or m.starts.now a 0 + k < get_or m.starts.now (a + 1) 0
  within_arcs k l = omega (arith, l, long)

  -- an arc that leads on makes its place closer by its cost
  leads_closer : (k e : ℕ) → k < length ps → get_or ps k 0 ≡ e → Leads (get_or cs k 0) (get_or dist a 0) (get_or dist e 0) → Closer (chart m) d a e
  leads_closer k e l p h =
      let i = within_arcs k l in
      let en : e < m.n = omega (arith, p, arcs_inside k l) in
      let x : (chart m).cost a e ≡ get_or cs k 0 = sym (ap (λ q. (chart m).cost a q) (sym (place_at_lem k i) ∙ p)) ∙ arc_cost m.n m.starts.now m.places.now m.costs.now (view_arcs m) a (get_or m.starts.now a 0 + k) an (omega arith) i ∙ sym (cost_at k i) in
      let y : far (chart m) d e ≡ At (get_or dist e 0) = number_at (far (chart m) d e) (get_or dist e 0) (f e en) (omega (arith, h.0, h.1, fits)) in
      let t = (certified (chart m) d dn).less a e (get_or dist e 0) an en (omega (arith, x, h.0)) y in
      let s : get_or dist a 0 ≡ t.0 = at_number (far (chart m) d a) (get_or dist a 0) t.0 (f a an) t.1 in
      record { there = en; neighbour = omega (arith, x, h.0); rest = get_or dist e 0; rest_is = y; whole_is = t.1 ∙ ap At (omega (arith, s, x, h.1)) }

  -- and each closer neighbour has such an arc
  closer_leads : (e : ℕ) → Closer (chart m) d a e → (k : ℕ) × (k < length ps) × (get_or ps k 0 ≡ e) × Leads (get_or cs k 0) (get_or dist a 0) (get_or dist e 0)
  closer_leads e c =
      let r = road_arc m.n m.starts.now m.places.now m.costs.now (view_arcs m) a e an c.there c.neighbour in
      let k : ℕ = r.0 - get_or m.starts.now a 0 in
      let s : get_or m.starts.now a 0 + k ≡ r.0 = omega (arith, r.1) in
      let i : get_or m.starts.now a 0 + k < get_or m.starts.now (a + 1) 0 = omega (arith, s, r.2) in
      let p : get_or ps k 0 ≡ e = place_at_lem k i ∙ ap (λ q. get_or m.places.now q 0) s ∙ r.3 in
      let x : get_or cs k 0 ≡ (chart m).cost a e = cost_at k i ∙ ap (λ q. get_or m.costs.now q 0) s ∙ sym r.4 in
      let y = at_number (far (chart m) d e) (get_or dist e 0) c.rest (f e c.there) c.rest_is in
      let w = at_number (far (chart m) d a) (get_or dist a 0) ((chart m).cost a e + c.rest) (f a an) c.whole_is in
      (k, omega (arith, i, long), p, (omega (arith, x, c.neighbour), omega (arith, x, y, w)))

  rises : (j k : ℕ) → j < length ps → k < length ps → get_or ps j 0 < get_or ps k 0 → j < k
  rises j k lj lk h = elim (cases_lt j k) [
    | inl p ↦ p
    | inr p ↦ elim (cases_eq j k) [
      | inl e ↦ absurd (omega (arith, h, ap (λ q. get_or ps q 0) e))
      | inr e ↦ (let x = arcs_rise m.n m.starts.now m.places.now m.costs.now (view_arcs m) a (get_or m.starts.now a 0 + k) (get_or m.starts.now a 0 + j) an (omega arith) (omega arith) (within_arcs j lj) in
          absurd (omega (arith, h, x, place_at_lem j (within_arcs j lj), place_at_lem k (within_arcs k lk))))
    ]
  ]

  same_hop : (w r : ℕ) → hop (chart m) d a ≡ To w → Closer (chart m) d a r → ((x : ℕ) → x < r → Closer (chart m) d a x → ⊥) → w ≡ r
  same_hop w r h c low =
      let N = next_place (chart m) d a dn an in
      elim (cases_lt w r) [
        | inl p ↦ absurd (low w p (N.closer w h))
        | inr p ↦ elim (cases_eq w r) [ inl e ↦ e | inr e ↦ absurd (N.lowest_such w r h (omega arith) c) ]
      ]

  not_d : (r : ℕ) → Closer (chart m) d a r → a ≡ d → ⊥
  not_d r c e =
      let x : At ((chart m).cost a r + c.rest) ≡ At 0 = sym c.whole_is ∙ ap (far (chart m) d) e ∙ (certified (chart m) d dn).here in
      omega (arith, at_same ((chart m).cost a r + c.rest) 0 x, c.neighbour)

  none_hop : (h : Hop) → hop (chart m) d a ≡ h → ((k : ℕ) → k < length ps → Leads (get_or cs k 0) (get_or dist a 0) (get_or dist (get_or ps k 0) 0) → ⊥) → 65535 ≡ hop_number h
  none_hop Nowhere e b = refl
  none_hop (To w) e b =
      let c = closer_leads w ((next_place (chart m) d a dn an).closer w e) in
      absurd (b c.0 c.1 (subst (λ q. Leads (get_or cs c.0 0) (get_or dist a 0) (get_or dist q 0)) (sym c.2) c.3))

  pub first_is_hop : (r : Option ℕ) → FirstOn ps cs (get_or dist a 0) dist r → unwrap_or r 65535 ≡ hop_number (hop (chart m) d a)
  first_is_hop (Some r) h =
      let c = leads_closer h.0 r h.1 h.2 h.3 in
      let t = (next_place (chart m) d a dn an).there ((chart m).cost a r + c.rest) c.whole_is (not_d r c) in
      let low : (x : ℕ) → x < r → Closer (chart m) d a x → ⊥ = λ x l q.
      (let j = closer_leads x q in
      h.4 j.0 (rises j.0 h.0 j.1 h.1 (omega (arith, j.2, h.2))) (subst (λ y. Leads (get_or cs j.0 0) (get_or dist a 0) (get_or dist y 0)) (sym j.2) j.3)) in
      sym (same_hop t.0 r t.1 c low) ∙ ap hop_number (sym t.1)
  first_is_hop None h = none_hop (hop (chart m) d a) refl h
