-- A set of places and a landmark lead everybody to v: the proof, by the places that are still ahead. Assumes nothing.
--
-- Two legs: outside the set and off the landmark one goes towards the landmark; then, in the set or from the landmark, towards v. At each place
-- there is a set of places ahead. The next place is ahead, what is ahead of it was ahead before, and no place is ahead of itself: so places
-- ahead grow fewer with each road, and no place comes twice.
use Rattle.std.proofs.Common.{◌≡◌, ℕ, zero, suc, ◌+◌, ◌<◌, ◌≤◌, Bool, true, false, ◌&&◌, ◌||◌, ◌⊎◌, sym, refl, ap, ◌∙◌, subst, inl, inr, arith}
use Rattle.std.proofs.lemmas.Bool.{cases_Bool, cases_eq, cases_lt, both_ways, eq-eqb, ne_eqb, and_from, and_parts, and_right, or_cases, or_from, or_left, or_right}
use Rattle.ways.specs.Map.{Map, At, far, To, hop}
use Rattle.ways.specs.Ways.{Joined, count_below}
use Rattle.ways.proofs.Fars.{at_same}
use Rattle.ways.proofs.Certified.{certified}
use Rattle.ways.proofs.LeastWays.{least_ways}
use Rattle.ways.proofs.Metric.{triangle, there_and_back}
use Rattle.ways.proofs.NextPlaces.{next_place}
use Rattle.ways.proofs.Counting.{count_less, count_short}
use Rattle.landmarks.specs.Landmarks.{closer}
use Rattle.landmarks.proofs.Closer.{closer_self, closer_trans}
use Rattle.landmarks.proofs.Near.{hop_closer}
use Rattle.walking.specs.General.{Rule, rule_of, Guide, GuidedWalk, GuidedArrives, GuidedThrice, WideStarts, Follow, there, on}
use Rattle.walking.proofs.Following.{follow_walked}

module _ (z : Map) (known : ℕ → Bool) (mark v : ℕ) (joined : Joined z) (g : Guide z known mark v) where
  abbrev rule : Rule
  rule = rule_of z known mark v

  -- ---- what the rule says on each leg
  pub rule_last : (u : ℕ) → (known u ≡ true) ⊎ (u ≡ mark) → rule u ≡ hop z v u
  rule_last u (inl t) = rw t refl
  rule_last u (inr e) = elim (cases_Bool (known u)) [ inl t ↦ rw t refl | inr t ↦ rw (t, eq-eqb u mark e, e) refl ]

  pub rule_first : (u : ℕ) → known u ≡ false → (u ≡ mark → ⊥) → rule u ≡ hop z mark u
  rule_first u t ne = rw (t, ne_eqb u mark ne) refl

  next_known : (u w : ℕ) → u < z.n → (known u ≡ true) ⊎ (u ≡ mark) → hop z v u ≡ To w → known w ≡ true
  next_known u w un (inl t) h = g.stays u w un t h
  next_known u w un (inr e) h = g.starts w (sym (ap (hop z v) e) ∙ h)

  -- ---- the places ahead on each leg
  abbrev ahead_last : ℕ → ℕ → Bool
  ahead_last u x = known x && closer (far z v x) (far z v u)

  abbrev ahead_first : ℕ → ℕ → Bool
  ahead_first u x = known x || closer (far z mark x) (far z mark u)

  last_self : (u : ℕ) → ahead_last u u ≡ false
  last_self u = and_right (known u) (closer (far z v u) (far z v u)) (closer_self (far z v u))

  first_self : (u : ℕ) → known u ≡ false → ahead_first u u ≡ false
  first_self u t = or_from (known u) (closer (far z mark u) (far z mark u)) t (closer_self (far z mark u))

  last_fewer : (u w : ℕ) → u < z.n → w < z.n → known w ≡ true → hop z v u ≡ To w → count_below z.n (ahead_last w) < count_below z.n (ahead_last u)
  last_fewer u w un wn t h =
      let c = hop_closer z v u w g.place un h in
      count_less z.n w (ahead_last w) (ahead_last u) wn (last_self w) (and_from (known w) (closer (far z v w) (far z v u)) t c)
      (λ x _ a. let p = and_parts (known x) (closer (far z v x) (far z v w)) a in
      and_from (known x) (closer (far z v x) (far z v u)) p.0 (closer_trans (far z v x) (far z v w) (far z v u) p.1 c))

  turn_fewer : (u w : ℕ) → u < z.n → w < z.n → hop z mark u ≡ To w → count_below z.n (ahead_last w) < count_below z.n (ahead_first u)
  turn_fewer u w un wn h =
      count_less z.n w (ahead_last w) (ahead_first u) wn (last_self w) (or_right (known w) (closer (far z mark w) (far z mark u)) (hop_closer z mark u w g.landmark un h))
      (λ x _ a. or_left (known x) (closer (far z mark x) (far z mark u)) (and_parts (known x) (closer (far z v x) (far z v w)) a).0)

  first_fewer : (u w : ℕ) → u < z.n → w < z.n → known w ≡ false → hop z mark u ≡ To w → count_below z.n (ahead_first w) < count_below z.n (ahead_first u)
  first_fewer u w un wn t h =
      let c = hop_closer z mark u w g.landmark un h in
      count_less z.n w (ahead_first w) (ahead_first u) wn (first_self w t) (or_right (known w) (closer (far z mark w) (far z mark u)) c)
      (λ x _ a. elim (or_cases (known x) (closer (far z mark x) (far z mark w)) a) [
        | inl k ↦ or_left (known x) (closer (far z mark x) (far z mark u)) k
        | inr k ↦ or_right (known x) (closer (far z mark x) (far z mark u)) (closer_trans (far z mark x) (far z mark w) (far z mark u) k c)
      ])

  -- ---- the legs
  last_leg : (b u p : ℕ) → u < z.n → far z v u ≡ At p → (known u ≡ true) ⊎ (u ≡ mark) → count_below z.n (ahead_last u) < b → (k : ℕ) × (k < b) × Follow z rule v u p k
  last_leg zero u p un h good lt = absurd (omega arith)
  last_leg (suc b) u p un h good lt = elim (cases_eq u v) [
    | inl e ↦ (let s : 0 ≡ p = at_same 0 p (sym (certified z v g.place).here ∙ sym (ap (far z v) e) ∙ h) in
        (0, omega arith, subst (λ x. Follow z rule v x p 0) (sym e) (subst (λ x. Follow z rule v v x 0) s (there g.place))))
    | inr ne ↦ (let n = next_place z v u g.place un in
        let w = n.there p h ne in
        let c = n.closer w.0 w.1 in
        let t = next_known u w.0 un good w.1 in
        let i = last_leg b w.0 c.rest c.there c.rest_is (inl t) (omega (arith, last_fewer u w.0 un c.there t w.1)) in
        let s : z.cost u w.0 + c.rest ≡ p = at_same (z.cost u w.0 + c.rest) p (sym c.whole_is ∙ h) in
        (1 + i.0, omega (arith, i.1), subst (λ x. Follow z rule v u x (1 + i.0)) s (on u w.0 c.rest i.0 un ne (rule_last u good ∙ w.1) c.neighbour i.2)))
  ]

  first_leg : (b u p q : ℕ) → u < z.n → far z mark u ≡ At p → far z v mark ≡ At q → known u ≡ false → (u ≡ mark → ⊥) → count_below z.n (ahead_first u) < b → (c : ℕ) × (k : ℕ) × (k < b) × (c ≤ p + q) × Follow z rule v u c k
  first_leg zero u p q un h hq out off lt = absurd (omega arith)
  first_leg (suc b) u p q un h hq out off lt =
      let n = next_place z mark u g.landmark un in
      let w = n.there p h off in
      let c = n.closer w.0 w.1 in
      let s : z.cost u w.0 + c.rest ≡ p = at_same (z.cost u w.0 + c.rest) p (sym c.whole_is ∙ h) in
      let ne : u ≡ v → ⊥ = λ e. both_ways (known u) out (ap known e ∙ g.home) in
      let last : (known w.0 ≡ true) ⊎ (w.0 ≡ mark) → (c : ℕ) × (k : ℕ) × (k < suc b) × (c ≤ p + q) × Follow z rule v u c k =
      λ good. let d = triangle z w.0 mark v c.rest q c.there g.landmark g.place c.rest_is hq in
      let i = last_leg b w.0 d.0 c.there d.1 good (omega (arith, turn_fewer u w.0 un c.there w.1)) in (
        z.cost u w.0 + d.0,
        1 + i.0,
        omega (arith, i.1),
        omega (arith, d.2),
        on u w.0 d.0 i.0 un ne (rule_first u out off ∙ w.1) c.neighbour i.2,
      ) in
      elim (cases_Bool (known w.0)) [
        | inl t ↦ last (inl t)
        | inr t ↦ elim (cases_eq w.0 mark) [
          | inl e ↦ last (inr e)
          | inr o ↦ (let i = first_leg b w.0 c.rest q c.there c.rest_is hq t o (omega (arith, first_fewer u w.0 un c.there t w.1)) in (
            z.cost u w.0 + i.0,
            1 + i.1,
            omega (arith, i.2),
            omega (arith, i.3),
            on u w.0 i.0 i.1 un ne (rule_first u out off ∙ w.1) c.neighbour i.4,
          ))
        ]
      ]

  -- ---- from anywhere
  from_last : (u : ℕ) → u < z.n → (known u ≡ true) ⊎ (u ≡ mark) → GuidedWalk z known mark v u
  from_last u un good =
      let d = joined v u g.place un in
      let i = last_leg z.n u d.0 un d.1 good (count_short z.n u (ahead_last u) un (last_self u)) in
      record {
        cost = d.0;
        roads = i.0;
        walked = follow_walked z rule v u d.0 i.0 i.1 i.2;
        by_landmark = λ p q h hq. let t = triangle z u mark v p q un g.landmark g.place h hq in let s : t.0 ≡ d.0 = at_same t.0 d.0 (sym t.1 ∙ d.1) in omega (arith, t.2);
        cheapest = λ p h _. at_same d.0 p (sym d.1 ∙ h);
      }

  from_first : (u : ℕ) → u < z.n → known u ≡ false → (u ≡ mark → ⊥) → GuidedWalk z known mark v u
  from_first u un out off =
      let d = joined mark u g.landmark un in
      let e = joined v mark g.place g.landmark in
      let i = first_leg z.n u d.0 e.0 un d.1 e.1 out off (count_short z.n u (ahead_first u) un (first_self u out)) in
      let t = follow_walked z rule v u i.0 i.1 i.2 i.4 in
      record {
        cost = i.0;
        roads = i.1;
        walked = t;
        by_landmark = λ p q h hq. let s = at_same d.0 p (sym d.1 ∙ h) in let y = at_same e.0 q (sym e.1 ∙ hq) in omega (arith, i.3, s, y);
        cheapest = λ p h why. elim why [
          | inl k ↦ absurd (both_ways (known u) out k)
          | inr m ↦ (let s : d.0 ≡ p = at_same d.0 p (sym d.1 ∙ ap (λ x. far z x u) m ∙ h) in
              let y : e.0 ≡ 0 = at_same e.0 0 (sym e.1 ∙ ap (far z v) m ∙ (certified z v g.place).here) in
              let n = (least_ways z v u g.place un).no_less i.0 i.1 t.way in
              let o : n.0 ≡ p = at_same n.0 p (sym n.1 ∙ h) in
              omega (arith, i.3, n.2))
        ];
      }

pub guided_arrives : GuidedArrives
guided_arrives z known mark v joined g u un = elim (cases_Bool (known u)) [
  | inl t ↦ from_last z known mark v joined g u un (inl t)
  | inr t ↦ elim (cases_eq u mark) [ inl e ↦ from_last z known mark v joined g u un (inr e) | inr ne ↦ from_first z known mark v joined g u un t ne ]
]

pub guided_thrice : GuidedThrice
guided_thrice z known mark v u p both joined mn vn un wide w h =
    let e = joined v mark vn mn in
    let d = joined mark u mn un in
    let t = triangle z u v mark p e.0 un vn mn h (there_and_back z both mark v mn vn ∙ e.1) in
    let s : t.0 ≡ d.0 = at_same t.0 d.0 (sym t.1 ∙ d.1) in
    elim (cases_lt p e.0) [
      | inl lt ↦ omega (arith, w.cheapest p h (inl (wide u p e.0 un h e.1 lt)))
      | inr ge ↦ omega (arith, w.by_landmark d.0 e.0 d.1 e.1, t.2)
    ]

pub wide_starts : WideStarts
wide_starts z known mark v w mn vn wide h =
    let c = (next_place z v mark vn mn).closer w h in
    wide w c.rest (z.cost mark w + c.rest) c.there c.rest_is c.whole_is (omega (arith, c.neighbour))
