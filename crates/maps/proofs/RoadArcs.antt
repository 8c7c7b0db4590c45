-- The arcs at a place of a map's roads: they lead elsewhere, each to a higher place than the one before, and cost what the roads cost. Assumes nothing.
use Rattle.std.proofs.Common.{◌≡◌, ℕ, zero, suc, ◌+◌, ◌<◌, ◌≤◌, Bool, true, false, cond, ◌&&◌, ◌||◌, eqb, ltb, ◌⊎◌, List, [], ◌∷◌, length, get_or, Some, None, Option, sym, refl, ap, ◌∙◌, subst, inl, inr, arith}
use Rattle.std.proofs.lemmas.Bool.{cases_eq, or_cases, or_left, or_right, and_parts, and_from, eq-eqb, ne_eqb, eqb-true, lt-ltb, ltb-true}
use Rattle.maps.specs.declared.kinds.Road.{Road}
use Rattle.maps.specs.declared.kinds.Arc.{Arc}
use Rattle.maps.specs.Roads.{comes_after, rises, joins, cost_in, Each, SoundRoad}
use Rattle.maps.specs.Laying.{no_arc, there, back, arcs_of, arcs_at}
use Rattle.maps.proofs.Arcing.{at_none, at_here, at_else}

-- ---- the arcs of one road at a place
module _ (a : ℕ) (r : Road) (rs : List Road) where
  road_from : r.from ≡ a → (r.to ≡ a → ⊥) → arcs_at a (arcs_of (r ∷ rs)) ≡ there r ∷ arcs_at a (arcs_of rs)
  unfolding arcs_of
  road_from p q = at_here a (there r) (back r ∷ arcs_of rs) p ∙ ap (λ xs. there r ∷ xs) (at_else a (back r) (arcs_of rs) q)

  road_to : (r.from ≡ a → ⊥) → r.to ≡ a → arcs_at a (arcs_of (r ∷ rs)) ≡ back r ∷ arcs_at a (arcs_of rs)
  unfolding arcs_of
  road_to p q = at_else a (there r) (back r ∷ arcs_of rs) p ∙ at_here a (back r) (arcs_of rs) q

  road_past : (r.from ≡ a → ⊥) → (r.to ≡ a → ⊥) → arcs_at a (arcs_of (r ∷ rs)) ≡ arcs_at a (arcs_of rs)
  unfolding arcs_of
  road_past p q = at_else a (there r) (back r ∷ arcs_of rs) p ∙ at_else a (back r) (arcs_of rs) q

no_road_lem : (a : ℕ) → arcs_at a (arcs_of []) ≡ []
unfolding arcs_of
no_road_lem a = at_none a

-- ---- the order of roads
after_facts : (b r : Road) → comes_after b r ≡ true → (b.from < r.from) ⊎ ((b.from ≡ r.from) × (b.to < r.to))
after_facts b r h = elim (or_cases (ltb b.from r.from) (eqb b.from r.from && ltb b.to r.to) h) [
  | inl p ↦ inl (ltb-true b.from r.from p)
  | inr p ↦ (let q = and_parts (eqb b.from r.from) (ltb b.to r.to) p in inr (eqb-true b.from r.from q.0, ltb-true b.to r.to q.1))
]

after_by_from : (b r : Road) → b.from < r.from → comes_after b r ≡ true
after_by_from b r h = or_left (ltb b.from r.from) (eqb b.from r.from && ltb b.to r.to) (lt-ltb b.from r.from h)

after_by_to : (b r : Road) → b.from ≡ r.from → b.to < r.to → comes_after b r ≡ true
after_by_to b r e h = or_right (ltb b.from r.from) (eqb b.from r.from && ltb b.to r.to) (and_from (eqb b.from r.from) (ltb b.to r.to) (eq-eqb b.from r.from e) (lt-ltb b.to r.to h))

after_after : (b r s : Road) → comes_after b r ≡ true → comes_after r s ≡ true → comes_after b s ≡ true
after_after b r s p q = elim (after_facts b r p) [
  | inl x ↦ elim (after_facts r s q) [ inl y ↦ after_by_from b s (omega arith) | inr y ↦ after_by_from b s (omega (arith, y.0)) ]
  | inr x ↦ elim (after_facts r s q) [ inl y ↦ after_by_from b s (omega (arith, x.0)) | inr y ↦ after_by_to b s (x.0 ∙ y.0) (omega (arith, x.1, y.1)) ]
]

rises_after : (last : Option Road) (r s : Road) → rises last r ≡ true → comes_after r s ≡ true → rises last s ≡ true
rises_after None r s p q = refl
rises_after (Some b) r s p q = after_after b r s p q

-- ---- the arcs at a place climb
-- an arc of place a in a map of n places
pub record SoundArc (n a : ℕ) (x : Arc) : Type 0 where
  pub inside : x.to < n
  pub apart : x.to ≡ a → ⊥
  pub paid : 0 < x.cost

-- sound arcs of a, the first to m or a higher place, each to a higher place than the one before it
abbrev pub Climbs : ℕ → ℕ → ℕ → List Arc → Type 0
Climbs n a m [] = Unit {0}
Climbs n a m (x ∷ xs) = SoundArc n a x × (m ≤ x.to) × Climbs n a (x.to + 1) xs

-- every road that may come after the last has its other end at m or higher
abbrev Low : ℕ → Option Road → ℕ → Type 0
Low a last m = (s : Road) → s.from < s.to → rises last s ≡ true → (s.from ≡ a → m ≤ s.to) × (s.to ≡ a → m ≤ s.from)

climbs : (n a m : ℕ) (last : Option Road) (rs : List Road) → Low a last m → Each (SoundRoad n) last rs → Climbs n a m (arcs_at a (arcs_of rs))
climbs n a m last [] low e = subst (Climbs n a m) (sym (no_road_lem a)) tt
climbs n a m last (r ∷ rs) low e =
    let v = e.0 in
    let w = low r v.upward v.later in
    elim (cases_eq r.from a) [
      | inl p ↦ subst (Climbs n a m) (sym (road_from a r rs p (λ q. omega (arith, v.upward)))) (
        record { inside = v.there; apart = λ q. omega (arith, v.upward); paid = v.costs },
        w.0 p,
        climbs n a (r.to + 1) (Some r) rs (λ s u h. (λ q. elim (after_facts r s h) [ inl x ↦ absurd (omega arith) | inr x ↦ omega (arith, x.1) ], λ q. elim (after_facts r s h) [ inl x ↦ absurd (omega arith) | inr x ↦ absurd (omega (arith, x.0)) ])) e.1,
      )
      | inr p ↦ elim (cases_eq r.to a) [
        | inl q ↦ subst (Climbs n a m) (sym (road_to a r rs p q)) (
          record { inside = omega (arith, v.there, v.upward); apart = p; paid = v.costs },
          w.1 q,
          climbs n a (r.from + 1) (Some r) rs (λ s u h. (λ t. omega (arith, v.upward), λ t. elim (after_facts r s h) [ inl x ↦ omega arith | inr x ↦ absurd (omega (arith, x.1)) ])) e.1,
        )
        | inr q ↦ subst (Climbs n a m) (sym (road_past a r rs p q)) (climbs n a m (Some r) rs (λ s u h. low s u (rises_after last r s v.later h)) e.1)
      ]
    ]

pub arcs_climb : (n a : ℕ) (rs : List Road) → Each (SoundRoad n) None rs → Climbs n a 0 (arcs_at a (arcs_of rs))
arcs_climb n a rs e = climbs n a 0 None rs (λ s u h. (λ p. omega arith, λ p. omega arith)) e

pub climbs_sound : (n a m : ℕ) (xs : List Arc) (j : ℕ) → Climbs n a m xs → j < length xs → SoundArc n a (get_or xs j no_arc)
climbs_sound n a m [] j c l = absurd (omega arith)
climbs_sound n a m (x ∷ xs) zero c l = c.0
climbs_sound n a m (x ∷ xs) (suc j) c l = climbs_sound n a (x.to + 1) xs j c.2 (omega arith)

pub climbs_next : (n a m : ℕ) (xs : List Arc) (j : ℕ) → Climbs n a m xs → suc j < length xs → (get_or xs j no_arc).to < (get_or xs (suc j) no_arc).to
climbs_next n a m [] j c l = absurd (omega arith)
climbs_next n a m (x ∷ []) j c l = absurd (omega arith)
climbs_next n a m (x ∷ (y ∷ ys)) zero c l = omega (arith, c.2.1)
climbs_next n a m (x ∷ (y ∷ ys)) (suc j) c l = climbs_next n a (x.to + 1) (y ∷ ys) j c.2 (omega arith)

-- ---- the arcs at a place cost what the roads cost
abbrev pub cost_to : List Arc → ℕ → ℕ
cost_to [] e = 0
cost_to (x ∷ xs) e = cond (eqb x.to e) x.cost (cost_to xs e)

first_way : (x y : Bool) → ((true && x) || (y && false)) ≡ x
first_way true y = refl
first_way false true = refl
first_way false false = refl

other_way : (x y : Bool) → ((false && x) || (y && true)) ≡ y
other_way x true = refl
other_way x false = refl

no_way : (x y : Bool) → ((false && x) || (y && false)) ≡ false
no_way x true = refl
no_way x false = refl

-- whether a road joins a and e, by its ends at a
ends : (r : Road) (a e : ℕ) (b c : Bool) → eqb r.from a ≡ b → eqb r.to a ≡ c → joins r a e ≡ ((b && eqb r.to e) || (eqb r.from e && c))
ends r a e b c p q = ap (λ z. (z && eqb r.to e) || (eqb r.from e && eqb r.to a)) p ∙ ap (λ z. (b && eqb r.to e) || (eqb r.from e && z)) q

joins_none : (r : Road) (a e : ℕ) → (r.from ≡ a → ⊥) → (r.to ≡ a → ⊥) → joins r a e ≡ false
joins_none r a e p q = ends r a e false false (ne_eqb r.from a p) (ne_eqb r.to a q) ∙ no_way (eqb r.to e) (eqb r.from e)

cost_arcs : (n a e : ℕ) (last : Option Road) (rs : List Road) → Each (SoundRoad n) last rs → cost_to (arcs_at a (arcs_of rs)) e ≡ cost_in rs a e
unfolding cost_in
cost_arcs n a e last [] h = ap (λ xs. cost_to xs e) (no_road_lem a)
cost_arcs n a e last (r ∷ rs) h =
    let v = h.0 in
    let same = cost_arcs n a e (Some r) rs h.1 in
    elim (cases_eq r.from a) [
      | inl p ↦ (let q : r.to ≡ a → ⊥ = λ q. omega (arith, v.upward) in
          ap (λ xs. cost_to xs e) (road_from a r rs p q) ∙ ap (λ z. cond (eqb r.to e) r.cost z) same
          ∙ ap (λ b. cond b r.cost (cost_in rs a e)) (sym (ends r a e true false (eq-eqb r.from a p) (ne_eqb r.to a q) ∙ first_way (eqb r.to e) (eqb r.from e))))
      | inr p ↦ elim (cases_eq r.to a) [
        | inl q ↦ ap (λ xs. cost_to xs e) (road_to a r rs p q) ∙ ap (λ z. cond (eqb r.from e) r.cost z) same
            ∙ ap (λ b. cond b r.cost (cost_in rs a e)) (sym (ends r a e false true (ne_eqb r.from a p) (eq-eqb r.to a q) ∙ other_way (eqb r.to e) (eqb r.from e)))
        | inr q ↦ ap (λ xs. cost_to xs e) (road_past a r rs p q) ∙ same ∙ ap (λ b. cond b r.cost (cost_in rs a e)) (sym (joins_none r a e p q))
      ]
    ]

pub arcs_cost : (n a e : ℕ) (rs : List Road) → Each (SoundRoad n) None rs → cost_to (arcs_at a (arcs_of rs)) e ≡ cost_in rs a e
arcs_cost n a e rs h = cost_arcs n a e None rs h

either_way : (x y : Bool) → (x || y) ≡ (y || x)
either_way true true = refl
either_way true false = refl
either_way false true = refl
either_way false false = refl

-- roads cost the same both ways
pub cost_both : (rs : List Road) (a e : ℕ) → cost_in rs a e ≡ cost_in rs e a
unfolding cost_in
cost_both [] a e = refl
cost_both (r ∷ rs) a e =
    ap (λ b. cond b r.cost (cost_in rs a e)) (either_way (eqb r.from a && eqb r.to e) (eqb r.from e && eqb r.to a)) ∙ ap (λ z. cond (joins r e a) r.cost z) (cost_both rs a e)

past : (n a e : ℕ) (last : Option Road) (rs : List Road) → Each (SoundRoad n) last rs → n ≤ a → cost_in rs a e ≡ 0
unfolding cost_in
past n a e last [] h l = refl
past n a e last (r ∷ rs) h l =
    let v = h.0 in
    ap (λ b. cond b r.cost (cost_in rs a e)) (joins_none r a e (λ p. omega (arith, v.upward, v.there)) (λ p. omega (arith, v.there))) ∙ past n a e (Some r) rs h.1 l

-- and there is none beyond the places
pub cost_past : (n a e : ℕ) (rs : List Road) → Each (SoundRoad n) None rs → n ≤ a → cost_in rs a e ≡ 0
cost_past n a e rs h l = past n a e None rs h l
