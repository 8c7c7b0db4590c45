-- Dijkstra's argument over what the code holds: distances in a list, and the keys of the places that wait. Assumes nothing.
use Rattle.std.proofs.Common.{◌≡◌, ℕ, ◌+◌, ◌-◌, ◌*◌, ◌<◌, ◌≤◌, Bool, true, false, cond, ◌&&◌, eqb, ltb, leb, ◌⊎◌, List, length, get_or, set, replicate, sym, refl, ap, ◌∙◌, inl, inr, arith, length-set, get_or-set_other, get_or-set_same}
use Rattle.std.proofs.lemmas.List.{get_or-replicate, length-replicate}
use Rattle.std.proofs.lemmas.Bool.{cases_eq, cases_lt, cases_Bool, eq-eqb, ne_eqb, and_from, and_left, and_right, lt-ltb, le-ltb, le-leb, lt-leb, both_ways}
use Rattle.ways.specs.Map.{Map, Never, At}
use Rattle.ways.specs.Ways.{Distances, count_below}
use Rattle.ways.proofs.Counting.{count_most, count_none, count_more}
use Rattle.ways.proofs.Settling.{read_at, Going, going_start, going_more, going_end}
use Rattle.ways.proofs.Certificate.{far_is}
use Rattle.maps.specs.Arcs.{map_in, Arcs}
use Rattle.maps.proofs.Costs.{starts_most, arc_cost, road_arc, meaning}
use Rattle.distances.specs.Keys.{empty, key_of, leaf, Idle, Moved}
use Rattle.distances.specs.Rows.{far_number, FarRow}
use Rattle.distances.specs.Orders.{Reached, Sorted}
use Rattle.distances.specs.Steps.{Followed}
use Rattle.distances.proofs.Ordering.{Ordering, ordering_start, ordering_more, ordering_end}

-- the number of no distance
abbrev pub none : ℕ
none = 4294967295

-- a place is settled if it was reached and doesn't wait any more
abbrev pub settled : ℕ → List ℕ → List ℕ → ℕ → Bool
settled n dist keys a = ltb a n && (ltb (get_or dist a 0) none && leb empty (leaf n keys a))

settled_from : (n : ℕ) (dist keys : List ℕ) (a : ℕ) → a < n → get_or dist a 0 < none → empty ≤ leaf n keys a → settled n dist keys a ≡ true
settled_from n dist keys a l p q = and_from (ltb a n) _ (lt-ltb a n l) (and_from (ltb (get_or dist a 0) none) _ (lt-ltb (get_or dist a 0) none p) (le-leb empty (leaf n keys a) q))

waits_open : (n : ℕ) (dist keys : List ℕ) (a : ℕ) → leaf n keys a < empty → settled n dist keys a ≡ false
waits_open n dist keys a h = and_right (ltb a n) _ (and_right (ltb (get_or dist a 0) none) _ (lt-leb empty (leaf n keys a) h))

past_open : (n : ℕ) (dist keys : List ℕ) (a : ℕ) → n ≤ a → settled n dist keys a ≡ false
past_open n dist keys a h = and_left (ltb a n) _ (le-ltb a n h)

far_open : (n : ℕ) (dist keys : List ℕ) (a : ℕ) → none ≤ get_or dist a 0 → settled n dist keys a ≡ false
far_open n dist keys a h = and_right (ltb a n) _ (and_left (ltb (get_or dist a 0) none) _ (le-ltb (get_or dist a 0) none h))

-- what is not settled waits, or was not reached
open_cases : (n : ℕ) (dist keys : List ℕ) (a : ℕ) → a < n → settled n dist keys a ≡ false → (leaf n keys a < empty) ⊎ (none ≤ get_or dist a 0)
open_cases n dist keys a l h = elim (cases_lt (leaf n keys a) empty) [
  | inl p ↦ inl p
  | inr p ↦ elim (cases_lt (get_or dist a 0) none) [ inl q ↦ absurd (both_ways (settled n dist keys a) h (settled_from n dist keys a l q p)) | inr q ↦ inr q ]
]

pub record Searching (z : Map) (n d : ℕ) (dist keys : List ℕ) : Type 0 where
  -- Dijkstra's invariant; no distance is above 65535 for each settled place
  pub going : Going z none d (λ a. get_or dist a 0) (settled n dist keys) (65535 * count_below n (settled n dist keys))
  pub dists : length dist ≡ n
  -- who waits was reached, and waits at its distance
  pub waits : (a : ℕ) → a < n → leaf n keys a < empty → (leaf n keys a ≡ key_of (get_or dist a 0) a) × (get_or dist a 0 < none)
  -- no distance is above that of no way
  pub fits : (a : ℕ) → a < n → get_or dist a 0 ≤ none

-- ---- the start
module _ (z : Map) (n d : ℕ) (zn : z.n ≡ n) (few : n ≤ 512) (dn : d < n) (blank keys : List ℕ) (m : Moved n blank keys d (key_of 0 d)) (b : Idle n blank) where
  abbrev first : List ℕ
  first = set (replicate n none) d 0

  first_here : get_or first d 0 ≡ 0
  first_here = get_or-set_same (replicate n none) d 0 0 (omega (arith, length-replicate n none))

  first_else : (a : ℕ) → a < n → (a ≡ d → ⊥) → get_or first a 0 ≡ none
  first_else a l ne = get_or-set_other (replicate n none) d a 0 0 ne ∙ get_or-replicate n a none 0 l

  none_settled : (a : ℕ) → a < n → settled n first keys a ≡ false
  none_settled a l = elim (cases_eq a d) [
    | inl e ↦ waits_open n first keys a (omega (arith, ap (leaf n keys) e, m.here))
    | inr e ↦ far_open n first keys a (omega (arith, first_else a l e))
  ]

  pub searching_start : Searching z n d first keys
  searching_start = record {
    going = rw (count_none n (settled n first keys) none_settled) (going_start z none d (λ a. get_or first a 0) (settled n first keys) first_here
        (λ a l ne. first_else a (omega arith) ne) (λ a l. none_settled a (omega arith)));
    dists = length-set (replicate n none) d 0 ∙ length-replicate n none;
    waits = λ a l h. elim (cases_eq a d) [
      | inl e ↦ (let x : get_or first a 0 ≡ 0 = ap (λ k. get_or first k 0) e ∙ first_here in
          (ap (leaf n keys) e ∙ m.here ∙ ap (λ k. key_of 0 k) (sym e) ∙ ap (λ k. key_of k a) (sym x), omega (arith, x)))
      | inr e ↦ absurd (omega (arith, h, m.others a l e, b a l))
    ];
    fits = λ a l. elim (cases_eq a d) [ inl e ↦ omega (arith, ap (λ k. get_or first k 0) e, first_here) | inr e ↦ omega (arith, first_else a l e) ];
  }

  pub order_start : (seq : ℕ → ℕ) → Ordering n (λ a. get_or first a 0) (settled n first keys) seq 0
  order_start seq = ordering_start n (λ a. get_or first a 0) (settled n first keys) seq none_settled

-- ---- one place more is settled: u, taken out of the queue, and its arcs followed
module _ (n : ℕ) (starts places costs : List ℕ) (A : Arcs n starts places costs) (d : ℕ) (dn : d < n) (dist keys : List ℕ) (o : Searching (map_in n starts places costs) n d dist keys)
    (u : ℕ) (un : u < n) (wu : leaf n keys u < empty) (least : (a : ℕ) → a < n → leaf n keys u ≤ leaf n keys a) where
  abbrev z : Map
  z = map_in n starts places costs

  u_open : settled n dist keys u ≡ false
  u_open = waits_open n dist keys u wu

  u_reached : get_or dist u 0 < none
  u_reached = (o.waits u un wu).1

  -- no place that isn't settled is closer
  lowest : (a : ℕ) → a < n → settled n dist keys a ≡ false → get_or dist u 0 ≤ get_or dist a 0
  lowest a l h = elim (open_cases n dist keys a l h) [
    | inl p ↦ (let few = A.few in omega (arith, least a l, (o.waits u un wu).0, (o.waits a l p).0))
    | inr p ↦ omega (arith, p, u_reached)
  ]

  pub fewer : count_below n (settled n dist keys) + 1 ≤ n
  fewer =
      let t : ℕ → Bool = λ a. cond (eqb a u) true (settled n dist keys a) in
      omega (arith, count_most n t, count_more n u (settled n dist keys) t un u_open (ap (λ b. cond b true (settled n dist keys u)) (eq-eqb u u refl)) (λ a l ne. ap (λ b. cond b true (settled n dist keys a)) (ne_eqb a u ne)))

  -- there is room in 32 bits for one road more
  pub searching_room : get_or dist u 0 + 65535 < none
  searching_room = let few = A.few in omega (arith, o.going.bound u un u_reached, fewer)

  module _ (keys₁ : List ℕ) (m : Moved n keys keys₁ u empty) (ps cs after keys₂ : List ℕ)
      (lp : length ps ≡ get_or starts (u + 1) 0 - get_or starts u 0)
      (pk : (k : ℕ) → get_or starts u 0 + k < get_or starts (u + 1) 0 → get_or ps k 0 ≡ get_or places (get_or starts u 0 + k) 0)
      (ck : (k : ℕ) → get_or starts u 0 + k < get_or starts (u + 1) 0 → get_or cs k 0 ≡ get_or costs (get_or starts u 0 + k) 0)
      (fo : Followed n ps cs (get_or dist u 0) (length ps) dist after keys₁ keys₂) (la : length after ≡ length dist) where
    -- a place that nears does so by an arc of u, so by a road to u
    arc_road : (a k : ℕ) → a < n → k < length ps → get_or ps k 0 ≡ a → (0 < z.cost a u) × (z.cost a u ≡ get_or cs k 0)
    arc_road a k l b e =
        let c : get_or starts u 0 + k < get_or starts (u + 1) 0 = omega (arith, b, lp) in
        let x : get_or places (get_or starts u 0 + k) 0 ≡ a = sym (pk k c) ∙ e in
        let y : z.cost a u ≡ get_or costs (get_or starts u 0 + k) 0 = A.both a u l un ∙ sym (ap (λ q. z.cost u q) x) ∙ arc_cost n starts places costs A u (get_or starts u 0 + k) un (omega arith) c in
        (omega (arith, y, A.paid (get_or starts u 0 + k) (omega (arith, c, starts_most n starts places costs A (u + 1) (omega arith)))), y ∙ sym (ck k c))

    ways : (a : ℕ) → a < n → (get_or after a 0 ≡ get_or dist a 0) ⊎ ((0 < z.cost a u) × (get_or after a 0 ≡ z.cost a u + get_or dist u 0) × (get_or after a 0 < get_or dist a 0))
    ways a l = elim (fo.way a l) [
      | inl p ↦ inl p.0
      | inr p ↦ (let r = arc_road a p.0 l p.1 p.2 in inr (r.0, omega (arith, r.1, p.3), p.4))
    ]

    roads : (a : ℕ) → a < n → 0 < z.cost a u → get_or after a 0 ≤ z.cost a u + get_or dist u 0
    roads a l c =
        let b = A.both a u l un in
        let r = road_arc n starts places costs A u a un l (omega (arith, b, c)) in
        let k : ℕ = r.0 - get_or starts u 0 in
        let e : get_or starts u 0 + k ≡ r.0 = omega (arith, r.1) in
        let i : get_or starts u 0 + k < get_or starts (u + 1) 0 = omega (arith, e, r.2) in
        let x : get_or ps k 0 ≡ a = pk k i ∙ ap (λ q. get_or places q 0) e ∙ r.3 in
        omega (arith, fo.road k (omega (arith, i, lp)), ap (λ q. get_or after q 0) x, ck k i, ap (λ q. get_or costs q 0) e, r.4, b)

    -- u is settled now
    u_stays : (get_or after u 0 ≡ get_or dist u 0) × (leaf n keys₂ u ≡ empty)
    u_stays = elim (fo.way u un) [
      | inl p ↦ (p.0, p.1 ∙ m.here)
      | inr p ↦ absurd (omega (arith, p.3, p.4))
    ]

    u_settled : settled n after keys₂ u ≡ true
    u_settled = settled_from n after keys₂ u un (omega (arith, u_stays.0, u_reached)) (omega (arith, u_stays.1))

    -- a place that nears was not settled, and waits
    nears_open : (a : ℕ) → a < n → (c : ℕ) → get_or after a 0 ≡ c + get_or dist u 0 → get_or after a 0 < get_or dist a 0 → settled n dist keys a ≡ false
    nears_open a l c p q = elim (cases_Bool (settled n dist keys a)) [
      | inl s ↦ absurd (omega (arith, o.going.order u a un l s u_open, p, q))
      | inr s ↦ s
    ]

    key_small : (a x : ℕ) → a < n → x < none → key_of x a < empty
    key_small a x l h = let few = A.few in omega arith

    near_small : (a k : ℕ) → a < n → k < length ps → get_or ps k 0 ≡ a → get_or after a 0 ≡ get_or cs k 0 + get_or dist u 0 → get_or after a 0 < none
    near_small a k l b e p = let r = arc_road a k l b e in omega (arith, p, r.1, (meaning n starts places costs A).cheap a u, searching_room)

    -- the others are settled as before
    others_same : (a : ℕ) → a < n → (a ≡ u → ⊥) → settled n after keys₂ a ≡ settled n dist keys a
    others_same a l ne = elim (fo.way a l) [
      | inl p ↦ ap (λ x. ltb a n && (ltb x none && leb empty (leaf n keys₂ a))) p.0 ∙ ap (λ x. ltb a n && (ltb (get_or dist a 0) none && leb empty x)) (p.1 ∙ m.others a l ne)
      | inr p ↦ waits_open n after keys₂ a (omega (arith, p.5, key_small a (get_or after a 0) l (near_small a p.0 l p.1 p.2 p.3))) ∙ sym (nears_open a l (get_or cs p.0 0) p.3 p.4)
    ]

    all_same : (a : ℕ) → (a ≡ u → ⊥) → settled n after keys₂ a ≡ settled n dist keys a
    all_same a ne = elim (cases_lt a n) [ inl l ↦ others_same a l ne | inr l ↦ past_open n after keys₂ a l ∙ sym (past_open n dist keys a l) ]

    more : 65535 * count_below n (settled n dist keys) + 65535 ≡ 65535 * count_below n (settled n after keys₂)
    more = omega (arith, count_more n u (settled n dist keys) (settled n after keys₂) un u_open u_settled (λ a l ne. all_same a ne))

    pub settled_more : count_below n (settled n after keys₂) ≡ count_below n (settled n dist keys) + 1
    settled_more = count_more n u (settled n dist keys) (settled n after keys₂) un u_open u_settled (λ a l ne. all_same a ne)

    -- what was settled keeps its distance
    settled_stays : (a : ℕ) → a < n → settled n dist keys a ≡ true → get_or after a 0 ≡ get_or dist a 0
    settled_stays a l h = elim (fo.way a l) [
      | inl p ↦ p.0
      | inr p ↦ absurd (both_ways (settled n dist keys a) (nears_open a l (get_or cs p.0 0) p.3 p.4) h)
    ]

    pub order_more : (seq next : ℕ → ℕ) (count : ℕ) → Ordering n (λ a. get_or dist a 0) (settled n dist keys) seq count → next count ≡ u → ((j : ℕ) → j < count → next j ≡ seq j)
        → Ordering n (λ a. get_or after a 0) (settled n after keys₂) next (count + 1)
    order_more seq next count ordered = ordering_more n (λ a. get_or dist a 0) (λ a. get_or after a 0) (settled n dist keys) (settled n after keys₂) seq next count u ordered un u_open u_settled all_same
        settled_stays u_stays.0 (λ a l h. o.going.order u a un l h u_open)

    still_waits : (a : ℕ) → a < n → leaf n keys₂ a < empty → (leaf n keys₂ a ≡ key_of (get_or after a 0) a) × (get_or after a 0 < none)
    still_waits a l h = elim (cases_eq a u) [
      | inl e ↦ absurd (omega (arith, h, ap (leaf n keys₂) e, u_stays.1))
      | inr e ↦ elim (fo.way a l) [
        | inl p ↦ (let y = p.1 ∙ m.others a l e in let w = o.waits a l (omega (arith, y, h)) in
            (y ∙ w.0 ∙ ap (λ x. key_of x a) (sym p.0), omega (arith, p.0, w.1)))
        | inr p ↦ (p.5, near_small a p.0 l p.1 p.2 p.3)
      ]
    ]

    pub searching_more : Searching (map_in n starts places costs) n d after keys₂
    searching_more = record {
      going = rw more at (going_more z none d u (65535 * count_below n (settled n dist keys)) 65535 (λ a. get_or dist a 0) (λ a. get_or after a 0) (settled n dist keys) (settled n after keys₂) o.going
          dn un u_open u_reached lowest roads ways (λ a l. (meaning n starts places costs A).cheap a u) u_settled all_same);
      dists = la ∙ o.dists;
      waits = still_waits;
      fits = λ a l. elim (fo.way a l) [ inl p ↦ omega (arith, p.0, o.fits a l) | inr p ↦ omega (arith, p.4, o.fits a l) ];
    }

-- ---- the end: nobody waits
module _ (n : ℕ) (starts places costs : List ℕ) (A : Arcs n starts places costs) (d : ℕ) (dn : d < n) (dist keys : List ℕ) (o : Searching (map_in n starts places costs) n d dist keys)
    (nobody : (a : ℕ) → a < n → empty ≤ leaf n keys a) where
  found : Distances (map_in n starts places costs) d (λ a. read_at none (get_or dist a 0))
  found = let few = A.few in
      going_end (map_in n starts places costs) none d (65535 * count_below n (settled n dist keys)) 65535 (λ a. get_or dist a 0) (settled n dist keys) o.going
      (λ a l h. elim (open_cases n dist keys a l h) [ inl p ↦ absurd (omega (arith, p, nobody a l)) | inr p ↦ p ])
      (λ a e l m. (meaning n starts places costs A).cheap a e) (omega arith) (omega (arith, count_most n (settled n dist keys)))

  number_back : (x : ℕ) → x ≤ none → x ≡ far_number (read_at none x)
  number_back x h = elim (cases_lt x none) [
    | inl p ↦ ap (λ b. far_number (cond b (At x) Never)) (sym (lt-ltb x none p))
    | inr p ↦ (let e : x ≡ none = omega arith in e ∙ ap (λ b. far_number (cond b (At x) Never)) (sym (le-ltb x none p)))
  ]

  -- where every place was reached, all are settled
  pub order_end : (seq : ℕ → ℕ) (count : ℕ) → Ordering n (λ a. get_or dist a 0) (settled n dist keys) seq count → Reached n (λ a. get_or dist a 0) → Sorted n (λ a. get_or dist a 0) seq
  order_end seq count ordered reached =
      ordering_end n (λ a. get_or dist a 0) (settled n dist keys) seq count ordered (λ a l. settled_from n dist keys a l (reached a l) (nobody a l))

  pub searching_end : FarRow (map_in n starts places costs) d dist
  searching_end a l = number_back (get_or dist a 0) (o.fits a l) ∙ ap far_number (sym (far_is (map_in n starts places costs) d (λ a. read_at none (get_or dist a 0)) found a l))
