-- The costs that the arrays of a map stand for, arc by arc. Assumes nothing.
use Rattle.std.proofs.Common.{◌≡◌, ℕ, zero, suc, ◌+◌, ◌-◌, ◌<◌, ◌≤◌, cond, ltb, List, length, get_or, sym, refl, ap, ◌∙◌, inl, inr, arith}
use Rattle.std.proofs.lemmas.Bool.{cases_eq, cases_lt, and_from, and_left, and_right, eq-eqb, ne_eqb, lt-ltb, le-ltb}
use Rattle.maps.specs.Arcs.{lookup, map_in, Arcs, Meaning}

-- ---- `lookup`
pub lookup_some : (places costs : List ℕ) (e m k : ℕ) → 0 < lookup places costs e k m → (j : ℕ) × (k ≤ j) × (j < k + m) × (get_or places j 0 ≡ e) × (lookup places costs e k m ≡ get_or costs j 0)
unfolding lookup
lookup_some places costs e zero k h = absurd (omega arith)
lookup_some places costs e (suc m) k h = elim (cases_eq (get_or places k 0) e) [
  | inl p ↦ (k, omega arith, omega arith, p, ap (λ b. cond b (get_or costs k 0) (lookup places costs e (k + 1) m)) (eq-eqb (get_or places k 0) e p))
  | inr p ↦ (let x : lookup places costs e k (suc m) ≡ lookup places costs e (k + 1) m = ap (λ b. cond b (get_or costs k 0) (lookup places costs e (k + 1) m)) (ne_eqb (get_or places k 0) e p) in
      let r = lookup_some places costs e m (k + 1) (omega (arith, x, h)) in
      (r.0, omega (arith, r.1), omega (arith, r.2), r.3, x ∙ r.4))
]

pub lookup_is : (places costs : List ℕ) (e j m k : ℕ) → k ≤ j → j < k + m → get_or places j 0 ≡ e → ((i : ℕ) → k ≤ i → i < j → get_or places i 0 ≡ e → ⊥) → lookup places costs e k m ≡ get_or costs j 0
unfolding lookup
lookup_is places costs e j zero k l h p ne = absurd (omega arith)
lookup_is places costs e j (suc m) k l h p ne = elim (cases_eq k j) [
  | inl q ↦ ap (λ b. cond b (get_or costs k 0) (lookup places costs e (k + 1) m)) (eq-eqb (get_or places k 0) e (ap (λ i. get_or places i 0) q ∙ p)) ∙ ap (λ i. get_or costs i 0) q
  | inr q ↦ ap (λ b. cond b (get_or costs k 0) (lookup places costs e (k + 1) m)) (ne_eqb (get_or places k 0) e (ne k (omega arith) (omega arith))) ∙ lookup_is places costs e j m (k + 1) (omega arith) (omega arith) p (λ i a b. ne i (omega arith) b)
]

module _ (n : ℕ) (starts places costs : List ℕ) (A : Arcs n starts places costs) where
  rest_most : (m a : ℕ) → a + m ≡ n → get_or starts a 0 ≤ length places
  rest_most zero a e = let s : a ≡ n = omega arith in omega (arith, ap (λ x. get_or starts x 0) s, A.ends)
  rest_most (suc m) a e = omega (arith, A.rises a (omega arith), rest_most m (a + 1) (omega arith))

  -- the arcs of every place lie within the arrays
  pub starts_most : (a : ℕ) → a ≤ n → get_or starts a 0 ≤ length places
  starts_most a l = rest_most (n - a) a (omega arith)

  -- among the arcs of one place a later one leads to a higher place
  rest_rise : (m a j : ℕ) → a < n → get_or starts a 0 ≤ j → j + suc m < get_or starts (a + 1) 0 → get_or places j 0 < get_or places (j + suc m) 0
  rest_rise zero a j l p q = let s : j + 1 ≡ j + suc zero = omega arith in omega (arith, A.next a j l p (omega arith), ap (λ x. get_or places x 0) s)
  rest_rise (suc m) a j l p q = let s : (j + suc m) + 1 ≡ j + suc (suc m) = omega arith in omega (arith, rest_rise m a j l p (omega arith), A.next a (j + suc m) l (omega arith) (omega arith), ap (λ x. get_or places x 0) s)

  pub arcs_rise : (a j k : ℕ) → a < n → get_or starts a 0 ≤ j → j < k → k < get_or starts (a + 1) 0 → get_or places j 0 < get_or places k 0
  arcs_rise a j k l p q r = let s : j + suc (k - (j + 1)) ≡ k = omega arith in omega (arith, rest_rise (k - (j + 1)) a j l p (omega arith), ap (λ x. get_or places x 0) s)

  cost_lookup : (a e : ℕ) → a < n → e < n → (map_in n starts places costs).cost a e ≡ lookup places costs e (get_or starts a 0) (get_or starts (a + 1) 0 - get_or starts a 0)
  cost_lookup a e l m = ap (λ b. cond b (lookup places costs e (get_or starts a 0) (get_or starts (a + 1) 0 - get_or starts a 0)) 0) (and_from (ltb a n) (ltb e n) (lt-ltb a n l) (lt-ltb e n m))

  -- an arc is a road of its cost
  pub arc_cost : (a j : ℕ) → a < n → get_or starts a 0 ≤ j → j < get_or starts (a + 1) 0 → (map_in n starts places costs).cost a (get_or places j 0) ≡ get_or costs j 0
  arc_cost a j l p q =
      cost_lookup a (get_or places j 0) l (A.inside j (omega (arith, starts_most (a + 1) (omega arith))))
      ∙ lookup_is places costs (get_or places j 0) j (get_or starts (a + 1) 0 - get_or starts a 0) (get_or starts a 0) p (omega arith) refl (λ i x y e. omega (arith, arcs_rise a i j l x y q, e))

  -- and each road is an arc
  pub road_arc : (a e : ℕ) → a < n → e < n → 0 < (map_in n starts places costs).cost a e → (j : ℕ) × (get_or starts a 0 ≤ j) × (j < get_or starts (a + 1) 0) × (get_or places j 0 ≡ e) × ((map_in n starts places costs).cost a e ≡ get_or costs j 0)
  road_arc a e l m h =
      let x = cost_lookup a e l m in
      let r = lookup_some places costs e (get_or starts (a + 1) 0 - get_or starts a 0) (get_or starts a 0) (omega (arith, x, h)) in
      (r.0, r.1, omega (arith, r.2, A.rises a l), r.3, x ∙ r.4)

  pub past_row : (a e : ℕ) → n ≤ a → (map_in n starts places costs).cost a e ≡ 0
  past_row a e h = ap (λ b. cond b (lookup places costs e (get_or starts a 0) (get_or starts (a + 1) 0 - get_or starts a 0)) 0) (and_left (ltb a n) (ltb e n) (le-ltb a n h))

  pub past_column : (a e : ℕ) → n ≤ e → (map_in n starts places costs).cost a e ≡ 0
  past_column a e h = ap (λ b. cond b (lookup places costs e (get_or starts a 0) (get_or starts (a + 1) 0 - get_or starts a 0)) 0) (and_right (ltb a n) (ltb e n) (le-ltb e n h))

  both_all : (a e : ℕ) → (map_in n starts places costs).cost a e ≡ (map_in n starts places costs).cost e a
  both_all a e = elim (cases_lt a n) [
    | inl l ↦ elim (cases_lt e n) [ inl m ↦ A.both a e l m | inr m ↦ past_column a e m ∙ sym (past_row e a m) ]
    | inr l ↦ past_row a e l ∙ sym (past_column e a l)
  ]

  none_itself : (a : ℕ) → (map_in n starts places costs).cost a a ≡ 0
  none_itself a = elim (cases_lt a n) [
    | inl l ↦ elim (cases_lt 0 ((map_in n starts places costs).cost a a)) [ inl p ↦ (let r = road_arc a a l l p in absurd (A.apart a r.0 l r.1 r.2 r.3)) | inr p ↦ omega arith ]
    | inr l ↦ past_row a a l
  ]

  all_cheap : (a e : ℕ) → (map_in n starts places costs).cost a e ≤ 65535
  all_cheap a e = elim (cases_lt 0 ((map_in n starts places costs).cost a e)) [
    | inl p ↦ elim (cases_lt a n) [
      | inl l ↦ elim (cases_lt e n) [
        | inl m ↦ (let r = road_arc a e l m p in omega (arith, r.4, A.cheap r.0 (omega (arith, r.2, starts_most (a + 1) (omega arith)))))
        | inr m ↦ omega (arith, past_column a e m)
      ]
      | inr l ↦ omega (arith, past_row a e l)
    ]
    | inr p ↦ omega arith
  ]

  -- what every map in memory means
  pub meaning : Meaning (map_in n starts places costs)
  meaning = record { both = both_all; outside = past_row; itself = none_itself; cheap = all_cheap }
