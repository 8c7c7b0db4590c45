-- A table of distances that bears itself out has the least costs of ways, and is `far`. Assumes nothing.
use Rattle.std.proofs.Common.{◌≡◌, ℕ, zero, suc, ◌+◌, ◌<◌, ◌≤◌, Bool, true, false, cond, eqb, ltb, sym, refl, ap, ◌∙◌, subst, inl, inr, arith}
use Rattle.std.proofs.lemmas.Bool.{cases_Bool, cases_eq, eqb-true, eq-eqb}
use Rattle.ways.specs.Map.{Map, Far, Never, At, lowest, home, within, far}
use Rattle.ways.specs.Ways.{Route, arrived, road, AtMost, Distances}
use Rattle.ways.proofs.Fars.{at_same, never_at, lower_some, lower_left, lower_right, plus_some, plus_at, lowest_some, lowest_most}

-- ---- how many places below m are closer than k
abbrev pub below : Far → ℕ → Bool
below Never k = false
below (At j) k = ltb j k

unfoldable pub rank : (ℕ → Far) → ℕ → ℕ → ℕ
rank f zero k = 0
rank f (suc m) k = cond (below (f m) k) 1 0 + rank f m k

one_most : (b : Bool) → cond b 1 0 ≤ 1
one_most true = omega arith
one_most false = omega arith

rank_most : (f : ℕ → Far) (m k : ℕ) → rank f m k ≤ m
unfolding rank
rank_most f zero k = omega arith
rank_most f (suc m) k = omega (arith, rank_most f m k, one_most (below (f m) k))

one_rises : (x : Far) (j k : ℕ) → j ≤ k → cond (below x j) 1 0 ≤ cond (below x k) 1 0
one_rises Never j k h = omega arith
one_rises (At i) j k h = grind arith

rank_rises : (f : ℕ → Far) (m j k : ℕ) → j ≤ k → rank f m j ≤ rank f m k
unfolding rank
rank_rises f zero j k h = omega arith
rank_rises f (suc m) j k h = omega (arith, rank_rises f m j k h, one_rises (f m) j k h)

one_more : (x : Far) (j k : ℕ) → j < k → x ≡ At j → cond (below x j) 1 0 < cond (below x k) 1 0
one_more Never j k h e = absurd (never_at j e)
one_more (At i) j k h e = grind (arith, at_same i j e)

one_none : (x : Far) (k : ℕ) → x ≡ At k → cond (below x k) 1 0 ≤ 0
one_none Never k e = absurd (never_at k e)
one_none (At i) k e = grind (arith, at_same i k e)

rank_more : (f : ℕ → Far) (m j k e : ℕ) → e < m → f e ≡ At j → j < k → rank f m j < rank f m k
unfolding rank
rank_more f zero j k e h p l = absurd (omega arith)
rank_more f (suc m) j k e h p l = elim (cases_eq e m) [
  | inl t ↦ omega (arith, rank_rises f m j k (omega arith), one_more (f m) j k l (rw t at p))
  | inr t ↦ omega (arith, rank_more f m j k e (omega arith) p l, one_rises (f m) j k (omega arith))
]

-- a place that is reached is not closer than itself
pub rank_short : (f : ℕ → Far) (m k a : ℕ) → a < m → f a ≡ At k → rank f m k < m
unfolding rank
rank_short f zero k a h e = absurd (omega arith)
rank_short f (suc m) k a h e = elim (cases_eq a m) [
  | inl t ↦ omega (arith, rank_most f m k, one_none (f m) k (sym (ap f t) ∙ e))
  | inr t ↦ omega (arith, rank_short f m k a (omega arith) e, one_most (below (f m) k))
]

-- ---- where a way starts
pub route_from : (z : Map) (d a c k : ℕ) → Route z d a c k → a < z.n
route_from z d a c k (arrived dn) = dn
route_from z d a c k (road _ e q m an pos r) = an

-- ---- home
home_some : (d a c : ℕ) → home d a ≡ At c → (a ≡ d) × (c ≡ 0)
home_some d a c h = elim (cases_Bool (eqb a d)) [
  | inl t ↦ (eqb-true a d t, at_same c 0 (sym h ∙ ap (λ q. cond q (At 0) Never) t))
  | inr t ↦ absurd (never_at c (sym (ap (λ q. cond q (At 0) Never) t) ∙ h))
]

home_here : (d a : ℕ) → a ≡ d → home d a ≡ At 0
home_here d a e = ap (λ q. cond q (At 0) Never) (eq-eqb a d e)

module _ (z : Map) (d : ℕ) (f : ℕ → Far) (s : Distances z d f) where
  route_here : (a k : ℕ) → d < z.n → a ≡ d → f a ≡ At k → Route z d a k 0
  route_here a k dn t e =
      subst (λ x. Route z d x k 0) (sym t) (subst (λ x. Route z d d x 0) (at_same 0 k (sym s.here ∙ sym (ap f t) ∙ e)) (arrived dn))

  -- no way costs less
  pub route_most : (a c k : ℕ) → Route z d a c k → AtMost (f a) c
  route_most a c k (arrived dn) = (0, s.here, omega arith)
  route_most a c k (road _ e q m an pos r) =
      let i = route_most e q m r in
      let t = s.less a e i.0 an (route_from z d e q m r) pos i.1 in
      (t.0, t.1, omega (arith, i.2, t.2))

  -- there is one of that cost, and it has no more roads than there are closer places
  pub route_some : (b a k : ℕ) → d < z.n → a < z.n → f a ≡ At k → rank f z.n k ≤ b → (m : ℕ) × (m ≤ b) × Route z d a k m
  route_some zero a k dn l e h = elim (cases_eq a d) [
    | inl t ↦ (0, omega arith, route_here a k dn t e)
    | inr t ↦ (let r = s.step a k l t e in absurd (omega (arith, rank_more f z.n r.1 k r.0 r.2 r.4 (omega (arith, r.3, r.5)))))
  ]
  route_some (suc b) a k dn l e h = elim (cases_eq a d) [
    | inl t ↦ (0, omega arith, route_here a k dn t e)
    | inr t ↦ (let r = s.step a k l t e in
        let i = route_some b r.0 r.1 dn r.2 r.4 (omega (arith, rank_more f z.n r.1 k r.0 r.2 r.4 (omega (arith, r.3, r.5)))) in
        (1 + i.0, omega (arith, i.1), subst (λ x. Route z d a x (1 + i.0)) (sym r.5) (road a r.0 r.1 i.0 l r.3 i.2)))
  ]

  -- `within` is never lower, and in rank steps it is there
  within_above : (m a c : ℕ) → a < z.n → within m z d a ≡ At c → AtMost (f a) c
  unfolding within
  within_above zero a c l h = let r = home_some d a c h in (0, ap f r.0 ∙ s.here, omega arith)
  within_above (suc m) a c l h = elim (lower_some (home d a) (lowest z (λ e. within m z d e) a z.n) c h) [
    | inl t ↦ (let r = home_some d a c t in (0, ap f r.0 ∙ s.here, omega arith))
    | inr t ↦ (let r = lowest_some z (λ e. within m z d e) a z.n c t in
        let p = plus_some (z.cost a r.0) (within m z d r.0) c r.2 in
        let q = within_above m r.0 p.0 r.1 p.2 in
        let u = s.less a r.0 q.0 l r.1 p.1 q.1 in
        (u.0, u.1, omega (arith, u.2, q.2, p.3)))
  ]

  within_reaches : (m a k : ℕ) → a < z.n → f a ≡ At k → rank f z.n k ≤ m → AtMost (within m z d a) k
  unfolding within
  within_reaches zero a k l e h = elim (cases_eq a d) [
    | inl t ↦ (0, home_here d a t, omega arith)
    | inr t ↦ (let r = s.step a k l t e in absurd (omega (arith, rank_more f z.n r.1 k r.0 r.2 r.4 (omega (arith, r.3, r.5)))))
  ]
  within_reaches (suc m) a k l e h = elim (cases_eq a d) [
    | inl t ↦ lower_left (home d a) (lowest z (λ e. within m z d e) a z.n) k (0, home_here d a t, omega arith)
    | inr t ↦ (let r = s.step a k l t e in
        let q = within_reaches m r.0 r.1 r.2 r.4 (omega (arith, rank_more f z.n r.1 k r.0 r.2 r.4 (omega (arith, r.3, r.5)))) in
        lower_right (home d a) (lowest z (λ e. within m z d e) a z.n) k
        (lowest_most z (λ e. within m z d e) a z.n r.0 k r.2
        (z.cost a r.0 + q.0, plus_at (z.cost a r.0) (within m z d r.0) q.0 r.3 q.1, omega (arith, q.2, r.5))))
  ]

  within_at : (m : ℕ) (x y : Far) (a : ℕ) → z.n ≤ m + 1 → a < z.n → within m z d a ≡ x → f a ≡ y → x ≡ y
  within_at m Never Never a b l p q = refl
  within_at m Never (At k) a b l p q = let r = within_reaches m a k l q (omega (arith, rank_short f z.n k a l q)) in absurd (never_at r.0 (sym p ∙ r.1))
  within_at m (At j) Never a b l p q = let r = within_above m a j l p in absurd (never_at r.0 (sym q ∙ r.1))
  within_at m (At j) (At k) a b l p q =
      let r = within_reaches m a k l q (omega (arith, rank_short f z.n k a l q)) in
      let t = within_above m a j l p in
      let u : r.0 ≡ j = at_same r.0 j (sym r.1 ∙ p) in
      let v : t.0 ≡ k = at_same t.0 k (sym t.1 ∙ q) in
      ap At (omega (arith, u, v, r.2, t.2))

  -- n - 1 roads are enough to find every distance
  pub within_is : (m a : ℕ) → z.n ≤ m + 1 → a < z.n → within m z d a ≡ f a
  within_is m a b l = within_at m (within m z d a) (f a) a b l refl refl

  pub far_is : (a : ℕ) → a < z.n → far z d a ≡ f a
  far_is a l = within_is z.n a (omega arith) l
