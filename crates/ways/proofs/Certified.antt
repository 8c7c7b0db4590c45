-- `far` bears itself out, on every map: settle one place after the other, on paper. Assumes nothing.
use Rattle.std.proofs.Common.{◌≡◌, ℕ, zero, suc, ◌+◌, ◌<◌, ◌≤◌, Bool, true, false, cond, ◌&&◌, eqb, ltb, ◌⊎◌, sym, refl, ap, ◌∙◌, inl, inr, arith}
use Rattle.std.proofs.lemmas.Bool.{cases_Bool, cases_eq, cases_lt, eq-eqb, ne_eqb, both_ways}
use Rattle.ways.specs.Map.{Map, Far, far}
use Rattle.ways.specs.Ways.{Distances}
use Rattle.ways.proofs.Certificate.{far_is}
use Rattle.ways.proofs.Settling.{read_at, Going, going_start, going_more, going_end}

-- ---- what a road of cost c from a place at w leaves of a distance x
abbrev relaxed : ℕ → ℕ → ℕ → ℕ
relaxed c w x = cond (ltb 0 c && ltb (w + c) x) (w + c) x

relaxed_road : (c w x : ℕ) → 0 < c → relaxed c w x ≤ c + w
relaxed_road c w x h = grind arith

relaxed_way : (c w x : ℕ) → (relaxed c w x ≡ x) ⊎ ((0 < c) × (relaxed c w x ≡ c + w) × (relaxed c w x < x))
relaxed_way c w x = elim (cases_lt 0 c) [
  | inl p ↦ elim (cases_lt (w + c) x) [ inl q ↦ inr (p, grind arith, grind arith) | inr q ↦ inl (grind arith) ]
  | inr p ↦ inl (grind arith)
]

-- ---- costs have a bound
bounded : (n : ℕ) (h : ℕ → ℕ) → (b : ℕ) × ((i : ℕ) → i < n → h i ≤ b)
bounded zero h = (0, λ i l. absurd (omega arith))
bounded (suc n) h = let r = bounded n h in (r.0 + h n, λ i l. elim (cases_eq i n) [ inl p ↦ omega (arith, ap h p) | inr p ↦ omega (arith, r.1 i (omega arith)) ])

costs_bounded : (z : Map) → (b : ℕ) × ((a e : ℕ) → a < z.n → e < z.n → z.cost a e ≤ b)
costs_bounded z =
    let t = bounded z.n (λ a. (bounded z.n (z.cost a)).0) in
    (t.0, λ a e l m. omega (arith, t.1 a l, (bounded z.n (z.cost a)).1 e m))

-- ---- how many are not settled
left : (ℕ → Bool) → ℕ → ℕ
left s zero = 0
left s (suc m) = cond (s m) 0 1 + left s m

left_same : (s t : ℕ → Bool) (m : ℕ) → ((a : ℕ) → a < m → t a ≡ s a) → left t m ≡ left s m
unfolding left
left_same s t zero h = refl
left_same s t (suc m) h =
    let x : ◌≡◌ {A = ℕ} (cond (t m) 0 1) (cond (s m) 0 1) = ap (λ b. cond b 0 1) (h m (omega arith)) in
    omega (arith, x, left_same s t m (λ a l. h a (omega arith)))

left_less : (s t : ℕ → Bool) (u m : ℕ) → u < m → s u ≡ false → t u ≡ true → ((a : ℕ) → (a ≡ u → ⊥) → t a ≡ s a) → left t m < left s m
unfolding left
left_less s t u zero l p q h = absurd (omega arith)
left_less s t u (suc m) l p q h = elim (cases_eq u m) [
  | inl e ↦ (let x : ◌≡◌ {A = ℕ} (cond (t m) 0 1) 0 = ap (λ b. cond b 0 1) (sym (ap t e) ∙ q) in
      let y : ◌≡◌ {A = ℕ} (cond (s m) 0 1) 1 = ap (λ b. cond b 0 1) (sym (ap s e) ∙ p) in
      omega (arith, x, y, left_same s t m (λ a k. h a (omega arith))))
  | inr e ↦ (let x : ◌≡◌ {A = ℕ} (cond (t m) 0 1) (cond (s m) 0 1) = ap (λ b. cond b 0 1) (h m (omega arith)) in
      omega (arith, x, left_less s t u m (omega arith) p q h))
]

-- ---- the closest that isn't settled
Open : ℕ → (ℕ → ℕ) → (ℕ → Bool) → ℕ → Type 0
Open cap f s m = ((u : ℕ) × (u < m) × (s u ≡ false) × (f u < cap) × ((a : ℕ) → a < m → s a ≡ false → f u ≤ f a)) ⊎ ((a : ℕ) → a < m → s a ≡ false → cap ≤ f a)

seek : (cap : ℕ) (f : ℕ → ℕ) (s : ℕ → Bool) (m : ℕ) → Open cap f s m
unfolding Open
seek cap f s zero = inr (λ a l. absurd (omega arith))
seek cap f s (suc m) = elim (cases_Bool (s m)) [
  | inl p ↦ elim (seek cap f s m) [
    | inl r ↦ inl (r.0, omega (arith, r.1), r.2, r.3, λ a l h. elim (cases_eq a m) [ inl q ↦ absurd (both_ways (s m) (sym (ap s q) ∙ h) p) | inr q ↦ r.4 a (omega arith) h ])
    | inr r ↦ inr (λ a l h. elim (cases_eq a m) [ inl q ↦ absurd (both_ways (s m) (sym (ap s q) ∙ h) p) | inr q ↦ r a (omega arith) h ])
  ]
  | inr p ↦ elim (seek cap f s m) [
    | inl r ↦ elim (cases_lt (f m) (f r.0)) [
      | inl k ↦ inl (m, omega arith, p, omega (arith, r.3), λ a l h. elim (cases_eq a m) [ inl q ↦ omega (arith, ap f q) | inr q ↦ omega (arith, r.4 a (omega arith) h) ])
      | inr k ↦ inl (r.0, omega (arith, r.1), r.2, r.3, λ a l h. elim (cases_eq a m) [ inl q ↦ omega (arith, ap f q) | inr q ↦ r.4 a (omega arith) h ])
    ]
    | inr r ↦ elim (cases_lt (f m) cap) [
      | inl k ↦ inl (m, omega arith, p, k, λ a l h. elim (cases_eq a m) [ inl q ↦ omega (arith, ap f q) | inr q ↦ omega (arith, r a (omega arith) h) ])
      | inr k ↦ inr (λ a l h. elim (cases_eq a m) [ inl q ↦ omega (arith, ap f q) | inr q ↦ r a (omega arith) h ])
    ]
  ]
]

-- ---- settle one after the other
slack : ℕ → ℕ → ℕ
slack b zero = b
slack b (suc k) = b + slack b k

slack_least : (b k : ℕ) → b ≤ slack b k
unfolding slack
slack_least b zero = omega arith
slack_least b (suc k) = omega arith

module _ (z : Map) (cap d most : ℕ) (dn : d < z.n) (small : (a e : ℕ) → a < z.n → e < z.n → z.cost a e ≤ most) where
  run : (k : ℕ) (f : ℕ → ℕ) (s : ℕ → Bool) (w : ℕ) → Going z cap d f s w → left s z.n ≤ k → w + slack most k < cap → (g : ℕ → Far) × Distances z d g
  unfolding Open slack
  run zero f s w o l r = elim (seek cap f s z.n) [
    | inl u ↦ absurd (omega (arith, left_less s (λ a. cond (eqb a u.0) true (s a)) u.0 z.n u.1 u.2 (ap (λ b. cond b true (s u.0)) (eq-eqb u.0 u.0 refl)) (λ a ne. ap (λ b. cond b true (s a)) (ne_eqb a u.0 ne))))
    | inr h ↦ ((λ a. read_at cap (f a)), going_end z cap d w most f s o h small (omega arith) r)
  ]
  run (suc k) f s w o l r = elim (seek cap f s z.n) [
    | inl u ↦ (let t : ℕ → Bool = λ a. cond (eqb a u.0) true (s a) in
        let tu : t u.0 ≡ true = ap (λ b. cond b true (s u.0)) (eq-eqb u.0 u.0 refl) in
        let ts : (a : ℕ) → (a ≡ u.0 → ⊥) → t a ≡ s a = λ a ne. ap (λ b. cond b true (s a)) (ne_eqb a u.0 ne) in
        let g : ℕ → ℕ = λ a. relaxed (z.cost a u.0) (f u.0) (f a) in
        run k g t (w + most)
        (going_more z cap d u.0 w most f g s t o dn u.1 u.2 u.3 u.4
        (λ a q c. relaxed_road (z.cost a u.0) (f u.0) (f a) c)
        (λ a q. relaxed_way (z.cost a u.0) (f u.0) (f a))
        (λ a q. small a u.0 q u.1) tu ts)
        (omega (arith, left_less s t u.0 z.n u.1 u.2 tu ts)) (omega arith))
    | inr h ↦ ((λ a. read_at cap (f a)), going_end z cap d w most f s o h small (omega arith) (omega (arith, slack_least most k)))
  ]

pub exists : (z : Map) (d : ℕ) → d < z.n → (g : ℕ → Far) × Distances z d g
exists z d l =
    let b = costs_bounded z in
    let s : ℕ → Bool = λ a. false in
    let k = left s z.n in
    let cap = slack b.0 k + 1 in
    let f : ℕ → ℕ = λ a. cond (eqb a d) 0 cap in
    run z cap d b.0 l b.1 k f s 0
    (going_start z cap d f s (ap (λ t. cond t 0 cap) (eq-eqb d d refl)) (λ a m ne. ap (λ t. cond t 0 cap) (ne_eqb a d ne)) (λ a m. refl))
    (omega arith) (omega arith)

pub certified : (z : Map) (d : ℕ) → d < z.n → Distances z d (far z d)
certified z d l =
    let r = exists z d l in
    let g = r.0 in
    let same : (a : ℕ) → a < z.n → far z d a ≡ g a = λ a m. far_is z d g r.1 a m in
    record {
      here = same d l ∙ r.1.here;
      step = λ a k m ne h. let q = r.1.step a k m ne (sym (same a m) ∙ h) in (q.0, q.1, q.2, q.3, same q.0 q.2 ∙ q.4, q.5);
      less = λ a e j m o c h. let q = r.1.less a e j m o c (sym (same e o) ∙ h) in (q.0, same a m ∙ q.1, q.2);
    }
