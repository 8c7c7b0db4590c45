-- Dijkstra's argument, over functions: what holds while places are settled, the closest first, and that the distances come out. Assumes nothing.
use Rattle.std.proofs.Common.{◌≡◌, ℕ, ◌+◌, ◌<◌, ◌≤◌, Bool, true, false, cond, ltb, ◌⊎◌, sym, ap, ◌∙◌, inl, inr, arith}
use Rattle.std.proofs.lemmas.Bool.{cases_Bool, cases_eq, cases_lt, lt-ltb, le-ltb, both_ways}
use Rattle.ways.specs.Map.{Map, Far, Never, At}
use Rattle.ways.specs.Ways.{Distances}
use Rattle.ways.proofs.Fars.{at_same, never_at}

-- a number read as a distance: cap and above stand for Never
abbrev pub read_at : ℕ → ℕ → Far
read_at cap x = cond (ltb x cap) (At x) Never

-- f is how far each place is, cap where no way is known; s says which ones are settled; none that was reached is farther than w
pub record Going (z : Map) (cap d : ℕ) (f : ℕ → ℕ) (s : ℕ → Bool) (w : ℕ) : Type 0 where
  pub here : f d ≡ 0
  -- each place that was reached goes on to a settled one
  pub step : (a : ℕ) → a < z.n → (a ≡ d → ⊥) → f a < cap → (e : ℕ) × (e < z.n) × (s e ≡ true) × (0 < z.cost a e) × (f a ≡ z.cost a e + f e)
  -- no road leads to a settled one that is closer by more
  pub less : (a e : ℕ) → a < z.n → e < z.n → s e ≡ true → 0 < z.cost a e → f a ≤ z.cost a e + f e
  -- the settled ones are closer than the others
  pub order : (a e : ℕ) → a < z.n → e < z.n → s e ≡ true → s a ≡ false → f e ≤ f a
  pub reached : (e : ℕ) → e < z.n → s e ≡ true → f e < cap
  pub bound : (a : ℕ) → a < z.n → f a < cap → f a ≤ w

-- ---- the start
pub going_start : (z : Map) (cap d : ℕ) (f : ℕ → ℕ) (s : ℕ → Bool) → f d ≡ 0 → ((a : ℕ) → a < z.n → (a ≡ d → ⊥) → f a ≡ cap) → ((a : ℕ) → a < z.n → s a ≡ false) → Going z cap d f s 0
going_start z cap d f s p q t = record {
  here = p;
  step = λ a l ne h. absurd (omega (arith, q a l ne));
  less = λ a e l m h. absurd (both_ways (s e) (t e m) h);
  order = λ a e l m h. absurd (both_ways (s e) (t e m) h);
  reached = λ e m h. absurd (both_ways (s e) (t e m) h);
  bound = λ a l h. elim (cases_eq a d) [ inl u ↦ omega (arith, ap f u) | inr u ↦ absurd (omega (arith, q a l u)) ];
}

-- ---- one more is settled, u, and its roads are followed: g is how far each place is then
module _ (z : Map) (cap d u w most : ℕ) (f g : ℕ → ℕ) (s t : ℕ → Bool) (o : Going z cap d f s w)
    (dn : d < z.n) (un : u < z.n) (su : s u ≡ false) (fu : f u < cap)
    (low : (a : ℕ) → a < z.n → s a ≡ false → f u ≤ f a)
    (road : (a : ℕ) → a < z.n → 0 < z.cost a u → g a ≤ z.cost a u + f u)
    (way : (a : ℕ) → a < z.n → (g a ≡ f a) ⊎ ((0 < z.cost a u) × (g a ≡ z.cost a u + f u) × (g a < f a)))
    (small : (a : ℕ) → a < z.n → z.cost a u ≤ most)
    (tu : t u ≡ true) (ts : (a : ℕ) → (a ≡ u → ⊥) → t a ≡ s a) where
  -- what was settled, or is now, stays
  keeps : (e : ℕ) → e < z.n → f e ≤ f u → g e ≡ f e
  keeps e l h = elim (way e l) [ inl p ↦ p | inr p ↦ omega (arith, p.1, p.2) ]

  old : (e : ℕ) → t e ≡ true → (e ≡ u) ⊎ (s e ≡ true)
  old e h = elim (cases_eq e u) [ inl p ↦ inl p | inr p ↦ inr (sym (ts e p) ∙ h) ]

  close : (e : ℕ) → e < z.n → t e ≡ true → f e ≤ f u
  close e l h = elim (old e h) [ inl p ↦ omega (arith, ap f p) | inr p ↦ o.order u e un l p su ]

  stays : (e : ℕ) → s e ≡ true → t e ≡ true
  stays e h = elim (cases_eq e u) [ inl p ↦ ap t p ∙ tu | inr p ↦ ts e p ∙ h ]

  fresh : (a : ℕ) → t a ≡ false → s a ≡ false
  fresh a h = elim (cases_eq a u) [ inl p ↦ absurd (both_ways (t a) h (ap t p ∙ tu)) | inr p ↦ sym (ts a p) ∙ h ]

  lower : (a : ℕ) → a < z.n → g a ≤ f a
  lower a l = elim (way a l) [ inl p ↦ omega (arith, p) | inr p ↦ omega (arith, p.2) ]

  least : (a : ℕ) → a < z.n → f u ≤ f a → f u ≤ g a
  least a l h = elim (way a l) [ inl p ↦ omega (arith, p) | inr p ↦ omega (arith, p.1) ]

  steps : (a : ℕ) → a < z.n → (a ≡ d → ⊥) → g a < cap → (e : ℕ) × (e < z.n) × (t e ≡ true) × (0 < z.cost a e) × (g a ≡ z.cost a e + g e)
  steps a l ne h = elim (way a l) [
    | inl p ↦ (let q = o.step a l ne (omega (arith, p)) in
        let v = keeps q.0 q.1 (close q.0 q.1 (stays q.0 q.2)) in
        (q.0, q.1, stays q.0 q.2, q.3, omega (arith, p, q.4, v)))
    | inr p ↦ (let v = keeps u un (omega arith) in (u, un, tu, p.0, omega (arith, p.1, v)))
  ]

  lesses : (a e : ℕ) → a < z.n → e < z.n → t e ≡ true → 0 < z.cost a e → g a ≤ z.cost a e + g e
  lesses a e l m h c = elim (old e h) [
    | inl p ↦ (let x : z.cost a e ≡ z.cost a u = ap (λ q. z.cost a q) p in
        let v = keeps u un (omega arith) in
        omega (arith, road a l (omega (arith, x, c)), x, v, ap g p))
    | inr p ↦ omega (arith, o.less a e l m p c, lower a l, keeps e m (close e m h))
  ]

  pub going_more : Going z cap d g t (w + most)
  going_more = record {
    here = keeps d dn (omega (arith, o.here)) ∙ o.here;
    step = steps;
    less = lesses;
    order = λ a e l m h q. omega (arith, keeps e m (close e m h), close e m h, least a l (low a l (fresh a q)));
    reached = λ e m h. omega (arith, keeps e m (close e m h), close e m h);
    bound = λ a l h. elim (way a l) [ inl p ↦ omega (arith, p, o.bound a l (omega (arith, p, h))) | inr p ↦ omega (arith, p.1, small a l, o.bound u un fu) ];
  }

-- ---- the end
pub read_at_lem : (cap x : ℕ) → x < cap → read_at cap x ≡ At x
read_at_lem cap x h = ap (λ b. cond b (At x) Never) (lt-ltb x cap h)

pub read_some : (cap x k : ℕ) → read_at cap x ≡ At k → (x < cap) × (x ≡ k)
read_some cap x k h = elim (cases_lt x cap) [
  | inl p ↦ (p, at_same x k (sym (read_at_lem cap x p) ∙ h))
  | inr p ↦ absurd (never_at k (sym (ap (λ b. cond b (At x) Never) (le-ltb x cap p)) ∙ h))
]

module _ (z : Map) (cap d w most : ℕ) (f : ℕ → ℕ) (s : ℕ → Bool) (o : Going z cap d f s w)
    (all : (a : ℕ) → a < z.n → s a ≡ false → cap ≤ f a)
    (small : (a e : ℕ) → a < z.n → e < z.n → z.cost a e ≤ most)
    (room : 0 < cap) (rest : w + most < cap) where
  settled : (a : ℕ) → a < z.n → f a < cap → s a ≡ true
  settled a l h = elim (cases_Bool (s a)) [ inl p ↦ p | inr p ↦ absurd (omega (arith, all a l p)) ]

  pub going_end : Distances z d (λ a. read_at cap (f a))
  going_end = record {
    here = ap (read_at cap) o.here ∙ read_at_lem cap 0 room;
    step = λ a k l ne h.
        let p = read_some cap (f a) k h in
        let q = o.step a l ne p.0 in
        (q.0, f q.0, q.1, q.3, read_at_lem cap (f q.0) (o.reached q.0 q.1 q.2), omega (arith, q.4, p.1));
    less = λ a e j l m c h.
        let p = read_some cap (f e) j h in
        let q = o.less a e l m (settled e m p.0) c in
        (f a, read_at_lem cap (f a) (omega (arith, q, small a e l m, o.bound e m p.0)), omega (arith, q, p.1));
  }
