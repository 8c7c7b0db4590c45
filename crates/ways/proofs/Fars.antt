-- What `lower`, `plus` and `lowest` give. Assumes nothing.
use Rattle.std.proofs.Common.{◌≡◌, ℕ, zero, suc, ◌+◌, ◌<◌, cond, ltb, ◌⊎◌, sym, refl, ap, ◌∙◌, inl, inr, arith}
use Rattle.std.proofs.lemmas.Bool.{cases_Bool, cases_eq}
use Rattle.ways.specs.Map.{Map, Far, Never, At, plus, lower, lowest}
use Rattle.ways.specs.Ways.{AtMost}

pub at_same : (a b : ℕ) → At a ≡ At b → a ≡ b
at_same a b e = cc

pub never_at : (a : ℕ) → Never ≡ At a → ⊥
never_at a e = let z : ◌≡◌ {A = ℕ} 0 1 = cc in omega arith

pub lower_some : (x y : Far) (c : ℕ) → lower x y ≡ At c → (x ≡ At c) ⊎ (y ≡ At c)
lower_some Never y c e = inr e
lower_some (At a) Never c e = inl e
lower_some (At a) (At b) c e = elim (cases_Bool (ltb b a)) [ inl t ↦ inr (sym (ap (λ q. At (cond q b a)) t) ∙ e) | inr t ↦ inl (sym (ap (λ q. At (cond q b a)) t) ∙ e) ]

pub lower_left : (x y : Far) (c : ℕ) → AtMost x c → AtMost (lower x y) c
lower_left Never y c h = absurd (never_at h.0 h.1)
lower_left (At a) Never c h = h
lower_left (At a) (At b) c h = (cond (ltb b a) b a, refl, grind (arith, at_same a h.0 h.1))

pub lower_right : (x y : Far) (c : ℕ) → AtMost y c → AtMost (lower x y) c
lower_right Never y c h = h
lower_right (At a) Never c h = absurd (never_at h.0 h.1)
lower_right (At a) (At b) c h = (cond (ltb b a) b a, refl, grind (arith, at_same b h.0 h.1))

pub plus_some : (c : ℕ) (x : Far) (k : ℕ) → plus c x ≡ At k → (j : ℕ) × (0 < c) × (x ≡ At j) × (k ≡ c + j)
plus_some zero x k e = absurd (never_at k e)
plus_some (suc c) Never k e = absurd (never_at k e)
plus_some (suc c) (At j) k e = (j, omega arith, refl, sym (at_same (suc c + j) k e))

pub plus_at : (c : ℕ) (x : Far) (j : ℕ) → 0 < c → x ≡ At j → plus c x ≡ At (c + j)
plus_at zero x j h e = absurd (omega arith)
plus_at (suc c) Never j h e = absurd (never_at j e)
plus_at (suc c) (At i) j h e = ap (λ q. At (suc c + q)) (at_same i j e)

pub lowest_some : (z : Map) (f : ℕ → Far) (a m c : ℕ) → lowest z f a m ≡ At c → (e : ℕ) × (e < m) × (plus (z.cost a e) (f e) ≡ At c)
unfolding lowest
lowest_some z f a zero c h = absurd (never_at c h)
lowest_some z f a (suc m) c h = elim (lower_some (lowest z f a m) (plus (z.cost a m) (f m)) c h) [ inl t ↦ (let r = lowest_some z f a m c t in (r.0, omega (arith, r.1), r.2)) | inr t ↦ (m, omega arith, t) ]

pub lowest_most : (z : Map) (f : ℕ → Far) (a m e c : ℕ) → e < m → AtMost (plus (z.cost a e) (f e)) c → AtMost (lowest z f a m) c
unfolding lowest
lowest_most z f a zero e c h p = absurd (omega arith)
lowest_most z f a (suc m) e c h p = elim (cases_eq e m) [ inl t ↦ lower_right (lowest z f a m) (plus (z.cost a m) (f m)) c (rw t at p) | inr t ↦ lower_left (lowest z f a m) (plus (z.cost a m) (f m)) c (lowest_most z f a m e c (omega arith) p) ]
