-- Ways cost the same there and back, and never more over a third place. Assumes nothing.
use Rattle.std.proofs.Common.{◌≡◌, ℕ, zero, suc, ◌+◌, ◌<◌, sym, refl, ap, ◌∙◌, inl, inr, arith}
use Rattle.std.proofs.lemmas.Bool.{cases_eq}
use Rattle.ways.specs.Map.{Map, Far, Never, At, far}
use Rattle.ways.specs.Ways.{AtMost, BothWays}
use Rattle.ways.specs.Laws.{Symmetric, Triangle, JoinedByOne}
use Rattle.ways.proofs.Fars.{at_same, never_at}
use Rattle.ways.proofs.Certified.{certified}

module _ (z : Map) where
  over : (b p a e c q : ℕ) → p < b → a < z.n → e < z.n → c < z.n → far z e a ≡ At p → far z c e ≡ At q → AtMost (far z c a) (p + q)
  over zero p a e c q h l m n x y = absurd (omega arith)
  over (suc b) p a e c q h l m n x y = elim (cases_eq a e) [
    | inl t ↦ (q, ap (far z c) t ∙ y, omega arith)
    | inr t ↦ (let r = (certified z e m).step a p l t x in
        let i = over b r.1 r.0 e c q (omega (arith, r.3, r.5)) r.2 m n r.4 y in
        let u = (certified z c n).less a r.0 i.0 l r.2 r.3 i.1 in
        (u.0, u.1, omega (arith, u.2, i.2, r.5)))
  ]

  pub triangle : (a e c p q : ℕ) → a < z.n → e < z.n → c < z.n → far z e a ≡ At p → far z c e ≡ At q → AtMost (far z c a) (p + q)
  triangle a e c p q l m n x y = over (suc p) p a e c q (omega arith) l m n x y

  module _ (both : BothWays z) where
    back : (b p a e : ℕ) → p < b → a < z.n → e < z.n → far z e a ≡ At p → AtMost (far z a e) p
    back zero p a e h l m x = absurd (omega arith)
    back (suc b) p a e h l m x = elim (cases_eq a e) [
      | inl t ↦ (0, ap (far z a) (sym t) ∙ (certified z a l).here, omega arith)
      | inr t ↦ (let r = (certified z e m).step a p l t x in
          let i = back b r.1 r.0 e (omega (arith, r.3, r.5)) r.2 m r.4 in
          let o = both a r.0 in
          let u = (certified z a l).less r.0 a 0 r.2 l (omega (arith, o, r.3)) (certified z a l).here in
          let v = triangle e r.0 a i.0 u.0 m r.2 l i.1 u.1 in
          (v.0, v.1, omega (arith, v.2, i.2, u.2, o, r.5)))
    ]

    back_at : (x y : Far) (a e : ℕ) → a < z.n → e < z.n → far z a e ≡ x → far z e a ≡ y → x ≡ y
    back_at Never Never a e l m p q = refl
    back_at Never (At k) a e l m p q = let r = back (suc k) k a e (omega arith) l m q in absurd (never_at r.0 (sym p ∙ r.1))
    back_at (At k) Never a e l m p q = let r = back (suc k) k e a (omega arith) m l p in absurd (never_at r.0 (sym q ∙ r.1))
    back_at (At j) (At k) a e l m p q =
        let r = back (suc k) k a e (omega arith) l m q in
        let t = back (suc j) j e a (omega arith) m l p in
        let u : r.0 ≡ j = at_same r.0 j (sym r.1 ∙ p) in
        let v : t.0 ≡ k = at_same t.0 k (sym t.1 ∙ q) in
        ap At (omega (arith, u, v, r.2, t.2))

    pub there_and_back : (a e : ℕ) → a < z.n → e < z.n → far z a e ≡ far z e a
    there_and_back a e l m = back_at (far z a e) (far z e a) a e l m refl refl

-- what is at no distance is the place itself
pub far_zero : (z : Map) (d a : ℕ) → d < z.n → a < z.n → far z d a ≡ At 0 → a ≡ d
far_zero z d a dn an h = elim (cases_eq a d) [ inl e ↦ e | inr ne ↦ (let r = (certified z d dn).step a 0 an ne h in absurd (omega (arith, r.3, r.5))) ]

pub symmetric : Symmetric
symmetric z both a e l m = there_and_back z both a e l m

pub triangles : Triangle
triangles z a e c p q l m n x y = triangle z a e c p q l m n x y

-- what is joined to one place is joined
pub joined_by_one : JoinedByOne
joined_by_one z d both dn h a e l m =
    let p = h e m in
    let q = h a l in
    let r = triangle z e d a p.0 q.0 m dn l p.1 (there_and_back z both a d l dn ∙ q.1) in
    (r.0, r.1)
