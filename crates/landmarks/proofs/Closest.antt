-- The landmark of a place: that it is there, that it is the closest and the lowest, and how one looks for it place by place. Assumes nothing.
use Rattle.std.proofs.Common.{◌≡◌, ℕ, zero, suc, ◌+◌, ◌<◌, ◌≤◌, true, false, sym, refl, ap, ◌∙◌, inl, inr, add-one, arith}
use Rattle.std.proofs.lemmas.Bool.{cases_Bool, cases_eq, cases_lt}
use Rattle.ways.specs.Map.{Map, Far, At, far}
use Rattle.ways.proofs.Fars.{at_same}
use Rattle.ways.proofs.Certified.{certified}
use Rattle.ways.proofs.Metric.{far_zero}
use Rattle.landmarks.specs.Landmarks.{Marks, NoMark, Is, or_closer, nearest}
use Rattle.landmarks.specs.Laws.{Closest, LandmarkThere, LandmarkOnly, LandmarkOwn}
use Rattle.landmarks.proofs.Closer.{closer_is, Found, or_keeps, or_takes, or_is}

-- ---- one place more
module _ (z : Map) (l : Marks) (v k : ℕ) where
  pub nearest_none : nearest z l v 0 ≡ NoMark
  unfolding nearest
  nearest_none = refl

  pub nearest_skips : l k ≡ false → nearest z l v (k + 1) ≡ nearest z l v k
  unfolding nearest
  nearest_skips h = rw (add-one, h) refl

  pub nearest_more : l k ≡ true → nearest z l v (k + 1) ≡ or_closer (nearest z l v k) k (far z v k)
  unfolding nearest
  nearest_more h = rw (add-one, h) refl

-- ---- what is found
pub nearest_low : (z : Map) (l : Marks) (v k j q : ℕ) → j < k → l j ≡ true → far z v j ≡ At q → Found (nearest z l v k) q
unfolding nearest
nearest_low z l v zero j q lt is h = absurd (omega arith)
nearest_low z l v (suc k) j q lt is h = elim (cases_eq j k) [
  | inl s ↦ (let a : l k ≡ true = rw s at is in let b : far z v k ≡ At q = rw s at h in rw (a, b) (or_takes (nearest z l v k) k q))
  | inr s ↦ (let r = nearest_low z l v k j q (omega arith) is h in
      elim (cases_Bool (l k)) [ inl t ↦ rw t (or_keeps (nearest z l v k) k (far z v k) q r) | inr t ↦ rw t r ])
]

pub nearest_is : (z : Map) (l : Marks) (v k m : ℕ) (f : Far) → nearest z l v k ≡ Is m f → (m < k) × (l m ≡ true) × (far z v m ≡ f)
unfolding nearest
nearest_is z l v zero m f h = absurd (let k : ◌≡◌ {A = ℕ} 0 1 = cc in omega arith)
nearest_is z l v (suc k) m f h = elim (cases_Bool (l k)) [
  | inl t ↦ elim (or_is (nearest z l v k) k (far z v k) m f (rw t at h)) [
    | inl e ↦ (let r = nearest_is z l v k m f e in (omega (arith, r.0), r.1, r.2))
    | inr e ↦ (omega (arith, e.0), sym (ap l e.0) ∙ t, sym (ap (far z v) e.0) ∙ e.1)
  ]
  | inr t ↦ (let r = nearest_is z l v k m f (rw t at h) in (omega (arith, r.0), r.1, r.2))
]

-- none lower is as close
pub nearest_lowest : (z : Map) (l : Marks) (v k m r : ℕ) → nearest z l v k ≡ Is m (At r) → (j q : ℕ) → j < m → l j ≡ true → far z v j ≡ At q → r < q
unfolding nearest
nearest_lowest z l v zero m r h j q lt is hj = absurd (let k : ◌≡◌ {A = ℕ} 0 1 = cc in omega arith)
nearest_lowest z l v (suc k) m r h j q lt is hj = elim (cases_Bool (l k)) [
  | inl t ↦ elim (or_is (nearest z l v k) k (far z v k) m (At r) (rw t at h)) [
    | inl e ↦ nearest_lowest z l v k m r e j q lt is hj
    | inr e ↦ (let b = nearest_low z l v k j q (omega (arith, e.0)) is hj in
        let c = closer_is (far z v k) b.1 (e.2 b.0 (At b.1) b.2) in
        let s : c.0 ≡ r = at_same c.0 r (sym c.1 ∙ e.1) in
        omega (arith, c.2, b.3))
  ]
  | inr t ↦ nearest_lowest z l v k m r (rw t at h) j q lt is hj
]

-- ---- the closest of the places 0 to k - 1, and whoever is that is what is found
module _ (z : Map) (l : Marks) (v k : ℕ) where
  pub nearest_closest : (m r : ℕ) → nearest z l v k ≡ Is m (At r) → Closest z l v k m r
  nearest_closest m r h =
      let i = nearest_is z l v k m (At r) h in
      record {
        there = i.0;
        marked = i.1;
        away = i.2;
        least = λ j q lt is hj. let g = nearest_low z l v k j q lt is hj in let e : r ≡ g.1 = cc in omega (arith, g.3);
        lowest = nearest_lowest z l v k m r h;
      }

  pub nearest_only : (m r : ℕ) → Closest z l v k m r → nearest z l v k ≡ Is m (At r)
  nearest_only m r c =
      let b = nearest_low z l v k m r c.there c.marked c.away in
      let i = nearest_closest b.0 b.1 b.2 in
      let x : r ≤ b.1 = c.least b.0 b.1 i.there i.marked i.away in
      let y : b.1 ≡ r = omega (arith, b.3) in
      let s : b.0 ≡ m = elim (cases_lt b.0 m) [
        | inl lt ↦ absurd (omega (arith, c.lowest b.0 b.1 lt i.marked i.away))
        | inr ge ↦ elim (cases_lt m b.0)
            [ inl lt ↦ absurd (omega (arith, i.lowest m r lt c.marked c.away)) | inr le ↦ omega arith ]
      ] in
      b.2 ∙ ap (λ x. Is x (At b.1)) s ∙ ap (λ x. Is m (At x)) y

-- ---- the laws
pub landmark_there : LandmarkThere
landmark_there z l joined some v vn =
    let d = joined v some.0 vn some.1 in
    let f = nearest_low z l v z.n some.0 d.0 some.1 some.2 d.1 in
    (f.0, f.1, f.2, nearest_closest z l v z.n f.0 f.1 f.2)

pub landmark_only : LandmarkOnly
landmark_only z l v m r c = nearest_only z l v z.n m r c

pub landmark_own : LandmarkOwn
landmark_own z l v vn is =
    nearest_only z l v z.n v 0 (record {
      there = vn;
      marked = is;
      away = (certified z v vn).here;
      least = λ j q _ _ _. omega arith;
      lowest = λ j q lt _ hj. elim (cases_eq q 0) [ inl e ↦ absurd (let s = far_zero z v j vn (omega arith) (hj ∙ ap At e) in omega (arith, s)) | inr ne ↦ omega arith ];
    })
