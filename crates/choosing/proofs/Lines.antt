-- How many lines a post has, by distances: over functions D, how far two places are apart, and A, how far a place is from its landmark. Assumes nothing.
use Rattle.std.proofs.Common.{◌≡◌, ℕ, zero, suc, ◌+◌, ◌-◌, ◌<◌, ◌≤◌, min, Bool, true, false, cond, not, ◌&&◌, ◌||◌, eqb, ltb, sym, refl, ap, ◌∙◌, subst, inl, inr, arith}
use Rattle.std.proofs.lemmas.Bool.{cases_lt, both_ways, eqb-true, eq-eqb, lt-ltb, le-ltb, or_cases, or_left, or_right}
use Rattle.ways.specs.Map.{Map, At, far}
use Rattle.ways.specs.Ways.{count_below}
use Rattle.ways.proofs.Certified.{certified}
use Rattle.ways.proofs.Fars.{at_same, never_at}
use Rattle.ways.proofs.Metric.{far_zero}
use Rattle.landmarks.specs.Landmarks.{Marks, Mark, NoMark, Is, mark_of, away_of, near, on_post, line_count}
use Rattle.landmarks.proofs.Closest.{nearest_low, nearest_is}
use Rattle.choosing.specs.Choosing.{sum_below, above, with_mark, first}
use Rattle.choosing.proofs.Sums.{count_two, count_one, sum_same}

-- r is how far v is from its landmark
pub record Away (z : Map) (l : Marks) (v r : ℕ) : Type 0 where
  pub m : ℕ
  pub below : m < z.n
  pub marked : l m ≡ true
  pub at : far z v m ≡ At r
  pub least : (j q : ℕ) → j < z.n → l j ≡ true → far z v j ≡ At q → r ≤ q

pub away_of_lem : (z : Map) (l : Marks) (v r : ℕ) → Away z l v r → away_of (mark_of z l v) ≡ At r
away_of_lem z l v r a =
    let f = nearest_low z l v z.n a.m r a.below a.marked a.at in
    let i = nearest_is z l v z.n f.0 (At f.1) f.2 in
    let k : f.1 ≡ r = omega (arith, f.3, a.least f.0 f.1 i.0 i.1 i.2) in
    ap away_of f.2 ∙ ap At k

pub away_first : (z : Map) (v d : ℕ) → 0 < z.n → far z v 0 ≡ At d → Away z first v d
away_first z v d zn h = record {
  m = 0;
  below = zn;
  marked = refl;
  at = h;
  least = λ j q jn t g. let e : j ≡ 0 = eqb-true j 0 t in omega (arith, at_same d q (sym h ∙ sym (ap (far z v) e) ∙ g));
}

-- one landmark more
module _ (z : Map) (l : Marks) (v r c d : ℕ) (a : Away z l v r) (cn : c < z.n) (h : far z v c ≡ At d) where
  low : (s j q : ℕ) → s ≤ r → s ≤ d → j < z.n → with_mark c l j ≡ true → far z v j ≡ At q → s ≤ q
  low s j q sr sd jn t g = elim (or_cases (eqb j c) (l j) t) [
    | inl x ↦ (let e : j ≡ c = eqb-true j c x in omega (arith, at_same d q (sym h ∙ sym (ap (far z v) e) ∙ g)))
    | inr x ↦ omega (arith, a.least j q jn x g)
  ]

  pub away_more : Away z (with_mark c l) v (min r d)
  away_more = elim (cases_lt r d) [
    | inl p ↦ (let e : r ≡ min r d = omega arith in
        subst (λ y. Away z (with_mark c l) v y) e (record {
          m = a.m;
          below = a.below;
          marked = or_right (eqb a.m c) (l a.m) a.marked;
          at = a.at;
          least = λ j q jn t g. low r j q (omega arith) (omega arith) jn t g;
        }))
    | inr p ↦ (let e : d ≡ min r d = omega arith in
        subst (λ y. Away z (with_mark c l) v y) e (record {
          m = c;
          below = cn;
          marked = or_left (eqb c c) (l c) (eq-eqb c c refl);
          at = h;
          least = λ j q jn t g. low d j q (omega arith) (omega arith) jn t g;
        }))
  ]

-- back from the words of the rule
module _ (z : Map) (l : Marks) (v r : ℕ) (joined : (j : ℕ) → j < z.n → (q : ℕ) × (far z v j ≡ At q)) where
  from : (M : Mark) → mark_of z l v ≡ M → away_of M ≡ At r → Away z l v r
  from NoMark e g = absurd (never_at r g)
  from (Is m f) e g =
      let i = nearest_is z l v z.n m f e in
      record {
        m = m;
        below = i.0;
        marked = i.1;
        at = i.2 ∙ g;
        least = λ j q jn t fj. (let w = nearest_low z l v z.n j q jn t fj in
            let a : Is m f ≡ Is w.0 (At w.1) = sym e ∙ w.2 in
            let b : f ≡ At w.1 = cc in
            omega (arith, at_same r w.1 (sym g ∙ b), w.3));
      }

  pub away_from : away_of (mark_of z l v) ≡ At r → Away z l v r
  away_from h = from (mark_of z l v) refl h

mark_zero : (z : Map) (l : Marks) (v r : ℕ) → v < z.n → Away z l v r → l v ≡ true → r ≡ 0
mark_zero z l v r vn a t = omega (arith, a.least v 0 vn t (certified z v vn).here)

open_far : (z : Map) (l : Marks) (v r : ℕ) → v < z.n → Away z l v r → l v ≡ false → 0 < r
open_far z l v zero vn a f = absurd (let e = far_zero z v a.m vn a.below a.at in both_ways (l v) f (subst (λ y. l y ≡ true) e a.marked))
open_far z l v (suc r) vn a f = omega arith

-- e: v is u itself; m: v is a landmark; b: v is closer to u than to its landmark
line : (e m b : Bool) → (m ≡ true → b ≡ false) → (e ≡ true → m ≡ false → b ≡ true) → cond (not e && (m || b)) 1 0 + cond e 1 0 ≡ cond m 1 0 + cond b 1 0
line true true true p q = absurd (both_ways true (p refl) refl)
line true true false p q = refl
line true false true p q = refl
line true false false p q = absurd (both_ways false refl (q refl refl))
line false true true p q = absurd (both_ways true (p refl) refl)
line false true false p q = refl
line false false true p q = refl
line false false false p q = refl

module _ (z : Map) (D : ℕ → ℕ → ℕ) (is : (v u : ℕ) → v < z.n → u < z.n → far z v u ≡ At (D v u)) (both : (v u : ℕ) → v < z.n → u < z.n → D v u ≡ D u v) where
  self_zero : (u : ℕ) → u < z.n → D u u ≡ 0
  self_zero u un = at_same (D u u) 0 (sym (is u u un un) ∙ (certified z u un).here)

  module _ (l : Marks) (A : ℕ → ℕ) (aways : (v : ℕ) → v < z.n → Away z l v (A v)) where
    near_is : (u v : ℕ) → u < z.n → v < z.n → near z l u v ≡ ltb (D u v) (A v)
    near_is u v un vn = rw (is v u vn un, away_of_lem z l v (A v) (aways v vn), both v u vn un) refl

    each : (u : ℕ) → u < z.n → (v : ℕ) → v < z.n → cond (on_post z l u v) 1 0 + cond (eqb v u) 1 0 ≡ cond (l v) 1 0 + cond (ltb (D u v) (A v)) 1 0
    each u un v vn = rw (near_is u v un vn) (line (eqb v u) (l v) (ltb (D u v) (A v))
        (λ t. le-ltb (D u v) (A v) (omega (arith, mark_zero z l v (A v) vn (aways v vn) t)))
        (λ t f. let e = eqb-true v u t in let k : D u v ≡ 0 = subst (λ y. D u y ≡ 0) (sym e) (self_zero u un) in
        lt-ltb (D u v) (A v) (omega (arith, open_far z l v (A v) vn (aways v vn) f))))

    -- a post has a line for each landmark and for all that is near, but one: that of its own place
    pub lines : (u : ℕ) → u < z.n → line_count z l u + 1 ≡ count_below z.n l + count_below z.n (λ v. ltb (D u v) (A v))
    lines u un = omega (arith, count_one z.n u un, count_two z.n (on_post z l u) (λ v. eqb v u) l (λ v. ltb (D u v) (A v)) (each u un))

    pub over_is : (room : ℕ) → above z room l ≡ sum_below z.n (λ u. (count_below z.n l + count_below z.n (λ v. ltb (D u v) (A v))) - (room + 1))
    over_is room = sum_same z.n (λ u. line_count z l u - room) (λ u. (count_below z.n l + count_below z.n (λ v. ltb (D u v) (A v))) - (room + 1)) (λ u un. omega (arith, lines u un))
