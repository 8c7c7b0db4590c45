-- Sums and counts below a number. Assumes nothing.
use Rattle.std.proofs.Common.{◌≡◌, ℕ, zero, suc, ◌+◌, ◌-◌, ◌*◌, ◌<◌, ◌≤◌, Bool, false, cond, eqb, ltb, sym, refl, ap, ◌∙◌, subst, inl, inr, suc-mul, add-one, arith}
use Rattle.std.proofs.lemmas.Bool.{cases_eq, cases_lt, eq-eqb, ne_eqb, lt-ltb}
use Rattle.ways.specs.Ways.{count_below}
use Rattle.ways.proofs.Counting.{count_none}
use Rattle.distances.specs.Orders.{Sorted}
use Rattle.choosing.specs.Choosing.{sum_below}

-- ---- counts
-- where two tests pass as often as two others at each number, they do in all
pub count_two : (n : ℕ) (f g h k : ℕ → Bool) → ((x : ℕ) → x < n → cond (f x) 1 0 + cond (g x) 1 0 ≡ cond (h x) 1 0 + cond (k x) 1 0) → count_below n f + count_below n g ≡ count_below n h + count_below n k
unfolding count_below
count_two zero f g h k e = refl
count_two (suc n) f g h k e = omega (arith, e n (omega arith), count_two n f g h k (λ x p. e x (omega arith)))

pub count_nothing : (n : ℕ) → count_below n (λ _. false) ≡ 0
count_nothing n = count_none n (λ _. false) (λ i l. refl)

pub count_one : (n u : ℕ) → u < n → count_below n (λ v. eqb v u) ≡ 1
unfolding count_below
count_one zero u h = absurd (omega arith)
count_one (suc n) u h = elim (cases_eq n u) [
  | inl e ↦ rw (eq-eqb n u e, count_none n (λ v. eqb v u) (λ i l. ne_eqb i u (λ q. omega arith))) refl
  | inr ne ↦ rw (ne_eqb n u ne, count_one n u (omega arith)) refl
]

-- ---- sums
pub sum_more : (n : ℕ) (f : ℕ → ℕ) → sum_below (n + 1) f ≡ sum_below n f + f n
unfolding sum_below
sum_more n f = rw add-one (omega arith)

pub sum_zero : (f : ℕ → ℕ) → sum_below 0 f ≡ 0
unfolding sum_below
sum_zero f = refl

pub sum_same : (n : ℕ) (f g : ℕ → ℕ) → ((x : ℕ) → x < n → f x ≡ g x) → sum_below n f ≡ sum_below n g
unfolding sum_below
sum_same zero f g h = refl
sum_same (suc n) f g h = omega (arith, h n (omega arith), sum_same n f g (λ x p. h x (omega arith)))

pub sum_within : (n : ℕ) (f g : ℕ → ℕ) → ((x : ℕ) → x < n → f x ≤ g x) → sum_below n f ≤ sum_below n g
unfolding sum_below
sum_within zero f g h = omega arith
sum_within (suc n) f g h = omega (arith, h n (omega arith), sum_within n f g (λ x p. h x (omega arith)))

pub sum_most : (n m : ℕ) (f : ℕ → ℕ) → ((x : ℕ) → x < n → f x ≤ m) → sum_below n f ≤ n * m
unfolding sum_below
sum_most zero m f h = omega arith
sum_most (suc n) m f h = omega (arith, suc-mul n m, h n (omega arith), sum_most n m f (λ x p. h x (omega arith)))

-- a sum is 0 just where each of its parts is
pub sum_none : (n : ℕ) (f : ℕ → ℕ) → ((x : ℕ) → x < n → f x ≡ 0) → sum_below n f ≡ 0
unfolding sum_below
sum_none zero f h = refl
sum_none (suc n) f h = omega (arith, h n (omega arith), sum_none n f (λ x p. h x (omega arith)))

pub sum_each : (n : ℕ) (f : ℕ → ℕ) → sum_below n f ≡ 0 → (x : ℕ) → x < n → f x ≡ 0
unfolding sum_below
sum_each zero f e x h = absurd (omega arith)
sum_each (suc n) f e x h = elim (cases_eq x n) [
  | inl q ↦ (let p : f n ≡ 0 = omega arith in ap f q ∙ p)
  | inr q ↦ sum_each n f (omega arith) x (omega arith)
]

pub sum_plus : (n : ℕ) (f g : ℕ → ℕ) → sum_below n (λ u. f u + g u) ≡ sum_below n f + sum_below n g
unfolding sum_below
sum_plus zero f g = refl
sum_plus (suc n) f g = omega (arith, sum_plus n f g)

pub sum_swap : (n m : ℕ) (f : ℕ → ℕ → ℕ) → sum_below n (λ u. sum_below m (f u)) ≡ sum_below m (λ v. sum_below n (λ u. f u v))
unfolding sum_below
sum_swap zero m f = sym (sum_none m (λ _. 0) (λ x p. refl))
sum_swap (suc n) m f = ap (λ x. sum_below m (f n) + x) (sum_swap n m f) ∙ sym (sum_plus m (f n) (λ v. sum_below n (λ u. f u v)))

-- a count as a sum
pub count_sum : (n : ℕ) (f : ℕ → Bool) → count_below n f ≡ sum_below n (λ u. cond (f u) 1 0)
unfolding count_below sum_below
count_sum zero f = refl
count_sum (suc n) f = ap (λ x. cond (f n) 1 0 + x) (count_sum n f)

sum_one : (n a k : ℕ) → a < n → sum_below n (λ i. cond (eqb i a) k 0) ≡ k
unfolding sum_below
sum_one zero a k h = absurd (omega arith)
sum_one (suc n) a k h = elim (cases_eq n a) [
  | inl e ↦ rw (eq-eqb n a e, sum_none n (λ i. cond (eqb i a) k 0) (λ i l. ap (λ b. cond b k 0) (ne_eqb i a (λ q. omega arith)))) (omega arith)
  | inr ne ↦ rw (ne_eqb n a ne, sum_one n a k (omega arith)) (omega arith)
]

-- a sum in another order
pub permuted : (n : ℕ) (far seq f : ℕ → ℕ) → Sorted n far seq → sum_below n (λ i. f (seq i)) ≡ sum_below n f
permuted n far seq f s =
    sum_same n (λ i. f (seq i)) (λ i. sum_below n (λ u. cond (eqb (seq i) u) (f u) 0)) (λ i h. sym (at_i i h))
    ∙ sum_swap n n (λ i u. cond (eqb (seq i) u) (f u) 0)
    ∙ sum_same n (λ u. sum_below n (λ i. cond (eqb (seq i) u) (f u) 0)) f at_u
  where
    at_i : (i : ℕ) → i < n → sum_below n (λ u. cond (eqb (seq i) u) (f u) 0) ≡ f (seq i)
    at_i i h = sum_same n (λ u. cond (eqb (seq i) u) (f u) 0) (λ u. cond (eqb u (seq i)) (f (seq i)) 0) (λ u un. elim (cases_eq u (seq i)) [
      | inl e ↦ subst (λ y. cond (eqb (seq i) y) (f y) 0 ≡ cond (eqb y (seq i)) (f (seq i)) 0) (sym e) refl
      | inr ne ↦ rw (ne_eqb u (seq i) ne, ne_eqb (seq i) u (λ x. ne (sym x))) refl
    ]) ∙ sum_one n (seq i) (f (seq i)) (s.inside i h)

    at_u : (u : ℕ) → u < n → sum_below n (λ i. cond (eqb (seq i) u) (f u) 0) ≡ f u
    at_u u un = sum_same n (λ i. cond (eqb (seq i) u) (f u) 0) (λ i. cond (eqb i (s.at u)) (f u) 0) (λ i h. elim (cases_eq i (s.at u)) [
      | inl e ↦ (let k : seq i ≡ u = ap seq e ∙ s.back u un in rw (eq-eqb i (s.at u) e, eq-eqb (seq i) u k) refl)
      | inr ne ↦ (let k : seq i ≡ u → ⊥ = λ x. ne (sym (s.forth i h) ∙ ap s.at x) in rw (ne_eqb i (s.at u) ne, ne_eqb (seq i) u k) refl)
    ]) ∙ sum_one n (s.at u) (f u) (s.at_inside u un)

-- what is left of x where l is taken away is at least all but what is taken away where there is something
pub left_least : (n : ℕ) (x l : ℕ → ℕ) → sum_below n x ≤ sum_below n (λ u. x u - l u) + sum_below n (λ u. cond (ltb 0 (x u)) (l u) 0)
unfolding sum_below
left_least zero x l = omega arith
left_least (suc n) x l = omega (arith, left_least n x l, one (x n) (l n))
  where
    one : (a b : ℕ) → a ≤ (a - b) + cond (ltb 0 a) b 0
    one a b = elim (cases_lt 0 a) [ inl p ↦ rw (lt-ltb 0 a p) (omega arith) | inr p ↦ omega arith ]
