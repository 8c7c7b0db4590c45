-- Counting the numbers below a bound that pass a test. Assumes nothing.
use Rattle.std.proofs.Common.{◌≡◌, ℕ, zero, suc, ◌+◌, ◌<◌, ◌≤◌, Bool, true, false, cond, sym, refl, ap, ◌∙◌, inl, inr, add-one, arith}
use Rattle.std.proofs.lemmas.Bool.{cases_eq}
use Rattle.ways.specs.Ways.{count_below}

one_most : (b : Bool) → cond b 1 0 ≤ 1
one_most true = omega arith
one_most false = omega arith

pub count_most : (k : ℕ) (f : ℕ → Bool) → count_below k f ≤ k
unfolding count_below
count_most zero f = omega arith
count_most (suc k) f = omega (arith, count_most k f, one_most (f k))

pub count_start : (f : ℕ → Bool) → count_below 0 f ≡ 0
unfolding count_below
count_start f = refl

pub count_next : (k : ℕ) (f : ℕ → Bool) → count_below (k + 1) f ≡ cond (f k) 1 0 + count_below k f
unfolding count_below
count_next k f = rw add-one refl

pub count_none : (k : ℕ) (f : ℕ → Bool) → ((i : ℕ) → i < k → f i ≡ false) → count_below k f ≡ 0
unfolding count_below
count_none zero f h = refl
count_none (suc k) f h =
    let x : ◌≡◌ {A = ℕ} (cond (f k) 1 0) 0 = ap (λ b. cond b 1 0) (h k (omega arith)) in
    omega (arith, x, count_none k f (λ i l. h i (omega arith)))

pub count_same : (k : ℕ) (f g : ℕ → Bool) → ((i : ℕ) → i < k → g i ≡ f i) → count_below k g ≡ count_below k f
unfolding count_below
count_same zero f g h = refl
count_same (suc k) f g h =
    let x : ◌≡◌ {A = ℕ} (cond (g k) 1 0) (cond (f k) 1 0) = ap (λ b. cond b 1 0) (h k (omega arith)) in
    omega (arith, x, count_same k f g (λ i l. h i (omega arith)))

-- one more passes
pub count_more : (k u : ℕ) (f g : ℕ → Bool) → u < k → f u ≡ false → g u ≡ true → ((i : ℕ) → i < k → (i ≡ u → ⊥) → g i ≡ f i) → count_below k g ≡ count_below k f + 1
unfolding count_below
count_more zero u f g l p q h = absurd (omega arith)
count_more (suc k) u f g l p q h = elim (cases_eq u k) [
  | inl e ↦ (let x : ◌≡◌ {A = ℕ} (cond (g k) 1 0) 1 = ap (λ b. cond b 1 0) (sym (ap g e) ∙ q) in
      let y : ◌≡◌ {A = ℕ} (cond (f k) 1 0) 0 = ap (λ b. cond b 1 0) (sym (ap f e) ∙ p) in
      omega (arith, x, y, count_same k f g (λ i m. h i (omega arith) (λ s. omega arith))))
  | inr e ↦ (let x : ◌≡◌ {A = ℕ} (cond (g k) 1 0) (cond (f k) 1 0) = ap (λ b. cond b 1 0) (h k (omega arith) (λ s. e (sym s))) in
      omega (arith, x, count_more k u f g (omega arith) p q (λ i m. h i (omega arith))))
]

-- what passes f passes g
one_within : (b c : Bool) → (b ≡ true → c ≡ true) → cond b 1 0 ≤ cond c 1 0
one_within true c h = rw (h refl) (omega arith)
one_within false c h = omega arith

pub count_within : (k : ℕ) (f g : ℕ → Bool) → ((i : ℕ) → i < k → f i ≡ true → g i ≡ true) → count_below k f ≤ count_below k g
unfolding count_below
count_within zero f g h = omega arith
count_within (suc k) f g h = omega (arith, count_within k f g (λ i l. h i (omega arith)), one_within (f k) (g k) (h k (omega arith)))

-- and u passes g alone
pub count_less : (k u : ℕ) (f g : ℕ → Bool) → u < k → f u ≡ false → g u ≡ true → ((i : ℕ) → i < k → f i ≡ true → g i ≡ true) → count_below k f < count_below k g
unfolding count_below
count_less zero u f g l p q h = absurd (omega arith)
count_less (suc k) u f g l p q h = elim (cases_eq u k) [
  | inl e ↦ (let x : ◌≡◌ {A = ℕ} (cond (f k) 1 0) 0 = ap (λ b. cond b 1 0) (sym (ap f e) ∙ p) in
      let y : ◌≡◌ {A = ℕ} (cond (g k) 1 0) 1 = ap (λ b. cond b 1 0) (sym (ap g e) ∙ q) in
      omega (arith, x, y, count_within k f g (λ i m. h i (omega arith))))
  | inr e ↦ omega (arith, count_less k u f g (omega arith) p q (λ i m. h i (omega arith)), one_within (f k) (g k) (h k (omega arith)))
]

-- where one doesn't pass, they are fewer than all
pub count_short : (k u : ℕ) (f : ℕ → Bool) → u < k → f u ≡ false → count_below k f < k
count_short k u f l p = omega (arith, count_less k u f (λ i. true) l p refl (λ i m t. refl), count_most k (λ i. true))
