-- A test on place 0 tells whether a map hangs together. Assumes nothing.
use Rattle.std.proofs.Common.{◌≡◌, ℕ, zero, suc, ◌<◌, Bool, true, false, refl, ap, ◌∙◌, inl, inr, arith}
use Rattle.std.proofs.lemmas.Bool.{cases_eq, and_parts, and_from, both_ways}
use Rattle.ways.specs.Map.{Far, Never, At, far, some}
use Rattle.ways.specs.Ways.{all_below}
use Rattle.ways.specs.Laws.{HangingTogether}
use Rattle.ways.proofs.Metric.{joined_by_one}

-- ---- `all_below`
pub all_at : (k : ℕ) (f : ℕ → Bool) → all_below k f ≡ true → (i : ℕ) → i < k → f i ≡ true
unfolding all_below
all_at zero f h i l = absurd (omega arith)
all_at (suc k) f h i l =
    let p = and_parts (f k) (all_below k f) h in
    elim (cases_eq i k) [ inl e ↦ ap f e ∙ p.0 | inr e ↦ all_at k f p.1 i (omega arith) ]

pub all_from : (k : ℕ) (f : ℕ → Bool) → ((i : ℕ) → i < k → f i ≡ true) → all_below k f ≡ true
unfolding all_below
all_from zero f h = refl
all_from (suc k) f h = and_from (f k) (all_below k f) (h k (omega arith)) (all_from k f (λ i l. h i (omega arith)))

-- ---- a distance that is there
pub some_at : (x : Far) → some x ≡ true → (c : ℕ) × (x ≡ At c)
some_at Never h = absurd (both_ways false refl h)
some_at (At c) h = (c, refl)

pub at_some : (x : Far) (c : ℕ) → x ≡ At c → some x ≡ true
at_some x c e = ap some e

pub hanging_together : HangingTogether
hanging_together z both pos = (
  (λ h. joined_by_one z 0 both pos (λ a l. some_at (far z 0 a) (all_at z.n (λ a. some (far z 0 a)) h a l))),
  (λ j. all_from z.n (λ a. some (far z 0 a)) (λ a l. let r = j 0 a pos l in at_some (far z 0 a) r.0 r.1)),
)
