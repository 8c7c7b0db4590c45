-- Landmarks in rising order are the places that are left by a filter; how many there are. Assumes nothing.
use Rattle.std.proofs.Common.{◌≡◌, ℕ, zero, suc, ◌+◌, ◌≤◌, cond, List, ◌∷◌, filter, length, refl, ap, inl, inr, arith}
use Rattle.std.proofs.lemmas.Bool.{cases_Bool}
use Rattle.std.specs.List.{range_with_len}
use Rattle.landmarks.specs.Landmarks.{Marks}
use Rattle.plans.specs.Plans.{marked}

module _ (l : Marks) where
  pub marked_is : (a k : ℕ) → marked l a k ≡ filter l (range_with_len a k)
  unfolding marked
  marked_is a zero = refl
  marked_is a (suc k) = ap (λ (xs : List ℕ). cond (l a) (a ∷ xs) xs) (marked_is (a + 1) k)

  -- no more than places
  pub marked_few : (k a : ℕ) → length (marked l a k) ≤ k
  unfolding marked
  marked_few zero a = omega arith
  marked_few (suc k) a = elim (cases_Bool (l a)) [ inl t ↦ rw t (omega (arith, marked_few k (a + 1))) | inr t ↦ rw t (omega (arith, marked_few k (a + 1))) ]
