-- A search for a place: where places rise, those up to a lower one are lower, and those from a higher one on are higher. Assumes nothing.
use Rattle.std.proofs.Common.{◌≡◌, ℕ, ◌+◌, ◌<◌, ◌≤◌, List, length, get_or, None, ap, ◌∙◌, inl, inr, arith}
use Rattle.std.specs.List.{AllWithin, HoldsAt}
use Rattle.std.specs.List.Sorted.{IsNonDecreasingBy}
use Rattle.std.proofs.lemmas.Bool.{cases_lt}
use Rattle.maps.specs.Sought.{Sought}

-- what of the list is still in question: it stands from `low` to before `high`
abbrev pub Halved : {T : Type 0} → (T → ℕ) → List T → ℕ → ℕ → ℕ → Type 0
Halved stands xs q low high = IsNonDecreasingBy stands xs → AllWithin (λ y. stands y < q) xs 0 low × AllWithin (λ y. q < stands y) xs high (length xs)

module _ {T : Type 0} (stands : T → ℕ) (xs : List T) (q : ℕ) where
  pub halved_whole : Halved stands xs q 0 (length xs)
  halved_whole rise = (λ k d a b. absurd (omega arith), λ k d a b. absurd (omega arith))

  pub halved_low : (low high i : ℕ) → i < length xs → Halved stands xs q low high → HoldsAt (λ y. stands y < q) xs i → Halved stands xs q (i + 1) high
  halved_low low high i h halves l rise = (λ k d a b. omega (arith, rise k i d (omega arith) h, l d), (halves rise).1)

  pub halved_high : (low high i : ℕ) → Halved stands xs q low high → HoldsAt (λ y. q < stands y) xs i → Halved stands xs q low i
  halved_high low high i halves l rise = ((halves rise).0, λ k d a b. omega (arith, rise i k d a b, l d))

  -- nothing is left, or one that is for another place
  pub halved_none : (low high : ℕ) → high ≤ low + 1 → (low < high → HoldsAt (λ y. stands y ≡ q → ⊥) xs low) → Halved stands xs q low high → Sought stands xs q None
  halved_none low high h last halves rise k d a b e = elim (cases_lt k low) [
    | inl lt ↦ omega (arith, (halves rise).0 k d a lt)
    | inr ge ↦ elim (cases_lt k high) [
      | inr past ↦ omega (arith, (halves rise).1 k d past b)
      | inl lt ↦ last (omega arith) d (ap (λ i. stands (get_or xs i d)) (omega arith) ∙ e)
    ]
  ]
