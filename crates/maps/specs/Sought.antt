-- What a search for a place answers, in a list of what stands there by its place. Assumes nothing.
use Rattle.std.specs.Prelude.{◌≡◌, ℕ, ◌<◌, List, length, Option, MatchOption}
use Rattle.std.specs.List.{AllWithin, HoldsAt}
use Rattle.std.specs.List.Sorted.{IsNonDecreasingBy}

-- where one for a place stands; it is none only where no one is for it, or the places don't rise
abbrev pub Sought : {T : Type 0} → (T → ℕ) → List T → ℕ → Option ℕ → Type 0
Sought stands xs q r = MatchOption r (IsNonDecreasingBy stands xs → AllWithin (λ y. stands y ≡ q → ⊥) xs 0 (length xs)) (λ i. (i < length xs) × HoldsAt (λ y. stands y ≡ q) xs i)
