-- Lines whose places rise: each place is below all later ones, and the one line for a place is the line found. Assumes nothing.
use Rattle.std.proofs.Common.{Bor, MatchOption, Option, sym, ◌≡◌, ℕ, zero, suc, ◌-◌, ◌<◌, false, eqb, List, [], ◌∷◌, length, get_or, Some, None, refl, ap, ◌∙◌, inl, inr, add-one, arith}
use Rattle.std.proofs.lemmas.List.{length-take-le, get_or-take}
use Rattle.std.proofs.lemmas.Bool.{cases_eq, eq-eqb, ne_eqb, cond-true, cond-false}
use Rattle.std.proofs.lemmas.List.Sorted.{IsNonDecreasingBy-from_default}
use Rattle.std.specs.List.Sorted.{IsNonDecreasingBy}
use Rattle.std.specs.Option.{option_copied}
use Rattle.std.specs.List.{slice_get}
use Rattle.std.proofs.lemmas.Option.{get_or_from_slice_get, slice_get-get_or}
use Rattle.maps.specs.Sought.{Sought}
use Rattle.posts.specs.declared.kinds.Line.{Line}
use Rattle.posts.specs.declared.kinds.Post.{Post}
use Rattle.posts.specs.Posts.{told, find_in, place_at}

abbrev pub blank : Line
blank = record { place = 0; next = 0; near = false }

pub told_length : (p : Post) → length (told p) ≡ p.count
told_length p = length-take-le p.count p.lines (omega arith)

pub told_at : (p : Post) (k : ℕ) → k < p.count → place_at (told p) k ≡ place_at p.lines k
told_at p k h = ap (λ (x : Line). x.place) (get_or-take p.count p.lines k blank h)

rising_next : (p : Post) (j : ℕ) → suc j < p.count → place_at p.lines j < place_at p.lines (suc j)
rising_next p j h = rw add-one at (p.rising j (omega arith))

pub rising_below : (p : Post) (j i : ℕ) → i < j → j < p.count → place_at p.lines i < place_at p.lines j
rising_below p zero i ij jn = absurd (omega arith)
rising_below p (suc j) i ij jn = elim (cases_eq i j) [
  | inl e ↦ rw e (rising_next p j jn)
  | inr ne ↦ omega (arith, rising_below p j i (omega arith) (omega arith), rising_next p j jn)
]

-- the same of the lines as others see them
told_below : (p : Post) (j i : ℕ) → i < j → j < length (told p) → place_at (told p) i < place_at (told p) j
told_below p j i ij jn =
    let g : j < p.count = omega (arith, told_length p) in
    omega (arith, told_at p i (omega arith), told_at p j g, rising_below p j i ij g)

-- what is above the last place, if there is one, is above all
pub last_below : (p : Post) (q : ℕ) (last : Option (Bor Line)) → option_copied last ≡ slice_get (told p) (length (told p) - 1) → ((x : Bor Line) → last ≡ Some x → x.now.place < q)
    → (k : ℕ) → k < length (told p) → place_at (told p) k < q
last_below p q None e above k h =
    let s = slice_get-get_or (told p) (length (told p) - 1) blank (omega arith) in
    let z : ◌≡◌ {A = ℕ} 0 1 = cc in
    absurd (omega arith)
last_below p q (Some x) e above k h =
    let is : place_at (told p) (length (told p) - 1) ≡ x.now.place = ap (λ (y : Line). y.place) (get_or_from_slice_get (told p) (length (told p) - 1) x.now blank (sym e)) in
    elim (cases_eq k (length (told p) - 1)) [
      | inl same ↦ omega (arith, is, above x refl, ap (place_at (told p)) same)
      | inr ne ↦ omega (arith, is, above x refl, told_below p (length (told p) - 1) k (omega arith) (omega arith))
    ]

-- the line at i, where no earlier one is for that place
find_first : (q : ℕ) (xs : List Line) (i : ℕ) → i < length xs → ((k : ℕ) → k < i → place_at xs k ≡ q → ⊥) → place_at xs i ≡ q → find_in q xs ≡ Some (get_or xs i blank)
find_first q [] i h other e = absurd (omega arith)
find_first q (x ∷ xs) zero h other e = cond-true (eqb x.place q) (Some x) (find_in q xs) (eq-eqb x.place q e)
find_first q (x ∷ xs) (suc i) h other e =
    cond-false (eqb x.place q) (Some x) (find_in q xs) (ne_eqb x.place q (other 0 (omega arith)))
    ∙ find_first q xs i (omega arith) (λ k h'. other (suc k) (omega arith)) e

find_missing : (q : ℕ) (xs : List Line) → ((k : ℕ) → k < length xs → place_at xs k ≡ q → ⊥) → find_in q xs ≡ None
find_missing q [] other = refl
find_missing q (x ∷ xs) other =
    cond-false (eqb x.place q) (Some x) (find_in q xs) (ne_eqb x.place q (other 0 (omega arith)))
    ∙ find_missing q xs (λ k h. other (suc k) (omega arith))

-- a search by places ends at the line for a place, or finds that there is none
module _ (p : Post) (q : ℕ) where
  places_rise : IsNonDecreasingBy (λ (x : Line). x.place) (told p)
  places_rise = IsNonDecreasingBy-from_default (λ (x : Line). x.place) (told p) blank (λ i j le in_range. elim (cases_eq i j) [
    | inl e ↦ omega (arith, ap (place_at (told p)) e)
    | inr ne ↦ omega (arith, told_below p j i (omega arith) in_range)
  ])

  pub searched : (r : Option ℕ) → Sought (λ (x : Line). x.place) (told p) q r → MatchOption r (find_in q (told p) ≡ None) (λ i. find_in q (told p) ≡ Some (get_or (told p) i blank))
  searched None missing = find_missing q (told p) (λ k h. missing places_rise k blank (omega arith) h)
  searched (Some i) (in_range, at) = find_first q (told p) i in_range (λ k ki s. omega (arith, told_below p i k ki in_range, at blank)) (at blank)
