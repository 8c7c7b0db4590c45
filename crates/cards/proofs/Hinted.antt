-- The hint of a card, from the numbers that the code looks up. Assumes nothing.
use Rattle.std.proofs.Common.{◌≡◌, ℕ, ◌<◌, ◌≤◌, Bool, cond, sym, refl, ap, ◌∙◌, arith}
use Rattle.std.proofs.lemmas.Bool.{ne_eqb}
use Rattle.cards.specs.Cards.{hint_from, hint_of}
use Rattle.cards.specs.declared.kinds.Hint.TheVariants.{Next, Unneeded}
use Rattle.distances.proofs.Surveyed.{chosen_in}
use Rattle.distances.specs.Rows.{hop_number}
use Rattle.distances.specs.Surveys.{hop_in}
use Rattle.landmarks.proofs.Closest.{nearest_is}
use Rattle.landmarks.specs.Landmarks.{Is, Mark, Marks, NoMark, mark_of, place_of}
use Rattle.landmarks.specs.Numbers.{mark_number}
use Rattle.ways.proofs.NextPlaces.{next_place}
use Rattle.ways.specs.Map.{Far, Hop, Map, Nowhere, To, hop}

number_hint : (h : Hop) → ((e : ℕ) → h ≡ To e → e < 65535) → hint_from (hop_number h) ≡ hint_of h
number_hint Nowhere f = refl
number_hint (To e) f = ap (λ (b : Bool). cond b Unneeded (Next e)) (ne_eqb e 65535 (λ s. omega (arith, f e refl)))

pub place_number : (M : Mark) → (mark_number M).place ≡ place_of M
place_number NoMark = refl
place_number (Is m a) = refl

place_below : (n : ℕ) (M : Mark) → 0 < n → ((m : ℕ) (a : Far) → M ≡ Is m a → m < n) → place_of M < n
place_below n NoMark p h = p
place_below n (Is m a) p h = h m a refl

module _ (z : Map) (l : Marks) (v : ℕ) (some : 0 < z.n) (few : z.n ≤ 512) (vn : v < z.n) where
  at_below : place_of (mark_of z l v) < z.n
  at_below = place_below z.n (mark_of z l v) some (λ m a e. (nearest_is z l v z.n m a e).0)

  pub hint_is : hint_from (hop_in z v (place_of (mark_of z l v))) ≡ hint_of (hop z v (place_of (mark_of z l v)))
  hint_is =
      ap hint_from (sym (chosen_in z.n v (place_of (mark_of z l v)) (hop_number (hop z v (place_of (mark_of z l v)))) 65535 vn at_below))
      ∙ number_hint (hop z v (place_of (mark_of z l v))) (λ e h. omega (arith, few, ((next_place z v (place_of (mark_of z l v)) vn at_below).closer e h).there))
