-- Fading at one place, in the words of a turn: the last places of its ball, from behind. Assumes nothing.
use Rattle.std.proofs.Common.{◌≡◌, ℕ, ◌+◌, ◌-◌, ◌<◌, ◌≤◌, List, All, length, get_or, set, reverse, take, sym, ap, ◌∙◌, subst, arith}
use Rattle.distances.specs.Orders.{Sorted}
use Rattle.choosing.specs.Tables.{between01}
use Rattle.choosing.specs.Turns.{Ball}
use Rattle.choosing.specs.declared.turn.Turn.{Turn}
use Rattle.choosing.proofs.Gathers.{far, seq, to, ball}
use Rattle.choosing.proofs.Ordering.{sorted_at}
use Rattle.choosing.proofs.Ranges.{Fades, fades_more, fades_end, fades_few, outside, length-outside, outside_turn, outside_stop}

-- k places from behind have lost one more
abbrev pub Fading-at : Turn → ℕ → ℕ → ℕ → List ℕ → List ℕ → Type 0
Fading-at t v from k before lost = Fades t.map.rows.n (far t v) (seq t v) from (ball t v) (ball t v - k) before lost

module _ (t : Turn) (v : ℕ) (there : v < t.map.rows.n) (from : ℕ) where
  abbrev n : ℕ
  n = t.map.rows.n

  s : Sorted n (far t v) (seq t v)
  s = sorted_at t.map v there

  b : Ball n (far t v) (seq t v) (to t v) (ball t v)
  b = t.ball_is v there

  module _ (row order : List ℕ) (is : (u : ℕ) → u < n → get_or row u 0 ≡ far t v u) (long : length order ≡ ball t v) (first : (j : ℕ) → j < ball t v → get_or order j 0 ≡ seq t v j) (before lost : List ℕ) (k : ℕ) (f : Fading-at t v from k before lost) where
    abbrev pub rest : List ℕ
    rest = take (outside from row order) (reverse order)

    few : length order ≤ n
    few = omega (arith, b.few)

    at : (j : ℕ) → j < length order → get_or order j 0 ≡ seq t v j
    at j h = first j (omega arith)

    module _ (u : ℕ) (turn : (k < length rest) × (u ≡ get_or rest k u)) where
      here : (k < ball t v) × (u ≡ seq t v (ball t v - k - 1)) × (from ≤ far t v u)
      here =
          let w = outside_turn n (far t v) (seq t v) s from row order few is at k u turn.0 turn.1 in
          (omega (arith, w.0), w.1 ∙ ap (λ m. seq t v (m - k - 1)) long, w.2)

      -- a place still to come has lost no more than before
      pub fading_room : All (λ x. x ≤ 512) before → length before ≡ n → get_or lost u 0 ≤ 512
      fading_room low ln =
          let e = here.1 in
          subst (λ i. get_or lost i 0 ≤ 512) (sym e) (fades_few n (far t v) (seq t v) s from (ball t v) (ball t v - k) b.few before lost f (omega (arith, here.0)) (λ i h. low i 0 (omega arith)))

      pub fading_goes : (m : ℕ) → m ≡ k + 1 → length lost ≡ n → Fading-at t v from m before (set lost u (get_or lost u 0 + 1))
      fading_goes m e ln =
          let i : ball t v - k - 1 ≡ ball t v - m = omega arith in
          let step = fades_more n (far t v) (seq t v) s from (ball t v) (ball t v - k) b.few before lost f (omega (arith, here.0)) ln (subst (λ x. from ≤ far t v x) here.1 here.2) in
          subst (λ j. Fades n (far t v) (seq t v) from (ball t v) j before (set lost u (get_or lost u 0 + 1))) i
          (subst (λ x. Fades n (far t v) (seq t v) from (ball t v) (ball t v - k - 1) before (set lost x (get_or lost x 0 + 1))) (sym here.1) step)

    pub fading_ends : k ≡ length rest → (u : ℕ) → u < n → get_or lost u 0 ≡ get_or before u 0 + between01 from (to t v) (far t v u)
    fading_ends e =
        fades_end n (far t v) (seq t v) s from (ball t v) (ball t v - k) b.few before lost f
        (λ i h. outside_stop n (far t v) (seq t v) s from row order few is at i (omega (arith, e, length-outside from row order)))
        (to t v) b
