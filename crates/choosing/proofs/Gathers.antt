-- Gathering what is lost at one place, in the words of a turn. Assumes nothing.
use Rattle.std.proofs.Common.{◌≡◌, ℕ, ◌+◌, ◌-◌, ◌<◌, ◌≤◌, Bool, true, false, cond, List, length, get_or, set, sym, refl, ap, ◌∙◌, subst, arith}
use Rattle.std.specs.Int.{from_bool}
use Rattle.distances.specs.Orders.{Sorted, in_order}
use Rattle.choosing.specs.Choosing.{sum_below}
use Rattle.choosing.specs.Tables.{apart, loss_at, weight}
use Rattle.choosing.specs.Turns.{Ball}
use Rattle.choosing.specs.declared.turn.Turn.{Turn}
use Rattle.choosing.proofs.Ordering.{sorted_at}
use Rattle.choosing.proofs.Totals.{Gathering, under, gathering_start, gathering_more, gathering_end, closer_most, passed_most, next_closer, same_closer, same_last}

pub weight_of : (hot : List Bool) (u : ℕ) → from_bool (get_or hot u false) ≡ weight hot u
weight_of hot u = byte (get_or hot u false)
  where
    byte : (b : Bool) → ◌≡◌ {A = ℕ} (from_bool b) (cond b 1 0)
    byte true = refl
    byte false = refl

pub weight_small : (hot : List Bool) (u : ℕ) → from_bool (get_or hot u false) ≤ 1
weight_small hot u = small (get_or hot u false)
  where
    small : (b : Bool) → from_bool b ≤ 1
    small true = omega arith
    small false = omega arith

module _ (t : Turn) (v : ℕ) where
  abbrev pub far : ℕ → ℕ
  far = apart t.map.rows.n t.map.rows.dist.now v

  abbrev pub seq : ℕ → ℕ
  seq = in_order t.map.rows.n t.map.rows.order.now v

  abbrev pub to : ℕ
  to = get_or t.away.now v 0

  abbrev pub ball : ℕ
  ball = get_or t.ball.now v 0

  abbrev pub Gathers : List Bool → ℕ → ℕ → ℕ → ℕ → List ℕ → List ℕ → Type 0
  Gathers hot j passed closer last before total = Gathering t.map.rows.n far (weight hot) to seq ball j passed closer last before total

module _ (t : Turn) (v : ℕ) (there : v < t.map.rows.n) (hot : List Bool) where
  abbrev n : ℕ
  n = t.map.rows.n

  s : Sorted n (far t v) (seq t v)
  s = sorted_at t.map v there

  b : Ball n (far t v) (seq t v) (to t v) (ball t v)
  b = t.ball_is v there

  pub gathers_start : (before : List ℕ) → Gathers t v hot 0 0 0 0 before before
  gathers_start before = gathering_start n (far t v) (weight hot) (to t v) (seq t v) s (ball t v) before

  module _ (j passed closer last : ℕ) (before total : List ℕ) (g : Gathers t v hot j passed closer last before total) (all : ℕ) (is : all ≡ sum_below (ball t v) (λ i. weight hot (seq t v i))) where
    -- what is taken off is no more than all
    pub closer_fits : closer ≤ all
    closer_fits = omega (arith, closer_most n (far t v) (weight hot) (to t v) (seq t v) s (ball t v) b j passed closer last before total g closer last g.closer_low g.last_most)

    pub passed_fits : passed ≤ all
    passed_fits = omega (arith, passed_most n (far t v) (weight hot) (to t v) (seq t v) s (ball t v) b j passed closer last before total g)

    module _ (jb : j < ball t v) (u f h x y : ℕ) (here : u ≡ seq t v j) (fu : f ≡ far t v u) (hu : h ≡ weight hot u) (few : all ≤ 512) (long : length total ≡ n) where
      more : x ≤ under n (far t v) (weight hot) (to t v) (far t v (seq t v j)) → y ≡ far t v (seq t v j) → Gathers t v hot (j + 1) (passed + h) x y before (set total u (get_or total u 0 + (all - x)))
      more below e =
          subst (λ k. Gathers t v hot (j + 1) (passed + k) x y before (set total u (get_or total u 0 + (all - x)))) (sym (hu ∙ ap (weight hot) here))
          (subst (λ k. Gathers t v hot (j + 1) (passed + weight hot (seq t v j)) x y before (set total k (get_or total k 0 + (all - x)))) (sym here)
          (gathering_more n (far t v) (weight hot) (to t v) (seq t v) s (ball t v) b j passed closer last before total g jb x y all below e is few long))

      -- the place is farther than the last one, or as far
      pub gathers_far : last < f → x ≡ passed → y ≡ f → Gathers t v hot (j + 1) (passed + h) x y before (set total u (get_or total u 0 + (all - x)))
      gathers_far lt ex ey =
          let at : f ≡ far t v (seq t v j) = fu ∙ ap (far t v) here in
          more (omega (arith, next_closer n (far t v) (weight hot) (to t v) (seq t v) s (ball t v) b j passed closer last before total g jb (omega arith))) (ey ∙ at)

      pub gathers_same : f ≤ last → x ≡ closer → y ≡ last → Gathers t v hot (j + 1) (passed + h) x y before (set total u (get_or total u 0 + (all - x)))
      gathers_same le ex ey =
          let at : f ≡ far t v (seq t v j) = fu ∙ ap (far t v) here in
          more (omega (arith, same_closer n (far t v) (weight hot) (to t v) (seq t v) s (ball t v) b j passed closer last before total g jb (omega arith)))
          (ey ∙ same_last n (far t v) (weight hot) (to t v) (seq t v) s (ball t v) b j passed closer last before total g jb (omega arith))

    pub gathers_end : j ≡ ball t v → (c : ℕ) → c < n → (get_or before c 0 + loss_at n t.map.rows.dist.now t.away.now (weight hot) v c ≤ get_or total c 0) × (get_or total c 0 ≤ get_or before c 0 + 512)
    gathers_end e = gathering_end n (far t v) (weight hot) (to t v) (seq t v) s (ball t v) b j passed closer last before total g e
