-- What a landmark would take away at posts that count: added up over an order, and a bound below the lines that it leaves. Assumes nothing.
--
-- Glossary
--   w        how much each post counts
--   ring     what counts from a distance on and before another
--   under    what counts before a distance
use Rattle.std.proofs.Common.{◌≡◌, ℕ, zero, suc, ◌+◌, ◌-◌, ◌<◌, ◌≤◌, Bool, true, false, cond, ◌&&◌, ltb, leb, ◌≢◌, List, length, get_or, set, sym, refl, ap, ◌∙◌, subst, inl, inr, arith, get_or-set_other, get_or-set_same}
use Rattle.std.proofs.lemmas.Bool.{cases_lt, cases_eq, lt-ltb, le-ltb, le-leb, lt-leb}
use Rattle.distances.specs.Orders.{Sorted}
use Rattle.ways.specs.Map.{Map}
use Rattle.ways.specs.Ways.{count_below}
use Rattle.landmarks.specs.Landmarks.{Marks}
use Rattle.choosing.specs.Choosing.{sum_below, above, with_mark}
use Rattle.choosing.specs.Tables.{apart, Aways, Nears, lost_below, loss_at, Bounds, Hots, over_below, weight}
use Rattle.choosing.specs.Turns.{Ball}
use Rattle.choosing.proofs.Sums.{sum_more, sum_zero, sum_same, sum_within, sum_none, sum_plus, sum_swap, count_sum, permuted, left_least}
use Rattle.choosing.proofs.Losses.{judged_lost}

-- a sum of which only the first k count
sum_front : (n k : ℕ) (f g : ℕ → ℕ) → k ≤ n → ((i : ℕ) → i < k → f i ≡ g i) → ((i : ℕ) → k ≤ i → i < n → f i ≡ 0) → sum_below n f ≡ sum_below k g
sum_front zero k f g kn same rest = let e : k ≡ 0 = omega arith in sum_zero f ∙ sym (ap (λ y. sum_below y g) e ∙ sum_zero g)
sum_front (suc n) k f g kn same rest = elim (cases_eq k (suc n)) [
  | inl e ↦ sum_same (suc n) f g (λ i h. same i (omega arith)) ∙ ap (λ y. sum_below y g) (sym e)
  | inr ne ↦ (let s : suc n ≡ n + 1 = omega arith in
      ap (λ y. sum_below y f) s ∙ sum_more n f ∙ omega (arith, rest n (omega arith) (omega arith), sum_front n k f g (omega arith) same (λ i p q. rest i p (omega arith))))
]

-- the first k are at most all
sum_part : (n k : ℕ) (f g : ℕ → ℕ) → k ≤ n → ((i : ℕ) → i < k → f i ≤ g i) → sum_below k f ≤ sum_below n g
unfolding sum_below
sum_part zero k f g kn h = let e : k ≡ 0 = omega arith in omega (arith, ap (λ y. sum_below y f) e)
sum_part (suc n) k f g kn h = elim (cases_eq k (suc n)) [
  | inl e ↦ rw e (sum_within (suc n) f g (λ i l. h i (omega arith)))
  | inr ne ↦ omega (arith, sum_part n k f g (omega arith) h)
]

module _ (n : ℕ) (far w : ℕ → ℕ) (to : ℕ) where
  abbrev pub ring : ℕ → ℕ
  ring low = sum_below n (λ u. cond (leb low (far u) && ltb (far u) to) (w u) 0)

  abbrev pub under : ℕ → ℕ
  under x = sum_below n (λ u. cond (ltb (far u) x) (w u) 0)

  under_rises : (x y : ℕ) → x ≤ y → under x ≤ under y
  under_rises x y h = sum_within n (λ u. cond (ltb (far u) x) (w u) 0) (λ u. cond (ltb (far u) y) (w u) 0) (λ u un. one u)
    where
      one : (u : ℕ) → cond (ltb (far u) x) (w u) 0 ≤ cond (ltb (far u) y) (w u) 0
      one u = elim (cases_lt (far u) x) [
        | inl p ↦ rw (lt-ltb (far u) x p, lt-ltb (far u) y (omega arith)) (omega arith)
        | inr p ↦ rw (le-ltb (far u) x p) (omega arith)
      ]

  -- what counts before `to` is the ring and what counts before it
  ring_is : (low : ℕ) → low ≤ to → under to ≡ ring low + under low
  ring_is low h =
      sum_same n (λ u. cond (ltb (far u) to) (w u) 0) (λ u. cond (leb low (far u) && ltb (far u) to) (w u) 0 + cond (ltb (far u) low) (w u) 0) (λ u un. one u)
      ∙ sum_plus n (λ u. cond (leb low (far u) && ltb (far u) to) (w u) 0) (λ u. cond (ltb (far u) low) (w u) 0)
    where
      one : (u : ℕ) → cond (ltb (far u) to) (w u) 0 ≡ cond (leb low (far u) && ltb (far u) to) (w u) 0 + cond (ltb (far u) low) (w u) 0
      one u = elim (cases_lt (far u) low) [
        | inl p ↦ rw (lt-leb low (far u) p, lt-ltb (far u) low p, lt-ltb (far u) to (omega arith)) (omega arith)
        | inr p ↦ rw (le-leb low (far u) p, le-ltb (far u) low p) (omega arith)
      ]

  ring_none : (low : ℕ) → to ≤ low → ring low ≡ 0
  ring_none low h = sum_none n (λ u. cond (leb low (far u) && ltb (far u) to) (w u) 0) (λ u un. elim (cases_lt (far u) low) [
    | inl p ↦ rw (lt-leb low (far u) p) refl
    | inr p ↦ rw (le-leb low (far u) p, le-ltb (far u) to (omega arith)) refl
  ])

  -- j places of the ball are gone through: `passed` of them count; `closer` are strictly closer than `last`, the distance of the last one
  pub record Gathering (seq : ℕ → ℕ) (ball j passed closer last : ℕ) (before total : List ℕ) : Type 0 where
    pub low : j ≤ ball
    pub sums : passed ≡ sum_below j (λ i. w (seq i))
    pub behind : (i : ℕ) → i < j → far (seq i) ≤ last
    pub ahead : (i : ℕ) → j ≤ i → i < n → last ≤ far (seq i)
    pub last_most : last ≤ to
    pub closer_low : closer ≤ under last
    pub gained : (i : ℕ) → i < j → (get_or before (seq i) 0 + ring (far (seq i)) ≤ get_or total (seq i) 0) × (get_or total (seq i) 0 ≤ get_or before (seq i) 0 + 512)
    pub kept : (i : ℕ) → j ≤ i → i < n → get_or total (seq i) 0 ≡ get_or before (seq i) 0

  module _ (seq : ℕ → ℕ) (s : Sorted n far seq) where
    -- in the order
    under_seq : (x : ℕ) → under x ≡ sum_below n (λ i. cond (ltb (far (seq i)) x) (w (seq i)) 0)
    under_seq x = sym (permuted n far seq (λ u. cond (ltb (far u) x) (w u) 0) s)

    -- all of the ball
    pub ball_under : (ball : ℕ) → Ball n far seq to ball → sum_below ball (λ i. w (seq i)) ≡ under to
    ball_under ball b = sym (under_seq to
        ∙ sum_front n ball (λ i. cond (ltb (far (seq i)) to) (w (seq i)) 0) (λ i. w (seq i)) b.few
        (λ i h. ap (λ t. cond t (w (seq i)) 0) (lt-ltb (far (seq i)) to (b.inner i h)))
        (λ i p q. ap (λ t. cond t (w (seq i)) 0) (le-ltb (far (seq i)) to (b.outer i p q))))

    -- the first j of the order, which are closer than x
    front_under : (j x : ℕ) → j ≤ n → ((i : ℕ) → i < j → far (seq i) < x) → sum_below j (λ i. w (seq i)) ≤ under x
    front_under j x h near = omega (
      arith,
      under_seq x,
      sum_part n j (λ i. w (seq i)) (λ i. cond (ltb (far (seq i)) x) (w (seq i)) 0) h (λ i l. (let e : cond (ltb (far (seq i)) x) (w (seq i)) 0 ≡ w (seq i) = ap (λ t. cond t (w (seq i)) 0) (lt-ltb (far (seq i)) x (near i l)) in omega arith)),
    )

    pub gathering_start : (ball : ℕ) (before : List ℕ) → Gathering seq ball 0 0 0 0 before before
    gathering_start ball before = record {
      low = omega arith;
      sums = sym (sum_zero (λ i. w (seq i)));
      behind = λ i h. absurd (omega arith);
      ahead = λ i p q. omega arith;
      last_most = omega arith;
      closer_low = omega arith;
      gained = λ i h. absurd (omega arith);
      kept = λ i p q. refl;
    }

    module _ (ball : ℕ) (b : Ball n far seq to ball) (j passed closer last : ℕ) (before total : List ℕ) (g : Gathering seq ball j passed closer last before total) where
      -- what is closer is at most all
      pub closer_most : (x y : ℕ) → x ≤ under y → y ≤ to → x ≤ sum_below ball (λ i. w (seq i))
      closer_most x y h l = omega (arith, ball_under ball b, under_rises y to l)

      -- so is what was passed
      pub passed_most : passed ≤ sum_below ball (λ i. w (seq i))
      passed_most = omega (arith, g.sums, sum_part ball j (λ i. w (seq i)) (λ i. w (seq i)) g.low (λ i h. omega arith))

      module _ (jb : j < ball) where
        pub jn : j < n
        jn = omega (arith, b.few)

        -- the next place is farther than the last: all that was passed is closer
        pub next_closer : last < far (seq j) → passed ≤ under (far (seq j))
        next_closer h = omega (arith, g.sums, front_under j (far (seq j)) (omega (arith, jn)) (λ i l. omega (arith, g.behind i l)))

        -- it isn't: then it is as far
        pub same_last : far (seq j) ≤ last → last ≡ far (seq j)
        same_last h = omega (arith, g.ahead j (omega arith) jn)

        pub same_closer : far (seq j) ≤ last → closer ≤ under (far (seq j))
        same_closer h = omega (arith, g.closer_low, ap under (same_last h))

        other : (i : ℕ) → i < n → (i ≡ j → ⊥) → seq i ≢ seq j
        other i h ne e = ne (sym (s.forth i h) ∙ ap s.at e ∙ s.forth j jn)

        pub gathering_more : (x y all : ℕ) → x ≤ under (far (seq j)) → y ≡ far (seq j) → all ≡ sum_below ball (λ i. w (seq i)) → all ≤ 512 → length total ≡ n
            → Gathering seq ball (j + 1) (passed + w (seq j)) x y before (set total (seq j) (get_or total (seq j) 0 + (all - x)))
        gathering_more x y all hx hy ha hs ln = record {
          low = omega arith;
          sums = omega (arith, g.sums, sum_more j (λ i. w (seq i)));
          behind = λ i h. elim (cases_eq i j) [ inl e ↦ omega (arith, ap (λ k. far (seq k)) e) | inr ne ↦ omega (arith, s.rises i j (omega arith) jn) ];
          ahead = λ i p q. omega (arith, s.rises j i (omega arith) q);
          last_most = omega (arith, b.inner j jb);
          closer_low = omega (arith, ap under hy);
          gained = λ i h. elim (cases_eq i j) [
            | inl e ↦ subst (λ k. (get_or before (seq k) 0 + ring (far (seq k)) ≤ get_or new (seq k) 0) × (get_or new (seq k) 0 ≤ get_or before (seq k) 0 + 512)) (sym e)
                (omega (arith, here, g.kept j (omega arith) jn, ring_is (far (seq j)) (omega (arith, b.inner j jb)), ball_under ball b), omega (arith, here, g.kept j (omega arith) jn))
            | inr ne ↦ (let o = g.gained i (omega arith) in let k = there i (omega (arith, jn)) ne in (omega (arith, o.0), omega (arith, o.1)))
          ];
          kept = λ i p q. there i q (λ e. omega arith) ∙ g.kept i (omega arith) q;
        }
          where
            new : List ℕ
            new = set total (seq j) (get_or total (seq j) 0 + (all - x))

            here : get_or new (seq j) 0 ≡ get_or total (seq j) 0 + (all - x)
            here = get_or-set_same total (seq j) (get_or total (seq j) 0 + (all - x)) 0 (omega (arith, s.inside j jn))

            there : (i : ℕ) → i < n → (i ≡ j → ⊥) → get_or new (seq i) 0 ≡ get_or total (seq i) 0
            there i h ne = get_or-set_other total (seq j) (seq i) (get_or total (seq j) 0 + (all - x)) 0 (other i h ne)

      -- the whole ball is gone through; what is outside of it takes nothing away
      pub gathering_end : j ≡ ball → (c : ℕ) → c < n → (get_or before c 0 + ring (far c) ≤ get_or total c 0) × (get_or total c 0 ≤ get_or before c 0 + 512)
      gathering_end e c cn = subst (λ y. (get_or before y 0 + ring (far y) ≤ get_or total y 0) × (get_or total y 0 ≤ get_or before y 0 + 512)) (s.back c cn)
          (elim (cases_lt (s.at c) ball) [
            | inl p ↦ g.gained (s.at c) (omega arith)
            | inr p ↦ (let k = g.kept (s.at c) (omega arith) (s.at_inside c cn) in
                (omega (arith, ring_none (far (seq (s.at c))) (b.outer (s.at c) p (s.at_inside c cn))), omega arith))
          ])

-- ---- all balls, and the bound
module _ (n : ℕ) (table away : List ℕ) (w : ℕ → ℕ) (c : ℕ) where
  pub losses_zero : sum_below 0 (λ v. loss_at n table away w v c) ≡ 0
  losses_zero = sum_zero (λ v. loss_at n table away w v c)

  pub losses_more : (v : ℕ) → sum_below (v + 1) (λ v. loss_at n table away w v c) ≡ sum_below v (λ v. loss_at n table away w v c) + loss_at n table away w v c
  losses_more v = sum_more v (λ v. loss_at n table away w v c)

-- what is lost in all at the posts that count is what each place loses there
module _ (n : ℕ) (table away : List ℕ) (c : ℕ) (cn : c < n) (both : (v u : ℕ) → v < n → u < n → apart n table v u ≡ apart n table u v) (hot : ℕ → Bool) (w : ℕ → ℕ)
    (ws : (u : ℕ) → u < n → w u ≡ cond (hot u) 1 0) where
  one : (u v : ℕ) → u < n → v < n
      → ◌≡◌ {A = ℕ} (cond (hot u) (cond (leb (apart n table c v) (apart n table v u) && ltb (apart n table v u) (get_or away v 0)) 1 0) 0)
      (cond (leb (apart n table v c) (apart n table v u) && ltb (apart n table v u) (get_or away v 0)) (w u) 0)
  one u v un vn = rw (ws u un, both c v cn vn) (swap (hot u) (leb (apart n table v c) (apart n table v u) && ltb (apart n table v u) (get_or away v 0)))
    where
      swap : (a b : Bool) → ◌≡◌ {A = ℕ} (cond a (cond b 1 0) 0) (cond b (cond a 1 0) 0)
      swap true true = refl
      swap true false = refl
      swap false true = refl
      swap false false = refl

  pick_out : (b : Bool) (m : ℕ) (f : ℕ → ℕ) → cond b (sum_below m f) 0 ≡ sum_below m (λ v. cond b (f v) 0)
  pick_out true m f = refl
  pick_out false m f = sym (sum_none m (λ v. 0) (λ x p. refl))

  pub losses_all : sum_below n (λ u. cond (hot u) (lost_below n table away c u n) 0) ≡ sum_below n (λ v. loss_at n table away w v c)
  losses_all =
      sum_same n (λ u. cond (hot u) (lost_below n table away c u n) 0)
      (λ u. sum_below n (λ v. cond (hot u) (cond (leb (apart n table c v) (apart n table v u) && ltb (apart n table v u) (get_or away v 0)) 1 0) 0))
      (λ u un. ap (λ x. cond (hot u) x 0) (count_sum n (λ v. leb (apart n table c v) (apart n table v u) && ltb (apart n table v u) (get_or away v 0)))
      ∙ pick_out (hot u) n (λ v. cond (leb (apart n table c v) (apart n table v u) && ltb (apart n table v u) (get_or away v 0)) 1 0))
      ∙ sum_same n (λ u. sum_below n (λ v. cond (hot u) (cond (leb (apart n table c v) (apart n table v u) && ltb (apart n table v u) (get_or away v 0)) 1 0) 0))
      (λ u. sum_below n (λ v. cond (leb (apart n table v c) (apart n table v u) && ltb (apart n table v u) (get_or away v 0)) (w u) 0))
      (λ u un. sum_same n (λ v. cond (hot u) (cond (leb (apart n table c v) (apart n table v u) && ltb (apart n table v u) (get_or away v 0)) 1 0) 0)
      (λ v. cond (leb (apart n table v c) (apart n table v u) && ltb (apart n table v u) (get_or away v 0)) (w u) 0) (λ v vn. one u v un vn))
      ∙ sum_swap n n (λ u v. cond (leb (apart n table v c) (apart n table v u) && ltb (apart n table v u) (get_or away v 0)) (w u) 0)

-- no candidate leaves fewer lines above room than all there are, but for what it takes away where they count
pub bounded : (z : Map) (l : Marks) (n : ℕ) (table away near : List ℕ) (hot : List Bool) (total : List ℕ) (count room c : ℕ) → Aways z l n table away → count_below n l ≡ count → l c ≡ false → c < n
    → Nears n table away near → Hots n near count room hot → Bounds n table away hot total
    → over_below near (count + 1) room n ≤ above z room (with_mark c l) + get_or total c 0
bounded z l n table away near hot total count room c a k f cn ns hs bs =
    omega (
      arith,
      left_least n (λ u. (count + 1 + get_or near u 0) - (room + 1)) (λ u. lost_below n table away c u n),
      sum_same n (λ u. cond (ltb 0 ((count + 1 + get_or near u 0) - (room + 1))) (lost_below n table away c u n) 0) (λ u. cond (ltb room (count + get_or near u 0)) (lost_below n table away c u n) 0) (λ u un. ap (λ t. cond t (lost_below n table away c u n) 0) (test u)),
      losses_all n table away c cn a.tabled.both (λ u. ltb room (count + get_or near u 0)) (weight hot) (λ u un. ap (λ b. cond b 1 0) (hs u un)),
      bs c cn,
      sum_same n (λ u. ((count + 1 + get_or near u 0) - (room + 1)) - lost_below n table away c u n) (λ u. (count + 1 + get_or near u 0) - (lost_below n table away c u n + (room + 1))) (λ u un. omega arith),
      judged_lost z l n table away near count room c a k f cn ns,
    )
  where
    test : (u : ℕ) → ltb 0 ((count + 1 + get_or near u 0) - (room + 1)) ≡ ltb room (count + get_or near u 0)
    test u = elim (cases_lt room (count + get_or near u 0)) [
      | inl p ↦ lt-ltb 0 ((count + 1 + get_or near u 0) - (room + 1)) (omega arith) ∙ sym (lt-ltb room (count + get_or near u 0) p)
      | inr p ↦ le-ltb 0 ((count + 1 + get_or near u 0) - (room + 1)) (omega arith) ∙ sym (le-ltb room (count + get_or near u 0) p)
    ]
