-- Losses as a range of an order. Assumes nothing.
use Rattle.std.proofs.Common.{◌≡◌, ℕ, ◌+◌, ◌-◌, ◌<◌, ◌≤◌, min, Bool, false, leb, ◌≢◌, List, length, get_or, set, replicate, reverse, take, sym, refl, ap, ◌∙◌, subst, inl, inr, arith, get_or-set_other, get_or-set_same}
use Rattle.std.proofs.lemmas.Bool.{cases_lt, cases_eq, lt-ltb, le-ltb, le-leb, lt-leb, leb-true, leb-false, and_right}
use Rattle.distances.specs.Orders.{Sorted, in_order}
use Rattle.choosing.specs.Tables.{apart, between01}
use Rattle.choosing.specs.Turns.{Ball, Outer, Balls, Outers}
use Rattle.std.proofs.lemmas.List.{get_or-replicate, get_or-reverse, get_or-take, length-reverse}
use Rattle.std.proofs.lemmas.List.Sums.{prefix_len-le-length, prefix_len_passes, prefix_len_stops}
use Rattle.std.proofs.lemmas.List.Folds.{length-prefix_len}
use Rattle.std.proofs.lemmas.Grind.{get_or_default_zero}
use Rattle.std.specs.List.{prefix_len}

between_in : (low high x : ℕ) → low ≤ x → x < high → between01 low high x ≡ 1
between_in low high x p q = rw (le-leb low x p, lt-ltb x high q) refl

between_under : (low high x : ℕ) → x < low → between01 low high x ≡ 0
between_under low high x p = rw (lt-leb low x p) refl

between_past : (low high x : ℕ) → high ≤ x → between01 low high x ≡ 0
between_past low high x p = rw (le-ltb x high p, and_right (leb low x) false refl) refl

-- those from place j of the order on, and before ball, have lost one more
pub record Fades (n : ℕ) (far seq : ℕ → ℕ) (from ball j : ℕ) (before lost : List ℕ) : Type 0 where
  pub low : j ≤ ball
  pub past : (i : ℕ) → j ≤ i → i < ball → from ≤ far (seq i)
  pub losts : (i : ℕ) → i < n → get_or lost (seq i) 0 ≡ get_or before (seq i) 0 + between01 j ball i

module _ (n : ℕ) (far seq : ℕ → ℕ) (s : Sorted n far seq) (from ball j : ℕ) (bn : ball ≤ n) (before lost : List ℕ) (f : Fades n far seq from ball j before lost) where
  pub fades_more : 0 < j → length lost ≡ n → from ≤ far (seq (j - 1)) → Fades n far seq from ball (j - 1) before (set lost (seq (j - 1)) (get_or lost (seq (j - 1)) 0 + 1))
  fades_more pos ln le = record {
    low = omega (arith, f.low);
    past = λ i p q. elim (cases_eq i (j - 1)) [ inl e ↦ subst (λ y. from ≤ far (seq y)) (sym e) le | inr ne ↦ f.past i (omega arith) q ];
    losts = λ i h. elim (cases_eq i (j - 1)) [
      | inl e ↦ subst (λ y. get_or (set lost (seq (j - 1)) (get_or lost (seq (j - 1)) 0 + 1)) (seq y) 0 ≡ get_or before (seq y) 0 + between01 (j - 1) ball y) (sym e) here
      | inr ne ↦ get_or-set_other lost (seq (j - 1)) (seq i) (get_or lost (seq (j - 1)) 0 + 1) 0 (other i h ne) ∙ f.losts i h ∙ ap (λ x. get_or before (seq i) 0 + x) (same i ne)
    ];
  }
    where
      in_j : j - 1 < n
      in_j = omega (arith, f.low)

      here : get_or (set lost (seq (j - 1)) (get_or lost (seq (j - 1)) 0 + 1)) (seq (j - 1)) 0 ≡ get_or before (seq (j - 1)) 0 + between01 (j - 1) ball (j - 1)
      here = get_or-set_same lost (seq (j - 1)) (get_or lost (seq (j - 1)) 0 + 1) 0 (omega (arith, s.inside (j - 1) in_j))
          ∙ omega (arith, f.losts (j - 1) in_j, between_under j ball (j - 1) (omega arith), between_in (j - 1) ball (j - 1) (omega arith) (omega (arith, f.low)))

      other : (i : ℕ) → i < n → (i ≡ j - 1 → ⊥) → seq i ≢ seq (j - 1)
      other i h ne e = ne (sym (s.forth i h) ∙ ap s.at e ∙ s.forth (j - 1) in_j)

      same : (i : ℕ) → (i ≡ j - 1 → ⊥) → between01 j ball i ≡ between01 (j - 1) ball i
      same i ne = elim (cases_lt i ball) [
        | inl p ↦ elim (cases_lt i j) [
          | inl q ↦ between_under j ball i q ∙ sym (between_under (j - 1) ball i (omega arith))
          | inr q ↦ between_in j ball i q p ∙ sym (between_in (j - 1) ball i (omega arith) p)
        ]
        | inr p ↦ between_past j ball i p ∙ sym (between_past (j - 1) ball i p)
      ]

  -- the range is what is lost, where the closest of the rest are closer than `from`
  pub fades_end : ((i : ℕ) → i < j → far (seq i) < from) → (to : ℕ) → Ball n far seq to ball → (u : ℕ) → u < n → get_or lost u 0 ≡ get_or before u 0 + between01 from to (far u)
  fades_end rest to b u un =
      subst (λ y. get_or lost y 0 ≡ get_or before y 0 + between01 from to (far y)) (s.back u un)
      (f.losts (s.at u) (s.at_inside u un) ∙ ap (λ x. get_or before (seq (s.at u)) 0 + x) (same (s.at u) (s.at_inside u un)))
    where
      same : (i : ℕ) → i < n → between01 j ball i ≡ between01 from to (far (seq i))
      same i h = elim (cases_lt i ball) [
        | inl p ↦ elim (cases_lt i j) [
          | inl q ↦ between_under j ball i q ∙ sym (between_under from to (far (seq i)) (rest i q))
          | inr q ↦ between_in j ball i q p ∙ sym (between_in from to (far (seq i)) (f.past i q p) (b.inner i p))
        ]
        | inr p ↦ between_past j ball i p ∙ sym (between_past from to (far (seq i)) (b.outer i p h))
      ]

  -- a place still to come has lost no more than before
  pub fades_few : 0 < j → ((u : ℕ) → u < n → get_or before u 0 ≤ 512) → get_or lost (seq (j - 1)) 0 ≤ 512
  fades_few pos h = omega (arith, f.losts (j - 1) (omega (arith, f.low)), h (seq (j - 1)) (s.inside (j - 1) (omega (arith, f.low))), between_under j ball (j - 1) (omega arith))

-- ---- the end of a ball: its last places that are no closer than `to`, read from behind
abbrev pub past : ℕ → List ℕ → ℕ → Bool
past to row u = leb to (get_or row u 0)

abbrev pub outside : ℕ → List ℕ → List ℕ → ℕ
outside to row order = prefix_len (past to row) (reverse order)

pub length-outside : (to : ℕ) (row order : List ℕ) → length (take (outside to row order) (reverse order)) ≡ outside to row order
length-outside to row order = length-prefix_len (past to row) (reverse order)

module _ (n : ℕ) (far seq : ℕ → ℕ) (s : Sorted n far seq) (to : ℕ) (row order : List ℕ) (few : length order ≤ n) (is : (u : ℕ) → u < n → get_or row u 0 ≡ far u) (first : (j : ℕ) → j < length order → get_or order j 0 ≡ seq j) where
  behind : (k : ℕ) → k < length order → get_or (reverse order) k 0 ≡ seq (length order - 1 - k)
  behind k h = get_or-reverse order k 0 h ∙ first (length order - 1 - k) (omega arith)

  reads : (k : ℕ) → k < length order → past to row (get_or (reverse order) k 0) ≡ leb to (far (seq (length order - 1 - k)))
  reads k h = ap (past to row) (behind k h) ∙ ap (leb to) (is (seq (length order - 1 - k)) (s.inside (length order - 1 - k) (omega arith)))

  outside_few : outside to row order ≤ length order
  outside_few = omega (arith, prefix_len-le-length (past to row) (reverse order), length-reverse order)

  pub outside_past : (j : ℕ) → length order - outside to row order ≤ j → j < length order → to ≤ far (seq j)
  outside_past j p q =
      let k : ◌≡◌ {A = ℕ} (length order - 1 - (length order - 1 - j)) j = omega arith in
      subst (λ i. to ≤ far (seq i)) k (leb-true to (far (seq (length order - 1 - (length order - 1 - j)))) (sym (reads (length order - 1 - j) (omega arith))
      ∙ prefix_len_passes (past to row) (reverse order) (length order - 1 - j) 0 (omega (arith, outside_few))))

  pub outside_stop : (j : ℕ) → j < length order - outside to row order → far (seq j) < to
  outside_stop j p =
      let m = outside to row order in
      let stop : far (seq (length order - 1 - m)) < to = leb-false to (far (seq (length order - 1 - m))) (sym (reads m (omega arith)) ∙ prefix_len_stops (past to row) (reverse order) 0 (omega (arith, length-reverse order))) in
      omega (arith, s.rises j (length order - 1 - m) (omega arith) (omega arith))

  -- the place that comes after k places from behind
  pub outside_turn : (k u : ℕ) → k < length (take (outside to row order) (reverse order)) → u ≡ get_or (take (outside to row order) (reverse order)) k u → (k < length order) × (u ≡ seq (length order - k - 1)) × (to ≤ far u)
  outside_turn k u h e =
      let few-out = outside_few in
      let lt : k < outside to row order = omega (arith, length-prefix_len (past to row) (reverse order)) in
      let i : length order - 1 - k ≡ length order - k - 1 = omega arith in
      let at : u ≡ seq (length order - k - 1) = e ∙ get_or-take (outside to row order) (reverse order) k u lt ∙ get_or_default_zero (reverse order) k u (omega (arith, length-reverse order)) ∙ behind k (omega arith) ∙ ap seq i in
      (omega arith, at, subst (λ x. to ≤ far x) (sym at) (outside_past (length order - k - 1) (omega arith) (omega arith)))

  pub shrunk : Outer n far seq to (length order) → Ball n far seq to (length order - outside to row order)
  shrunk o = record {
    few = omega arith;
    inner = outside_stop;
    outer = λ j p q. elim (cases_lt j (length order)) [ inl h ↦ outside_past j p h | inr h ↦ o.outer j h q ];
  }

-- closer landmarks
outer_lower : (n : ℕ) (far seq : ℕ → ℕ) (to less ball : ℕ) → Ball n far seq to ball → less ≤ to → Outer n far seq less ball
outer_lower n far seq to less ball b le = record { few = b.few; outer = λ j p q. omega (arith, b.outer j p q) }

outer_all : (n : ℕ) (far seq : ℕ → ℕ) (to ball : ℕ) → ball ≡ n → Outer n far seq to ball
outer_all n far seq to ball e = record { few = omega arith; outer = λ j p q. absurd (omega arith) }

pub outers_start : (n : ℕ) (table order away ball : List ℕ) (m : ℕ) → m ≡ n → ball ≡ replicate m n → Outers n table order away ball
outers_start n table order away ball m e h v vn = outer_all n (apart n table v) (in_order n order v) (get_or away v 0) (get_or ball v 0) (ap (λ xs. get_or xs v 0) h ∙ get_or-replicate m v n 0 (omega arith))

pub outers_lower : (n : ℕ) (table order away after ball : List ℕ) (row : ℕ → ℕ) → Balls n table order away ball → ((v : ℕ) → v < n → get_or after v 0 ≡ min (get_or away v 0) (row v)) → Outers n table order after ball
outers_lower n table order away after ball row b h v vn = outer_lower n (apart n table v) (in_order n order v) (get_or away v 0) (get_or after v 0) (get_or ball v 0) (b v vn) (omega (arith, h v vn))
