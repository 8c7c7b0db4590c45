-- Counts and sums over lists, as counts and sums below a number. Assumes nothing.
use Rattle.std.proofs.Common.{◌≡◌, ℕ, zero, suc, ◌+◌, ◌-◌, ◌*◌, ◌<◌, ◌≤◌, Bool, false, cond, List, [], ◌∷◌, All, length, get_or, filter, sum_by, refl, ap, ◌∙◌, subst, sym, inl, inr, arith}
use Rattle.std.proofs.lemmas.Bool.{cases_Bool}
use Rattle.std.proofs.lemmas.List.Sums.{sum_by-cons}
use Rattle.std.proofs.lemmas.Slice.Zip.{get_or-zip, length-zip}
use Rattle.std.specs.List.{zip}
use Rattle.ways.specs.Ways.{count_below}
use Rattle.choosing.specs.Choosing.{sum_below}
use Rattle.choosing.specs.Tables.{left_below, over_below, weight}
use Rattle.choosing.proofs.Sums.{count_sum, sum_same, sum_most}

count_first : (n : ℕ) (f : ℕ → Bool) → count_below (suc n) f ≡ cond (f 0) 1 0 + count_below n (λ u. f (suc u))
unfolding count_below
count_first zero f = refl
count_first (suc n) f = omega (arith, count_first n f)

sum_first : (n : ℕ) (f : ℕ → ℕ) → sum_below (suc n) f ≡ f 0 + sum_below n (λ u. f (suc u))
unfolding sum_below
sum_first zero f = refl
sum_first (suc n) f = omega (arith, sum_first n f)

-- how many pass a test
pub count_list : {X : Type 0} (t : X → Bool) (d : X) (xs : List X) → length (filter t xs) ≡ count_below (length xs) (λ u. t (get_or xs u d))
unfolding count_below
count_list t d [] = refl
count_list t d (x ∷ xs) =
    let r = count_list t d xs in
    let f = count_first (length xs) (λ u. t (get_or (x ∷ xs) u d)) in
    elim (cases_Bool (t x)) [
      | inl p ↦ rw p (let e : ◌≡◌ {A = ℕ} (cond (t x) 1 0) 1 = ap (λ b. cond b 1 0) p in omega (arith, r, f))
      | inr p ↦ rw p (let e : ◌≡◌ {A = ℕ} (cond (t x) 1 0) 0 = ap (λ b. cond b 1 0) p in omega (arith, r, f))
    ]

-- how many of a list are marked in another
pub marked_list : (hot : List Bool) (order : List ℕ) (ball : ℕ) (seq : ℕ → ℕ) → length order ≡ ball → ((j : ℕ) → j < ball → get_or order j 0 ≡ seq j) → length (filter (λ u. get_or hot u false) order) ≡ sum_below ball (λ i. weight hot (seq i))
marked_list hot order ball seq long is =
    count_list (λ u. get_or hot u false) 0 order ∙ count_sum (length order) (λ j. get_or hot (get_or order j 0) false)
    ∙ ap (λ k. sum_below k (λ j. weight hot (get_or order j 0))) long ∙ sum_same ball (λ j. weight hot (get_or order j 0)) (λ j. weight hot (seq j)) (λ j h. ap (weight hot) (is j h))

-- what all come to
pub sum_list : {X : Type 0} (h : X → ℕ) (d : X) (xs : List X) → sum_by h xs ≡ sum_below (length xs) (λ u. h (get_or xs u d))
unfolding sum_below
sum_list h d [] = refl
sum_list h d (x ∷ xs) = sum_by-cons h x xs ∙ ap (λ k. h x + k) (sum_list h d xs) ∙ sym (sum_first (length xs) (λ u. h (get_or (x ∷ xs) u d)))

-- what each comes to bounds what all come to
pub sum_by_most : {X : Type 0} (h : X → ℕ) (d : X) (m : ℕ) (xs : List X) → ((u : ℕ) → u < length xs → h (get_or xs u d) ≤ m) → sum_by h xs ≤ length xs * m
sum_by_most h d m xs most = omega (arith, sum_list h d xs, sum_most (length xs) m (λ u. h (get_or xs u d)) most)

pub over_list : (count room : ℕ) (near : List ℕ) → sum_by (λ x. (count + x) - (room + 1)) near ≡ over_below near count room (length near)
over_list count room near = sum_list (λ x. (count + x) - (room + 1)) 0 near

pub over_most : (count room : ℕ) (near : List ℕ) → count ≤ 512 → All (λ x. x ≤ 512) near → sum_by (λ x. (count + x) - (room + 1)) near ≤ length near * 1024
over_most count room near few most = sum_by_most (λ x. (count + x) - (room + 1)) 0 1024 near (λ u h. omega (arith, most u 0 h))

-- two rows of the same length
module _ (xs ys : List ℕ) (long : length xs ≡ length ys) where
  zipped : length (zip xs ys) ≡ length ys
  zipped = omega (arith, length-zip xs ys)

  pub left_list : (count room : ℕ) → sum_by (λ (p : ℕ × ℕ). (count + p.0) - (p.1 + (room + 1))) (zip xs ys) ≡ left_below xs ys count room (length ys)
  left_list count room =
      sum_list (λ (p : ℕ × ℕ). (count + p.0) - (p.1 + (room + 1))) (0, 0) (zip xs ys)
      ∙ ap (λ k. sum_below k (λ u. (count + (get_or (zip xs ys) u (0, 0)).0) - ((get_or (zip xs ys) u (0, 0)).1 + (room + 1)))) zipped
      ∙ sum_same (length ys) (λ u. (count + (get_or (zip xs ys) u (0, 0)).0) - ((get_or (zip xs ys) u (0, 0)).1 + (room + 1))) (λ u. (count + get_or xs u 0) - (get_or ys u 0 + (room + 1)))
      (λ u h. ap (λ (p : ℕ × ℕ). (count + p.0) - (p.1 + (room + 1))) (get_or-zip xs ys u (0, 0) (omega arith) h))

  pub left_most : (count room : ℕ) → count ≤ 512 → All (λ x. x ≤ 512) xs → sum_by (λ (p : ℕ × ℕ). (count + p.0) - (p.1 + (room + 1))) (zip xs ys) ≤ length ys * 1024
  left_most count room few most =
      omega (
        arith,
        ap (λ k. k * 1024) zipped,
        sum_by_most (λ (p : ℕ × ℕ). (count + p.0) - (p.1 + (room + 1))) (0, 0) 1024 (zip xs ys)
            (λ u h. omega (arith, most u 0 (omega (arith, zipped)), ap (λ (p : ℕ × ℕ). p.0) (get_or-zip xs ys u (0, 0) (omega (arith, zipped)) (omega (arith, zipped))))),
      )

  -- each pair of two rows with small numbers
  pub pair_small : (k : ℕ) (p : ℕ × ℕ) → All (λ x. x ≤ 512) xs → All (λ x. x ≤ 512) ys → k < length (zip xs ys) → p ≡ get_or (zip xs ys) k p → (p.0 ≤ 512) × (p.1 ≤ 512)
  pair_small k p fx fy h e =
      let q : p ≡ (get_or xs k p.0, get_or ys k p.1) = e ∙ get_or-zip xs ys k p (omega (arith, zipped)) (omega (arith, zipped)) in
      (subst (λ (r : ℕ × ℕ). r.0 ≤ 512) (sym q) (fx k p.0 (omega (arith, zipped))), subst (λ (r : ℕ × ℕ). r.1 ≤ 512) (sym q) (fy k p.1 (omega (arith, zipped))))
