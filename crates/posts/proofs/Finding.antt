-- The post of a map: a place is found there just where it has a line, and there are as many lines as were counted. Assumes nothing.
use Rattle.std.proofs.Common.{◌≡◌, ℕ, zero, suc, ◌+◌, ◌<◌, ◌≤◌, true, false, cond, eqb, ◌∷◌, length, Some, None, refl, ap, ◌∙◌, inl, inr, arith}
use Rattle.std.proofs.lemmas.Bool.{cases_Bool, cases_eq, eq-eqb, ne_eqb, cond-true, cond-false}
use Rattle.ways.specs.Map.{Map}
use Rattle.ways.specs.Ways.{count_below}
use Rattle.ways.proofs.Counting.{count_start, count_next}
use Rattle.landmarks.specs.Landmarks.{Marks, on_post, line_count}
use Rattle.posts.specs.Posts.{line_of, lines_of, post_of, find_in}

module _ (z : Map) (l : Marks) (u v : ℕ) where
  -- past a place that isn't v
  find_past : (a k : ℕ) → (a ≡ v → ⊥) → find_in v (lines_of z l u a (suc k)) ≡ find_in v (lines_of z l u (a + 1) k)
  unfolding lines_of
  find_past a k ne = elim (cases_Bool (on_post z l u a)) [
    | inl t ↦ ap (find_in v) (cond-true (on_post z l u a) (line_of z l u a ∷ lines_of z l u (a + 1) k) (lines_of z l u (a + 1) k) t)
        ∙ cond-false (eqb a v) (Some (line_of z l u a)) (find_in v (lines_of z l u (a + 1) k)) (ne_eqb a v ne)
    | inr t ↦ ap (find_in v) (cond-false (on_post z l u a) (line_of z l u a ∷ lines_of z l u (a + 1) k) (lines_of z l u (a + 1) k) t)
  ]

  find_here : (k : ℕ) → on_post z l u v ≡ true → find_in v (lines_of z l u v (suc k)) ≡ Some (line_of z l u v)
  unfolding lines_of
  find_here k t =
      ap (find_in v) (cond-true (on_post z l u v) (line_of z l u v ∷ lines_of z l u (v + 1) k) (lines_of z l u (v + 1) k) t)
      ∙ cond-true (eqb v v) (Some (line_of z l u v)) (find_in v (lines_of z l u (v + 1) k)) (eq-eqb v v refl)

  find_skip : (k : ℕ) → on_post z l u v ≡ false → find_in v (lines_of z l u v (suc k)) ≡ find_in v (lines_of z l u (v + 1) k)
  unfolding lines_of
  find_skip k t = ap (find_in v) (cond-false (on_post z l u v) (line_of z l u v ∷ lines_of z l u (v + 1) k) (lines_of z l u (v + 1) k) t)

  find_nil : (a : ℕ) → find_in v (lines_of z l u a 0) ≡ None
  unfolding lines_of
  find_nil a = refl

  lines_some : on_post z l u v ≡ true → (k a : ℕ) → a ≤ v → v < a + k → find_in v (lines_of z l u a k) ≡ Some (line_of z l u v)
  lines_some t zero a lo hi = absurd (omega arith)
  lines_some t (suc k) a lo hi = elim (cases_eq a v) [
    | inl e ↦ ap (λ x. find_in v (lines_of z l u x (suc k))) e ∙ find_here k t
    | inr ne ↦ find_past a k ne ∙ lines_some t k (a + 1) (omega arith) (omega arith)
  ]

  lines_none : on_post z l u v ≡ false → (k a : ℕ) → find_in v (lines_of z l u a k) ≡ None
  lines_none t zero a = find_nil a
  lines_none t (suc k) a = elim (cases_eq a v) [
    | inl e ↦ ap (λ x. find_in v (lines_of z l u x (suc k))) e ∙ find_skip k t ∙ lines_none t k (v + 1)
    | inr ne ↦ find_past a k ne ∙ lines_none t k (a + 1)
  ]

  pub post_some : v < z.n → on_post z l u v ≡ true → find_in v (post_of z l u) ≡ Some (line_of z l u v)
  post_some vn t = lines_some t z.n 0 (omega arith) (omega arith)

  pub post_none : on_post z l u v ≡ false → find_in v (post_of z l u) ≡ None
  post_none t = lines_none t z.n 0

module _ (z : Map) (l : Marks) (u : ℕ) where
  -- ---- how many lines
  one_line : (a k : ℕ) → length (lines_of z l u a (suc k)) ≡ cond (on_post z l u a) 1 0 + length (lines_of z l u (a + 1) k)
  unfolding lines_of
  one_line a k = elim (cases_Bool (on_post z l u a)) [ inl t ↦ rw t (omega arith) | inr t ↦ rw t (omega arith) ]

  no_line : (a : ℕ) → length (lines_of z l u a 0) ≡ 0
  unfolding lines_of
  no_line a = refl

  pub lines_length : (k a m : ℕ) → a + k ≡ m → length (lines_of z l u a k) + count_below a (on_post z l u) ≡ count_below m (on_post z l u)
  lines_length zero a m e = let s : a ≡ m = omega arith in omega (arith, no_line a, ap (λ x. count_below x (on_post z l u)) s)
  lines_length (suc k) a m e = omega (arith, one_line a k, count_next a (on_post z l u), lines_length k (a + 1) m (omega arith))

  pub post_length : length (post_of z l u) ≡ line_count z l u
  post_length = omega (arith, lines_length z.n 0 z.n (omega arith), count_start (on_post z l u))
