-- The lines of a post, place by place: what one place more adds, that the places rise, and how many there are. Assumes nothing.
use Rattle.std.proofs.Common.{◌≡◌, ℕ, zero, suc, ◌+◌, ◌<◌, true, false, cond, List, [], ◌∷◌, ◌++◌, length, sym, refl, ap, ◌∙◌, inl, inr, add-one, arith}
use Rattle.std.proofs.lemmas.List.{append_assoc, append-nil, length-append, get_or_append_left, get_or_push}
use Rattle.std.proofs.lemmas.Bool.{cases_Bool, cases_lt, cond-true, cond-false}
use Rattle.ways.specs.Map.{Map}
use Rattle.ways.specs.Ways.{count_below}
use Rattle.ways.proofs.Counting.{count_start}
use Rattle.landmarks.specs.Landmarks.{Marks, on_post}
use Rattle.posts.specs.declared.kinds.Line.{Line}
use Rattle.posts.specs.Posts.{line_of, lines_of, place_at}
use Rattle.posts.proofs.Finding.{lines_length}

abbrev blank : Line
blank = record { place = 0; next = 0; near = false }

-- ---- one line more at the end of some lines
at_old : (xs : List Line) (x : Line) (j : ℕ) → j < length xs → place_at (xs ++ x ∷ []) j ≡ place_at xs j
at_old xs x j h = ap (λ (y : Line). y.place) (get_or_append_left xs (x ∷ []) blank j h)

at_new : (xs : List Line) (x : Line) (j : ℕ) → j ≡ length xs → place_at (xs ++ x ∷ []) j ≡ x.place
at_new xs x j e = ap (λ (y : Line). y.place) (get_or_push xs x blank j (sym e))

below_more : (xs : List Line) (x : Line) (b : ℕ) → ((j : ℕ) → j < length xs → place_at xs j < b) → x.place ≡ b
    → (j : ℕ) → j < length (xs ++ x ∷ []) → place_at (xs ++ x ∷ []) j < b + 1
below_more xs x b low e j h = elim (cases_lt j (length xs)) [
  | inl old ↦ omega (arith, at_old xs x j old, low j old)
  | inr new ↦ omega (arith, at_new xs x j (omega (arith, length-append xs (x ∷ []))))
]

rising_more : (xs : List Line) (x : Line) → ((j : ℕ) → j < length xs → place_at xs j < x.place) → ((j : ℕ) → j + 1 < length xs → place_at xs j < place_at xs (j + 1))
    → (j : ℕ) → j + 1 < length (xs ++ x ∷ []) → place_at (xs ++ x ∷ []) j < place_at (xs ++ x ∷ []) (j + 1)
rising_more xs x low rising j h =
    let g : j < length xs = omega (arith, length-append xs (x ∷ [])) in
    elim (cases_lt (j + 1) (length xs)) [
      | inl old ↦ omega (arith, at_old xs x j g, at_old xs x (j + 1) old, rising j old)
      | inr new ↦ omega (arith, at_old xs x j g, at_new xs x (j + 1) (omega arith), low j g)
    ]

module _ (z : Map) (l : Marks) (u : ℕ) where
  -- the line for v, where it has one
  abbrev pub own : ℕ → List Line
  own v = cond (on_post z l u v) (line_of z l u v ∷ []) []

  lines_nil : (a : ℕ) → lines_of z l u a 0 ≡ []
  unfolding lines_of
  lines_nil a = refl

  lines_first : (a k : ℕ) → lines_of z l u a (suc k) ≡ own a ++ lines_of z l u (a + 1) k
  unfolding lines_of
  lines_first a k = elim (cases_Bool (on_post z l u a)) [ inl t ↦ rw t refl | inr t ↦ rw t refl ]

  lines_last : (k a b : ℕ) → a + k ≡ b → lines_of z l u a (suc k) ≡ lines_of z l u a k ++ own b
  lines_last zero a b e =
      let s : a ≡ b = omega arith in
      lines_first a 0 ∙ ap (λ xs. own a ++ xs) (lines_nil (a + 1)) ∙ append-nil (own a) ∙ ap own s ∙ ap (λ xs. xs ++ own b) (sym (lines_nil a))
  lines_last (suc k) a b e =
      lines_first a (suc k) ∙ ap (λ xs. own a ++ xs) (lines_last k (a + 1) b (omega arith))
      ∙ sym (append_assoc (own a) (lines_of z l u (a + 1) k) (own b)) ∙ ap (λ xs. xs ++ own b) (sym (lines_first a k))

  -- ---- one place more
  pub lines_start : lines_of z l u 0 0 ≡ []
  lines_start = lines_nil 0

  pub lines_next : (k : ℕ) → lines_of z l u 0 (k + 1) ≡ lines_of z l u 0 k ++ cond (on_post z l u k) (line_of z l u k ∷ []) []
  lines_next k = rw add-one (lines_last k 0 k (omega arith))

  pub lines_on : (k : ℕ) → on_post z l u k ≡ true → lines_of z l u 0 (k + 1) ≡ lines_of z l u 0 k ++ line_of z l u k ∷ []
  lines_on k t = lines_next k ∙ ap (λ xs. lines_of z l u 0 k ++ xs) (cond-true (on_post z l u k) (line_of z l u k ∷ []) [] t)

  pub lines_off : (k : ℕ) → on_post z l u k ≡ false → lines_of z l u 0 (k + 1) ≡ lines_of z l u 0 k
  lines_off k t =
      lines_next k ∙ ap (λ xs. lines_of z l u 0 k ++ xs) (cond-false (on_post z l u k) (line_of z l u k ∷ []) [] t)
      ∙ append-nil (lines_of z l u 0 k)

  -- ---- the places below k, rising, and how many
  pub lines_below : (k j : ℕ) → j < length (lines_of z l u 0 k) → place_at (lines_of z l u 0 k) j < k
  lines_below zero j h = absurd (omega (arith, ap length lines_start))
  lines_below (suc k) j h = elim (cases_Bool (on_post z l u k)) [
    | inl t ↦
        let e : lines_of z l u 0 (suc k) ≡ lines_of z l u 0 k ++ line_of z l u k ∷ [] = rw add-one at (lines_on k t) in
        omega (arith, ap (λ xs. place_at xs j) e, below_more (lines_of z l u 0 k) (line_of z l u k) k (lines_below k) refl j (omega (arith, ap length e)))
    | inr t ↦
        let e : lines_of z l u 0 (suc k) ≡ lines_of z l u 0 k = rw add-one at (lines_off k t) in
        omega (arith, ap (λ xs. place_at xs j) e, lines_below k j (omega (arith, ap length e)))
  ]

  pub lines_rising : (k j : ℕ) → j + 1 < length (lines_of z l u 0 k) → place_at (lines_of z l u 0 k) j < place_at (lines_of z l u 0 k) (j + 1)
  lines_rising zero j h = absurd (omega (arith, ap length lines_start))
  lines_rising (suc k) j h = elim (cases_Bool (on_post z l u k)) [
    | inl t ↦
        let e : lines_of z l u 0 (suc k) ≡ lines_of z l u 0 k ++ line_of z l u k ∷ [] = rw add-one at (lines_on k t) in
        omega (
          arith,
          ap (λ xs. place_at xs j) e,
          ap (λ xs. place_at xs (j + 1)) e,
          rising_more (lines_of z l u 0 k) (line_of z l u k) (lines_below k) (lines_rising k) j (omega (arith, ap length e)),
        )
    | inr t ↦
        let e : lines_of z l u 0 (suc k) ≡ lines_of z l u 0 k = rw add-one at (lines_off k t) in
        omega (arith, ap (λ xs. place_at xs j) e, ap (λ xs. place_at xs (j + 1)) e, lines_rising k j (omega (arith, ap length e)))
  ]

  pub lines_count : (k : ℕ) → length (lines_of z l u 0 k) ≡ count_below k (on_post z l u)
  lines_count k = omega (arith, lines_length z l u k 0 k (omega arith), count_start (on_post z l u))
