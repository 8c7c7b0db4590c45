-- One turn of making a post. Assumes nothing.
use Rattle.std.proofs.Common.{◌≡◌, ℕ, zero, suc, ◌+◌, ◌-◌, ◌<◌, ◌≤◌, Bool, true, false, cond, ◌&&◌, ltb, List, [], ◌∷◌, ◌++◌, length, Err, sym, ap, ◌∙◌, arith}
use Rattle.std.proofs.lemmas.Bool.{and_from, lt-ltb}
use Rattle.landmarks.specs.Landmarks.{Marks, line_count, on_post}
use Rattle.posts.proofs.LineByLine.{lines_below, lines_count, lines_off, lines_on}
use Rattle.posts.specs.Posting.{Posted}
use Rattle.posts.specs.Refusing.{refused_as}
use Rattle.posts.specs.Posts.{line_of, lines_of, place_at}
use Rattle.posts.specs.Pushing.{Pushed}
use Rattle.posts.specs.declared.kinds.Line.{Line}
use Rattle.posts.specs.declared.kinds.Refused.{Refused}
use Rattle.posts.specs.declared.kinds.Refused.TheVariants.{Full, Order}
use Rattle.ways.proofs.Counting.{count_next}
use Rattle.ways.specs.Map.{Map}
use Rattle.ways.specs.Ways.{count_below}

-- a test within the places
pub within_test : (n u v : ℕ) (x b : Bool) → u < n → v < n → b ≡ cond (ltb u n && ltb v n) x false → x ≡ b
within_test n u v x b p q e = sym (e ∙ ap (λ (t : Bool). cond t x false) (and_from (ltb u n) (ltb v n) (lt-ltb u n p) (lt-ltb v n q)))

-- counts rise with the bound
pub count_rises : (j k : ℕ) (f : ℕ → Bool) → count_below k f ≤ count_below (k + j) f
count_rises zero k f = omega (arith, ap (λ m. count_below m f) (let e : k + zero ≡ k = omega arith in e))
count_rises (suc j) k f =
    let e : k + suc j ≡ (k + j) + 1 = omega arith in
    omega (arith, count_rises j k f, count_next (k + j) f, ap (λ m. count_below m f) e)

module _ (z : Map) (l : Marks) (u v : ℕ) (vn : v < z.n) (p : List Line) (inv : p ≡ lines_of z l u 0 v) where
  -- a post that is full has no room for another line
  pub turn_full : on_post z l u v ≡ true → 255 ≤ length p → 255 < line_count z l u
  turn_full t full =
      let one : ◌≡◌ {A = ℕ} (cond (on_post z l u v) 1 0) 1 = ap (λ (b : Bool). cond b 1 0) t in
      let rest : ℕ = z.n - (v + 1) in
      let e : (v + 1) + rest ≡ z.n = omega arith in
      omega (arith, ap length inv, lines_count z l u v, count_next v (on_post z l u), one, count_rises rest (v + 1) (on_post z l u), ap (λ m. count_below m (on_post z l u)) e)

  -- the lines that are there name lower places
  above : (line : Line) → line ≡ line_of z l u v → (k : ℕ) → k < length p → line.place ≤ place_at p k → ⊥
  above line e k h g =
      omega (arith, ap (λ (x : Line). x.place) e, lines_below z l u v k (omega (arith, ap length inv)), ap (λ (xs : List Line). place_at xs k) inv)

  -- so a line is refused only where there is no room
  pub turn_refused : u < z.n → on_post z l u v ≡ true → (line : Line) (q : List Line) (e : Refused) → line ≡ line_of z l u v → Pushed p q line (Err e) → Posted z l u (Err (refused_as e))
  turn_refused un on line q Full is h = (un, turn_full on (omega (arith, h.0)))
  turn_refused un on line q Order is h = absurd (above line is h.1.0 h.1.1 h.1.2)

  pub turn_on : (line : Line) (q : List Line) → line ≡ line_of z l u v → on_post z l u v ≡ true → q ≡ p ++ line ∷ [] → q ≡ lines_of z l u 0 (v + 1)
  turn_on line q e t r = r ∙ ap (λ (xs : List Line). xs ++ line ∷ []) inv ∙ ap (λ (x : Line). lines_of z l u 0 v ++ x ∷ []) e ∙ sym (lines_on z l u v t)

  pub turn_off : on_post z l u v ≡ false → p ≡ lines_of z l u 0 (v + 1)
  turn_off t = inv ∙ sym (lines_off z l u v t)
