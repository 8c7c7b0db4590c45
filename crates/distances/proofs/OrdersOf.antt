-- Orders one after the other in one array, beside the rows: what writing one leaves of the others. Assumes nothing.
use Rattle.std.proofs.Common.{◌≡◌, ℕ, ◌+◌, ◌*◌, ◌<◌, Bool, List, length, get_or, set, ap, ◌∙◌, inl, inr, arith, length-set, get_or-set_other, get_or-set_same}
use borrow.Rule.Slice.PartMut.{put_mid}
use Rattle.std.proofs.lemmas.Nat.{mul-add-lt}
use Rattle.std.proofs.lemmas.Bool.{cases_eq}
use Rattle.distances.specs.Orders.{Sorted, Reached, OrderRow}
use Rattle.distances.proofs.Ordering.{Ordering}
use Rattle.distances.proofs.RowsOf.{row_fits, mid_below, mid_here}

-- the entries xs have become ys: those before `from` stay, and the first k of the others are the places settled so far, in that order
pub record Noting (n from : ℕ) (f : ℕ → ℕ) (s : ℕ → Bool) (k : ℕ) (xs ys : List ℕ) : Type 0 where
  pub long : length ys ≡ length xs
  pub rest : (j : ℕ) → j < from → get_or ys j 0 ≡ get_or xs j 0
  pub order : Ordering n f s (λ j. get_or ys (from + j) 0) k

-- one place more
pub noting_more : (n from : ℕ) (f g : ℕ → ℕ) (s t : ℕ → Bool) (k u : ℕ) (xs ys : List ℕ) → Noting n from f s k xs ys → from + k < length ys
    → ((seq next : ℕ → ℕ) (j : ℕ) → Ordering n f s seq j → next j ≡ u → ((i : ℕ) → i < j → next i ≡ seq i) → Ordering n g t next (j + 1)) → Noting n from g t (k + 1) xs (set ys (from + k) u)
noting_more n from f g s t k u xs ys o room more = record {
  long = length-set ys (from + k) u ∙ o.long;
  rest = λ j l. get_or-set_other ys (from + k) j u 0 (λ e. omega arith) ∙ o.rest j l;
  order = more (λ j. get_or ys (from + j) 0) (λ j. get_or (set ys (from + k) u) (from + j) 0) k o.order (get_or-set_same ys (from + k) u 0 room) (λ j l. get_or-set_other ys (from + k) (from + j) u 0 (λ e. omega arith));
}

-- the entries xs have become ys: in them stand the orders of the places below d
pub record OrdersBefore (n d : ℕ) (dist xs ys : List ℕ) : Type 0 where
  pub long : length ys ≡ length xs
  pub rows : (e : ℕ) → e < d → Reached n (λ a. get_or dist (e * n + a) 0) → Sorted n (λ a. get_or dist (e * n + a) 0) (λ j. get_or ys (e * n + j) 0)

-- an order stays one where distances and places stay
sorted_same : (n : ℕ) (f g p q : ℕ → ℕ) → ((a : ℕ) → a < n → g a ≡ f a) → ((j : ℕ) → j < n → q j ≡ p j) → Sorted n f p → Sorted n g q
sorted_same n f g p q fs ps s = record {
  at = s.at;
  inside = λ j h. omega (arith, ps j h, s.inside j h);
  at_inside = s.at_inside;
  back = λ u h. ps (s.at u) (s.at_inside u h) ∙ s.back u h;
  forth = λ j h. ap s.at (ps j h) ∙ s.forth j h;
  rises = λ i j l h. (let k : i < n = omega arith in
      omega (arith, ap g (ps i k), ap g (ps j h), fs (p i) (s.inside i k), fs (p j) (s.inside j h), s.rises i j l h));
}

-- the orders of the rows below d, and then that of row d too
module _ (n d q : ℕ) (dist drow old xs ys : List ℕ) (dn : d < n) (ld : length dist ≡ n * n) (lf : length drow ≡ n) where
  here : (e a : ℕ) → e ≡ d → a < n → get_or (put_mid (d * n) q dist drow) (e * n + a) 0 ≡ get_or drow a 0
  here e a s h = ap (λ k. get_or (put_mid (d * n) q dist drow) (k * n + a) 0) s ∙ mid_here (d * n) q dist drow a (omega arith) (omega (arith, row_fits d n dn))

  above : (e a : ℕ) → e < d → a < n → get_or (put_mid (d * n) q dist drow) (e * n + a) 0 ≡ get_or dist (e * n + a) 0
  above e a l h = mid_below (d * n) q dist drow (e * n + a) (omega (arith, mul-add-lt e n a d l h)) (omega (arith, row_fits d n dn))

  pub orders_more : OrdersBefore n d dist old xs → OrderRow n (d * n) drow xs ys → OrdersBefore n (d + 1) (put_mid (d * n) q dist drow) old ys
  orders_more o new = record {
    long = new.long ∙ o.long;
    rows = λ e l reached. elim (cases_eq e d) [
      | inl s ↦ sorted_same n (λ a. get_or drow a 0) (λ a. get_or (put_mid (d * n) q dist drow) (e * n + a) 0) (λ j. get_or ys (d * n + j) 0) (λ j. get_or ys (e * n + j) 0)
          (λ a h. here e a s h) (λ j h. ap (λ k. get_or ys (k * n + j) 0) s) (new.row (λ a h. omega (arith, here e a s h, reached a h)))
      | inr s ↦ (let k : e < d = omega arith in
          sorted_same n (λ a. get_or dist (e * n + a) 0) (λ a. get_or (put_mid (d * n) q dist drow) (e * n + a) 0) (λ j. get_or xs (e * n + j) 0) (λ j. get_or ys (e * n + j) 0)
          (λ a h. above e a k h) (λ j h. new.rest (e * n + j) (omega (arith, mul-add-lt e n j d k h))) (o.rows e k (λ a h. omega (arith, above e a k h, reached a h))))
    ];
  }
