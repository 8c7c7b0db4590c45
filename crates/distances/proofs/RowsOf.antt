-- Rows one after the other in one array: what writing one leaves of the others. Assumes nothing.
use Rattle.std.proofs.Common.{◌≡◌, ℕ, zero, suc, ◌+◌, ◌-◌, ◌*◌, ◌<◌, ◌≤◌, List, length, get_or, sym, ap, ◌∙◌, inl, inr, arith, length-append, length-drop, length-take, rules}
use borrow.Rule.Slice.PartMut.{put_mid}
use Rattle.std.proofs.lemmas.List.{places}
use Rattle.std.proofs.lemmas.Nat.{mul-add-lt}
use Rattle.std.proofs.lemmas.Bool.{cases_eq}
use Rattle.ways.specs.Map.{Map, far, hop}
use Rattle.distances.specs.Rows.{far_number, hop_number, FarRow, HopRow}

-- the rows of the places below d
pub record RowsBefore (z : Map) (n d : ℕ) (dist next : List ℕ) : Type 0 where
  pub dists : (e a : ℕ) → e < d → a < n → get_or dist (e * n + a) 0 ≡ far_number (far z e a)
  pub nexts : (e a : ℕ) → e < d → a < n → get_or next (e * n + a) 0 ≡ hop_number (hop z e a)

pub row_fits : (d n : ℕ) → d < n → d * n + n ≤ n * n
row_fits d zero h = absurd (omega arith)
row_fits d (suc m) h = omega (arith, mul-add-lt d (suc m) m (suc m) h (omega arith))

pub mid_below : (p q : ℕ) (xs ys : List ℕ) (i : ℕ) → i < p → p ≤ length xs → get_or (put_mid p q xs ys) i 0 ≡ get_or xs i 0
mid_below p q xs ys i h l = search (rules, places)

pub mid_here : (p q : ℕ) (xs ys : List ℕ) (i : ℕ) → i < length ys → p ≤ length xs → get_or (put_mid p q xs ys) (p + i) 0 ≡ get_or ys i 0
mid_here p q xs ys i h l = search (rules, places)

-- the array stays as long as it was
pub mid_long : (d n : ℕ) (xs ys : List ℕ) → d < n → length xs ≡ n * n → length ys ≡ n → length (put_mid (d * n) ((d * n + n) - d * n) xs ys) ≡ n * n
mid_long d n xs ys dn long ly =
    let h = row_fits d n dn in
    simp (length-append, length-take, length-drop) (omega (arith, h))

-- what a table says of its rows stays said when a row is written, and is said of that row too
rows_more : (n d q : ℕ) (xs ys : List ℕ) (value : ℕ → ℕ → ℕ) → d < n → length xs ≡ n * n → length ys ≡ n
    → ((e a : ℕ) → e < d → a < n → get_or xs (e * n + a) 0 ≡ value e a) → ((a : ℕ) → a < n → get_or ys a 0 ≡ value d a)
    → (e a : ℕ) → e < d + 1 → a < n → get_or (put_mid (d * n) q xs ys) (e * n + a) 0 ≡ value e a
rows_more n d q xs ys value dn long ly old new e a l m = elim (cases_eq e d) [
  | inl s ↦ ap (λ k. get_or (put_mid (d * n) q xs ys) (k * n + a) 0) s ∙ mid_here (d * n) q xs ys a (omega arith) (omega (arith, row_fits d n dn)) ∙ new a m ∙ ap (λ k. value k a) (sym s)
  | inr s ↦ mid_below (d * n) q xs ys (e * n + a) (omega (arith, mul-add-lt e n a d (omega arith) m)) (omega (arith, row_fits d n dn)) ∙ old e a (omega arith) m
]

pub before_more : (z : Map) (n d q r : ℕ) (dist next drow nrow : List ℕ) → z.n ≡ n → d < n → length dist ≡ n * n → length next ≡ n * n → length drow ≡ n → length nrow ≡ n
    → RowsBefore z n d dist next → FarRow z d drow → HopRow z d nrow → RowsBefore z n (d + 1) (put_mid (d * n) q dist drow) (put_mid (d * n) r next nrow)
before_more z n d q r dist next drow nrow zn dn ld ln lf lh o f h = record {
  dists = rows_more n d q dist drow (λ e a. far_number (far z e a)) dn ld lf o.dists (λ a l. f a (omega arith));
  nexts = rows_more n d r next nrow (λ e a. hop_number (hop z e a)) dn ln lh o.nexts (λ a l. h a (omega arith));
}
