-- Rows as parts of a table, and what counting and lowering by them gives. Assumes nothing.
use Rattle.std.proofs.Common.{◌≡◌, ℕ, zero, suc, ◌+◌, ◌*◌, ◌<◌, ◌≤◌, min, cond, ltb, List, length, get_or, ap, ◌∙◌, arith}
use Rattle.std.proofs.lemmas.Nat.{mul-add-lt}
use Rattle.std.proofs.lemmas.Bool.{lt-ltb, le-ltb, cond-true, cond-false}
use Rattle.ways.proofs.Counting.{count_most, count_start, count_next, count_same}
use Rattle.choosing.specs.Tables.{apart, near_by, near_to}

-- ---- one row
module _ (row away : List ℕ) where
  pub near_zero : near_by 0 row away ≡ 0
  near_zero = count_start (λ v. ltb (get_or row v 0) (get_or away v 0))

  pub near_yes : (v : ℕ) → get_or row v 0 < get_or away v 0 → near_by (v + 1) row away ≡ near_by v row away + 1
  near_yes v h =
      let e : ◌≡◌ {A = ℕ} (cond (ltb (get_or row v 0) (get_or away v 0)) 1 0) 1 = cond-true (ltb (get_or row v 0) (get_or away v 0)) 1 0 (lt-ltb (get_or row v 0) (get_or away v 0) h) in
      omega (arith, count_next v (λ v. ltb (get_or row v 0) (get_or away v 0)))

  pub near_no : (v : ℕ) → get_or away v 0 ≤ get_or row v 0 → near_by (v + 1) row away ≡ near_by v row away
  near_no v h =
      let e : ◌≡◌ {A = ℕ} (cond (ltb (get_or row v 0) (get_or away v 0)) 1 0) 0 = cond-false (ltb (get_or row v 0) (get_or away v 0)) 1 0 (le-ltb (get_or row v 0) (get_or away v 0) h) in
      omega (arith, count_next v (λ v. ltb (get_or row v 0) (get_or away v 0)))

-- ---- a row of the table
pub row_fits : (u n k : ℕ) → u < n → k ≤ n → u * n + k ≤ n * n
row_fits u n zero h l = omega (arith, mul-add-lt u n 0 n h (omega arith))
row_fits u n (suc k) h l = omega (arith, mul-add-lt u n k n h (omega arith))

module _ (n u : ℕ) (table away row : List ℕ) (is : (v : ℕ) → v < n → get_or row v 0 ≡ apart n table u v) (long : length away ≡ n) where
  -- what a count of the row gives
  pub row_gives : (r : ℕ) → r ≡ near_by (length away) row away → r ≡ near_to n table away u
  row_gives r h =
      h ∙ ap (λ k. near_by k row away) long
      ∙ count_same n (λ v. ltb (apart n table u v) (get_or away v 0)) (λ v. ltb (get_or row v 0) (get_or away v 0)) (λ v l. ap (λ x. ltb x (get_or away v 0)) (is v l))

  -- what lowering by the row gives
  pub lowered : (after : List ℕ) → ((v : ℕ) → v < length away → get_or after v 0 ≡ min (get_or away v 0) (get_or row v 0)) → (v : ℕ) → v < n → get_or after v 0 ≡ min (get_or away v 0) (apart n table u v)
  lowered after h v vn = h v (omega arith) ∙ ap (λ x. min (get_or away v 0) x) (is v vn)

pub near_most : (n : ℕ) (table away : List ℕ) (u : ℕ) → near_to n table away u ≤ n
near_most n table away u = count_most n (λ v. ltb (apart n table u v) (get_or away v 0))
