-- The rows of a map that hangs together are in order. Assumes nothing.
use Rattle.std.proofs.Common.{ℕ, ◌+◌, ◌-◌, ◌*◌, ◌<◌, ◌≤◌, List, All, length, reverse, arith}
use Rattle.std.proofs.lemmas.Grind.{get_or_default_zero}
use Rattle.std.proofs.lemmas.List.{get_or-reverse, length-reverse}
use Rattle.std.proofs.lemmas.List.Edits.{length-between, get_or-between}
use Rattle.std.specs.List.{between}
use Rattle.distances.specs.Orders.{rank_in}
use Rattle.choosing.specs.Turns.{SortedAt}
use Rattle.choosing.specs.declared.turn.Ordered.{Ordered}
use Rattle.choosing.proofs.RowParts.{row_fits}

module _ (m : Ordered) (v : ℕ) (h : v < m.rows.n) where
  pub sorted_at : SortedAt m.rows.n m.rows.dist.now m.rows.order.now v
  sorted_at =
      let s = m.sorted v h in
      record { at = rank_in m.rows.n m.rows.order.now v; inside = s.inside; at_inside = s.there; back = s.back; forth = s.forth; rises = s.rises }

  pub closest_inside : (ball : ℕ) → ball ≤ m.rows.n → All (λ u. u < m.rows.n) (between (v * m.rows.n) (v * m.rows.n + ball) m.rows.order.now)
  closest_inside ball few k d kn =
      let fits = row_fits v m.rows.n ball h few in
      let long = length-between m.rows.order.now (v * m.rows.n) (v * m.rows.n + ball) (omega (arith, m.rows.orders)) in
      omega (arith, get_or-between m.rows.order.now (v * m.rows.n) (v * m.rows.n + ball) k d (omega arith), get_or_default_zero m.rows.order.now (v * m.rows.n + k) d (omega (arith, m.rows.orders)), (m.sorted v h).inside k (omega arith))

-- read from behind
pub reverse_inside : (n : ℕ) (order : List ℕ) → All (λ u. u < n) order → All (λ u. u < n) (reverse order)
reverse_inside n order all k d h = omega (arith, get_or-reverse order k d (omega (arith, length-reverse order)), all (length order - 1 - k) d (omega (arith, length-reverse order)))
