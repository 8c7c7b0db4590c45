use Rattle.std.proofs.Common.{◌≡◌, ℕ, ◌*◌, ◌<◌, ◌≤◌, length, get_or}
use Rattle.choosing.specs.Choosing.{sum_below}
use Rattle.choosing.specs.Tables.{loss_at, weight}
use Rattle.choosing.proofs.turn.Turn.bound.Given as goal

abbrev pub invariant-loop-v : goal.invariant-loop-v
invariant-loop-v l =
    let r = l.self.map.rows in
    ((c : ℕ) → c < r.n → sum_below l.v (λ v. loss_at r.n r.dist.now l.self.away.now (weight l.hot) v c) ≤ get_or l.total c 0)
    × ((c : ℕ) → c < r.n → get_or l.total c 0 ≤ 512 * l.v) × (length l.total ≡ r.n)
