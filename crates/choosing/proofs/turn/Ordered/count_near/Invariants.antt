use Rattle.std.proofs.Common.{◌≡◌, ℕ, ◌<◌, get_or}
use Rattle.choosing.specs.Tables.{near_to}
use Rattle.choosing.proofs.turn.Ordered.count_near.Given as goal

abbrev pub invariant-loop-u : goal.invariant-loop-u
invariant-loop-u l = (k : ℕ) → k < l.u → get_or l.near k 0 ≡ near_to l.self.rows.n l.self.rows.dist.now l.away k
