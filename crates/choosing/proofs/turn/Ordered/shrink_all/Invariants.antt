use Rattle.std.proofs.Common.{◌≡◌, ℕ, ◌<◌, ◌≤◌, get_or}
use Rattle.choosing.specs.Turns.{BallAt}
use Rattle.choosing.proofs.turn.Ordered.shrink_all.Given as goal

abbrev pub invariant-loop-v : goal.invariant-loop-v
invariant-loop-v l =
    ((w : ℕ) → w < l.v → BallAt l.self.rows.n l.self.rows.dist.now l.self.rows.order.now w (get_or l.away w 0) (get_or l.ball w 0))
    × ((w : ℕ) → l.v ≤ w → get_or l.ball w 0 ≡ get_or l.initial.ball w 0)
