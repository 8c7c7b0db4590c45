use Rattle.std.proofs.Common.{◌≡◌, length}
use Rattle.choosing.proofs.Losses.{Fading}
use Rattle.choosing.proofs.turn.Turn.judge.Given as goal

abbrev pub invariant-loop-v : goal.invariant-loop-v
invariant-loop-v l = Fading l.self.map.rows.n l.self.map.rows.dist.now l.self.away.now l.c l.v l.lost × (length l.lost ≡ l.self.map.rows.n)
