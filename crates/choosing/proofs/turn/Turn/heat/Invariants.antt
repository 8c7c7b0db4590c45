use Rattle.std.proofs.Common.{◌≡◌, ℕ, ◌+◌, ◌<◌, false, ltb, get_or}
use Rattle.choosing.proofs.turn.Turn.heat.Given as goal

abbrev pub invariant-loop-u : goal.invariant-loop-u
invariant-loop-u l = (k : ℕ) → k < l.u → get_or l.hot k false ≡ ltb l.self.room (l.self.lines.count + get_or l.self.lines.near.now k 0)
