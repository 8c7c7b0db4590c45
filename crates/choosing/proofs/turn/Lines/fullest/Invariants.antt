use Rattle.std.proofs.Common.{ℕ, ◌<◌, ◌≤◌, length, get_or}
use Rattle.choosing.proofs.turn.Lines.fullest.Given as goal

abbrev pub invariant-loop-u : goal.invariant-loop-u
invariant-loop-u l =
    (l.post < length l.self.near.now) × (l.post ≤ l.u) × ((k : ℕ) → k < l.u → get_or l.self.near.now k 0 ≤ get_or l.self.near.now l.post 0)
    × ((k : ℕ) → k < l.post → get_or l.self.near.now k 0 < get_or l.self.near.now l.post 0)
