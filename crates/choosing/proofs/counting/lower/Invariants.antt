use Rattle.std.proofs.Common.{◌≡◌, ℕ, ◌<◌, ◌≤◌, min, get_or}
use Rattle.choosing.proofs.counting.lower.Given as goal

abbrev pub invariant-loop-v : goal.invariant-loop-v
invariant-loop-v l = ((k : ℕ) → k < l.v → get_or l.away k 0 ≡ min (get_or l.initial.away k 0) (get_or l.row k 0)) × ((k : ℕ) → l.v ≤ k → get_or l.away k 0 ≡ get_or l.initial.away k 0)
