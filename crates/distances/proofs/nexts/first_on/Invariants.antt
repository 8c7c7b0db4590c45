use Rattle.std.proofs.Common.{ℕ, ◌<◌, get_or}
use Rattle.distances.specs.Steps.{Leads}
use Rattle.distances.proofs.nexts.first_on.Given as goal

-- none of the arcs before leads on
abbrev pub invariant-loop-k : goal.invariant-loop-k
invariant-loop-k l = (j : ℕ) → j < l.k → Leads (get_or l.arcs.costs.now j 0) l.away (get_or l.dist (get_or l.arcs.places.now j 0) 0) → ⊥
