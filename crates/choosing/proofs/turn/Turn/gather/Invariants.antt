use Rattle.choosing.proofs.Gathers.{Gathers}
use Rattle.choosing.proofs.turn.Turn.gather.Given as goal

abbrev pub invariant-loop-c : goal.invariant-loop-c
invariant-loop-c l = Gathers l.self l.v l.hot l.c-index l.passed l.closer l.last l.initial.total l.total
