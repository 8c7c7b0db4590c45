use Rattle.std.proofs.Common.{length}
use Rattle.choosing.proofs.Fadings.{Fading-at}
use Rattle.choosing.proofs.turn.Turn.fade.Given as goal

abbrev pub invariant-loop-u : goal.invariant-loop-u
invariant-loop-u l = Fading-at l.self l.v l.fn.from (length l.yielded) l.initial.lost l.lost
