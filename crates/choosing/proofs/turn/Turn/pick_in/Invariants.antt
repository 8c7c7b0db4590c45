use Rattle.std.proofs.Common.{◌≡◌, length}
use Rattle.choosing.proofs.Picks.{Picking}
use Rattle.choosing.proofs.turn.Turn.pick_in.Given as goal

abbrev pub invariant-loop-c : goal.invariant-loop-c
invariant-loop-c l = Picking l.self.map.rows.n l.self.map.rows.dist.now l.self.marks.now l.self.away.now l.self.lines.count l.self.room l.c-counter l.best × (length l.lost ≡ l.self.map.rows.n)
