-- What the loop that writes records keeps: so many are written behind what was there. Assumes nothing.
use Rattle.std.proofs.Common.{◌≡◌, ◌++◌, take, vec_items}
use Rattle.std.specs.List.{flat_map}
use Rattle.reading.proofs.writer.put_all.Given as goal

abbrev pub invariant-loop-item : goal.invariant-loop-item
invariant-loop-item g l = vec_items l.out ≡ vec_items l.initial.out ++ flat_map g.T.Put.writes (take l.item-index l.items)
