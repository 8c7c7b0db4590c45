use Rattle.std.proofs.Common.{◌++◌, codes}
use Rattle.std.specs.Fmt.{HasWritten, IsPlainFormatter}
use Rattle.std.specs.List.{flat_map}
use Rattle.rows.specs.Words.{entry_words}
use Rattle.rows.proofs.row.RowDisplay.fmt.Given as goal

-- the entries so far are written
abbrev pub invariant-loop-dist : goal.invariant-loop-dist
invariant-loop-dist g l =
    IsPlainFormatter l.initial.f
    → HasWritten g.W.Write.write_str_gives l.initial.f (flat_map (λ entry. codes " " ++ entry_words (entry.0.now, entry.1.now)) l.yielded) l.f
