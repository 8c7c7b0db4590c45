use Rattle.std.proofs.Common.{take}
use Rattle.std.specs.Fmt.{HasWritten, IsPlainFormatter}
use Rattle.std.specs.List.{flat_map}
use Rattle.walk.specs.Words.{passed_words}
use Rattle.walk.proofs.walk.WalkDisplay.fmt.Given as goal

-- the places passed so far are written
abbrev pub invariant-loop-place : goal.invariant-loop-place
invariant-loop-place g l =
    IsPlainFormatter l.initial.f → HasWritten g.W.Write.write_str_gives l.initial.f (flat_map passed_words (take l.place-index l.passed)) l.f
