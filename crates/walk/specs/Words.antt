-- What the line of a walk says. Assumes nothing.
use Rattle.std.specs.Prelude.{ℕ, ◌++◌, List, codes, decimal}
use Rattle.std.specs.List.{flat_map}
use Rattle.walking.specs.declared.kinds.End.{End}
use Rattle.walking.specs.declared.kinds.End.TheVariants.{Arrived, Stuck, Worn}
use Rattle.walk.specs.declared.walk.Walk.{Walk}

-- a place that is passed
abbrev pub passed_words : ℕ → List ℕ
passed_words place = codes " " ++ decimal place

abbrev pub end_words : End → List ℕ
end_words (Arrived cost) = codes " cost " ++ decimal cost
end_words (Stuck place) = codes " stuck at " ++ decimal place
end_words Worn = codes " worn out"

abbrev pub walk_words : Walk → List ℕ
walk_words walk =
    decimal walk.from ++ (codes " to " ++ (decimal walk.to ++ (codes ": " ++ (decimal walk.from ++ (flat_map passed_words walk.passed.now ++ end_words walk.end)))))
