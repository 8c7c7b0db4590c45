-- What the line of a row says. Assumes nothing.
use Rattle.std.specs.Prelude.{ℕ, cond, ◌++◌, ◌==◌, List, codes, decimal}
use Rattle.std.specs.List.{flat_map, zip}
use Rattle.rows.specs.declared.row.Row.{Row}

-- the distance from a place, and the next place from it; a dash where there is none
abbrev pub entry_words : ℕ × ℕ → List ℕ
entry_words entry = decimal entry.0 ++ (codes "/" ++ cond (entry.1 == 65535) (codes "-") (decimal entry.1))

abbrev pub row_words : Row → List ℕ
row_words row = codes "to " ++ (decimal row.to ++ (codes ":" ++ flat_map (λ entry. codes " " ++ entry_words entry) (zip row.dist.now row.next.now)))
