-- What a line of a post says in print. Assumes nothing.
use Rattle.std.specs.Prelude.{ℕ, cond, ◌++◌, List, codes, decimal}
use Rattle.posts.specs.declared.kinds.Line.{Line}

abbrev pub line_words : Line → List ℕ
line_words line =
    decimal line.place ++ (codes " by " ++ (decimal line.next ++ (codes " " ++ cond line.near (codes "near") (codes "landmark"))))
