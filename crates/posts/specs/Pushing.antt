-- What one line more does to a post, and when it is refused. Assumes nothing.
--
-- Glossary
--   Above      a line names a higher place than all lines that are there
--   NotAbove   some line that is there names the same place or a higher one
--   Pushed     p are the lines before, q those after, r what was answered
use Rattle.std.specs.Prelude.{◌≡◌, ℕ, ◌<◌, ◌≤◌, List, [], ◌∷◌, ◌++◌, length, Ok, Err, Result}
use Rattle.posts.specs.declared.kinds.Line.{Line}
use Rattle.posts.specs.declared.kinds.Refused.{Refused}
use Rattle.posts.specs.declared.kinds.Refused.TheVariants.{Full, Order}
use Rattle.posts.specs.Posts.{place_at}

abbrev pub Above : List Line → Line → Type 0
Above p line = (k : ℕ) → k < length p → place_at p k < line.place

abbrev pub NotAbove : List Line → Line → Type 0
NotAbove p line = (k : ℕ) × (k < length p) × (line.place ≤ place_at p k)

-- a full post refuses each line; another takes the line where it is above all, and refuses it else
abbrev pub Pushed : List Line → List Line → Line → Result (Unit {0}) Refused → Type 0
Pushed p q line (Ok u) = (length p < 255) × Above p line × (q ≡ p ++ line ∷ [])
Pushed p q line (Err Full) = (length p ≡ 255) × (q ≡ p)
Pushed p q line (Err Order) = (length p < 255) × NotAbove p line × (q ≡ p)
