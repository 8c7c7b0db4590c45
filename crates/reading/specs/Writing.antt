-- What it is to write something behind what is there. Assumes nothing.
use Rattle.std.specs.Prelude.{◌≡◌, ℕ, cond, List, ◌++◌, is_ok, Result}

-- What `out` holds then: what it held and all that was to be written; or, for want of memory, what it held.
abbrev pub Wrote : {U E : Type 0} → List ℕ → List ℕ → Result U E → List ℕ → Type 0
Wrote old more r new = new ≡ cond (is_ok r) (old ++ more) old
