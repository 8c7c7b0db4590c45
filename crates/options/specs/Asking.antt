-- What the words of a command line ask for before all else. Assumes nothing.
use Rattle.std.specs.Prelude.{ℕ, Bool, true, false, cond, List, [], ◌∷◌, codes}
use Rattle.std.specs.Str.{bytes_eq}
use Rattle.options.specs.declared.kinds.Asked.{Asked}
use Rattle.options.specs.declared.kinds.Asked.TheVariants.{Help, Version, Work}

-- an option stands among some words, before `--`
abbrev pub stands_in : List ℕ → List (List ℕ) → Bool
stands_in option [] = false
stands_in option (w ∷ ws) = cond (bytes_eq w option) true (cond (bytes_eq w (codes "--")) false (stands_in option ws))

abbrev pub asked_in : List (List ℕ) → Asked
asked_in ws = cond (stands_in (codes "--help") ws) Help (cond (stands_in (codes "--version") ws) Version Work)
