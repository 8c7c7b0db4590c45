-- Landmarks in numbers, as the code has them. Assumes nothing.
use Rattle.std.specs.Prelude.{ℕ, cond, Some, None, Option, nat_lt}
use Rattle.distances.specs.Rows.{far_number}
use Rattle.landmarks.specs.Landmarks.{Is, Mark, Marks, NoMark, mark_of}
use Rattle.landmarks.specs.declared.kinds.Nearest.{Nearest}
use Rattle.ways.specs.Map.{Map}

abbrev pub mark_numbers : Mark → Option Nearest
mark_numbers NoMark = None
mark_numbers (Is m a) = Some (record { place = m; away = far_number a })

-- the landmark of v, or none beyond the places
abbrev pub landmark_in : Map → Marks → ℕ → Option Nearest
landmark_in z l v = cond (nat_lt v z.n) (mark_numbers (mark_of z l v)) None

abbrev pub or_nearer : Option Nearest → ℕ → ℕ → Option Nearest
or_nearer None k x = Some (record { place = k; away = x })
or_nearer (Some b) k x = cond (nat_lt x b.away) (Some (record { place = k; away = x })) (Some b)

-- the same where there is a landmark; where there is none, place 0 at no distance
abbrev pub mark_number : Mark → Nearest
mark_number NoMark = record { place = 0; away = 4294967295 }
mark_number (Is m a) = record { place = m; away = far_number a }
