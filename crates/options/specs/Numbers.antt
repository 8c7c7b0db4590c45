-- Words that are numbers. Assumes nothing.
use Rattle.std.specs.Prelude.{ℕ, min, Bool, cond, not, ◌&&◌, List, length, Some, None, Option, ◌==◌}
use Rattle.std.specs.Str.Parse.{digits_value}
use Rattle.std.specs.Str.{all_ascii_digits}

-- one digit or more, and nothing else
abbrev pub is_number : List ℕ → Bool
is_number w = not (length w == 0) && all_ascii_digits w

-- the number that a word is, or the highest of 64 bits
abbrev pub number_of : List ℕ → Option ℕ
number_of w = cond (is_number w) (Some (min (digits_value 10 w) 18446744073709551615)) None
