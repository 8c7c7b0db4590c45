-- The laws of choosing, each as a type; a proof of the type is the theorem. Assumes nothing.
use Rattle.std.specs.Prelude.{◌≡◌, ℕ, ◌+◌, ◌<◌, ◌≤◌, true, false, cond, ◌&&◌, ◌||◌, ◌==◌, nat_eq}
use Rattle.ways.specs.Map.{Map}
use Rattle.ways.specs.Ways.{count_below}
use Rattle.landmarks.specs.Landmarks.{Marks, line_count}
use Rattle.choosing.specs.Choosing.{above, with_mark, Chosen, NoRoom, Marked, choose, chosen, first}

-- Of the places that aren't landmarks, c is the one after which the lines above room are fewest, the lowest among equals.
pub record BestPlace (z : Map) (room : ℕ) (l : Marks) (c : ℕ) : Type 0 where
  pub there : c < z.n
  pub unmarked : l c ≡ false
  pub fewest : (e : ℕ) → e < z.n → l e ≡ false → above z room (with_mark c l) ≤ above z room (with_mark e l)
  pub lowest : (e : ℕ) → e < c → l e ≡ false → above z room (with_mark c l) < above z room (with_mark e l)

-- every post has room; some post has more lines than that
abbrev pub Roomy : Map → ℕ → Marks → Type 0
Roomy z room l = (u : ℕ) → u < z.n → line_count z l u ≤ room

abbrev pub Crowded : Map → ℕ → Marks → Type 0
Crowded z room l = (u : ℕ) × (u < z.n) × (room < line_count z l u)

-- The rule, step by step: where every post has room, it ends with these landmarks; where some post has more and there are more landmarks than
-- room, it gives up; else the best place becomes a landmark, and it goes on from there.
pub data Rule (z : Map) (room : ℕ) : Marks → Chosen → Type 0 where
  fits : (l : Marks) → Roomy z room l → Rule z room l (Marked l)
  gives_up : (l : Marks) → Crowded z room l → room < count_below z.n l → Rule z room l (NoRoom l)
  goes_on : (l : Marks) (c : ℕ) (r : Chosen) → Crowded z room l → count_below z.n l ≤ room → BestPlace z room l c → Rule z room (with_mark c l) r → Rule z room l r

-- What is chosen is what the rule comes to, from place 0 alone; it comes to one thing only.
abbrev pub ByTheRule : Type 0
ByTheRule = (z : Map) (room : ℕ) → Rule z room first (chosen z room)

abbrev pub RuleAlone : Type 0
RuleAlone = (z : Map) (room : ℕ) (l : Marks) (r s : Chosen) → Rule z room l r → Rule z room l s → r ≡ s

-- Landmarks that are chosen leave every post with room, and place 0 is one of them.
abbrev pub HasRoom : Type 0
HasRoom = (z : Map) (room : ℕ) (l : Marks) → chosen z room ≡ Marked l → (l 0 ≡ true) × Roomy z room l

-- Where there is no room, the rule came to more landmarks than room, place 0 among them, and some post has more lines still.
abbrev pub NoRoomFound : Type 0
NoRoomFound = (z : Map) (room : ℕ) (l : Marks) → chosen z room ≡ NoRoom l → (l 0 ≡ true) × Crowded z room l × (room < count_below z.n l)

-- The turns that the definition allows are enough: with more of them nothing else is chosen.
abbrev pub TurnsSuffice : Type 0
TurnsSuffice = (z : Map) (room k : ℕ) → room + 2 ≤ k → choose k z room first ≡ chosen z room

-- If there are no more places than room and one more, place 0 is enough.
abbrev pub FewPlaces : Type 0
FewPlaces = (z : Map) (room : ℕ) → z.n ≤ room + 1 → chosen z room ≡ Marked first

-- No room means that the rule found none: other landmarks may leave every post with room.
--   0 - 1 - 2      a row of three places and room for 1 line: the rule gives up with 0 and 1, while 1 alone would do
abbrev pub three_in_a_row : Map
three_in_a_row = record { n = 3; cost = λ a e. cond ((a == 1 && (e == 0 || e == 2)) || (e == 1 && (a == 0 || a == 2))) 1 0 }

abbrev pub OthersMayFit : Type 0
OthersMayFit = (chosen three_in_a_row 1 ≡ NoRoom (with_mark 1 first)) × Roomy three_in_a_row 1 (λ v. nat_eq v 1)
