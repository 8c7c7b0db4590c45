-- What choosing answers: the landmarks, or why there are none. Assumes nothing.
--
-- Glossary
--   Crowding   a post has most lines of all, and is the lowest such
--   Stopped    what the rule ended with, where the landmarks stand in a list
--   Chose      what choosing answers for a map and a room
use Rattle.std.specs.Prelude.{◌≡◌, ℕ, ◌+◌, ◌<◌, ◌≤◌, Bool, List, length, Some, None, Ok, Err, vec_items, vec_len, Result, Vec, slice_index}
use Rattle.std.specs.declared.alloc.Global.{Global}
use Rattle.choosing.specs.Choosing.{NoRoom, Marked, chosen}
use Rattle.choosing.specs.declared.kinds.Crowd.{Crowd}
use Rattle.choosing.specs.declared.kinds.Unchosen.{Unchosen}
use Rattle.choosing.specs.declared.kinds.Unchosen.TheVariants.{Apart, Crowded, Memory}
use Rattle.distances.specs.Unreached.{Lowest}
use Rattle.landmarks.specs.Landmarks.{Marks, marks_in, line_count}
use Rattle.maps.specs.declared.kinds.Fault.{Fault}
use Rattle.maps.specs.declared.kinds.Fault.TheVariants.{Apart as ApartFault, Room as RoomFault, Memory as MemoryFault}
use Rattle.ways.specs.Map.{Map}
use Rattle.ways.specs.Ways.{count_below}

pub record Crowding (z : Map) (l : Marks) (crowd : Crowd) : Type 0 where
  pub there : crowd.post < z.n
  pub lines : crowd.lines ≡ line_count z l crowd.post
  pub most : (u : ℕ) → u < z.n → line_count z l u ≤ line_count z l crowd.post
  pub lowest : (u : ℕ) → u < crowd.post → line_count z l u < line_count z l crowd.post
  pub landmarks : crowd.landmarks ≡ count_below z.n l

abbrev pub Stopped : Map → ℕ → List Bool → Result (Unit {0}) Crowd → Type 0
Stopped z room marks (Ok _) = chosen z room ≡ Marked (marks_in marks)
Stopped z room marks (Err crowd) = (chosen z room ≡ NoRoom (marks_in marks)) × Crowding z (marks_in marks) crowd

-- the landmarks of the rule on a map that hangs together; or the crowd with which it gave up; or the lowest place that can't be reached
abbrev pub Chose : Map → ℕ → Result (Vec Bool Global) Unchosen → Type 0
Chose z room (Ok marks) = Lowest z None × (vec_len marks ≡ z.n) × (chosen z room ≡ Marked (marks_in (vec_items marks)))
Chose z room (Err (Crowded crowd)) = Lowest z None × (l : Marks) × (chosen z room ≡ NoRoom l) × Crowding z l crowd
Chose z room (Err (Apart a)) = Lowest z (Some a)
Chose z room (Err Memory) = Unit {0}

-- the fault of each case
abbrev pub unchosen_fault : Unchosen → Fault
unchosen_fault (Apart a) = ApartFault
unchosen_fault (Crowded crowd) = RoomFault
unchosen_fault Memory = MemoryFault

-- the place that most places are near, the lowest among equals, with its lines
pub record Fullest (near : List ℕ) (count : ℕ) (crowd : Crowd) : Type 0 where
  pub there : crowd.post < length near
  pub lines : crowd.lines + 1 ≡ count + slice_index near crowd.post
  pub most : (u : ℕ) → u < length near → slice_index near u ≤ slice_index near crowd.post
  pub lowest : (u : ℕ) → u < crowd.post → slice_index near u < slice_index near crowd.post
  pub landmarks : crowd.landmarks ≡ count
