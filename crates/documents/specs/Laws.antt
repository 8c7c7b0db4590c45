-- The laws of map documents, each as a type; a proof of the type is the theorem. Assumes nothing.
use Rattle.std.specs.Prelude.{◌≡◌, ℕ, ◌<◌, true, List, ◌++◌, length, drop}
use Rattle.ways.specs.Ways.{hangs_together}
use Rattle.maps.specs.Roads.{map_of, SoundRoads}
use Rattle.reading.specs.declared.kinds.Place.{Place}
use Rattle.reading.specs.Reading.{Got, start, Bytes, Cut, Reads}
use Rattle.documents.specs.Maps.{Charted, read_map_at, read_whole_map, write_map}

-- A map without a fault, that hangs together.
pub record Sound (m : Charted) : Type 0 where
  pub roads : SoundRoads m.places m.roads
  pub whole : hangs_together (map_of m.places m.roads) ≡ true

-- Every sound map, once written, is read again, whatever comes after it.
abbrev pub ComesBack : Type 0
ComesBack = (m : Charted) → Sound m → (rest : List ℕ) → Reads (read_map_at (write_map m ++ rest) start) m (length (write_map m))

abbrev pub ComesBackWhole : Type 0
ComesBackWhole = (m : Charted) → Sound m → Reads (read_whole_map (write_map m)) m (length (write_map m))

-- Whatever is read is sound, and written again gives the bytes that it was read from.
abbrev pub GoesBack : Type 0
GoesBack = (bytes : List ℕ) → Bytes bytes → (m : Charted) (next : Place) → read_map_at bytes start ≡ Got m next
    → Sound m × (bytes ≡ write_map m ++ drop next.byte bytes)

abbrev pub GoesBackWhole : Type 0
GoesBackWhole = (bytes : List ℕ) → Bytes bytes → (m : Charted) (next : Place) → read_whole_map bytes ≡ Got m next
    → Sound m × (bytes ≡ write_map m)

-- Every front of a written map, but the whole, is refused for its form.
abbrev pub CutIsTold : Type 0
CutIsTold = (m : Charted) → Sound m → (front back : List ℕ) → write_map m ≡ front ++ back → 0 < length back
    → Cut (read_map_at front start) × Cut (read_whole_map front)
