-- A map document: what reading one gives, for every input, and how one is written. Assumes nothing.
--
-- Glossary
--   Charted          a map as it is written: how many places there are, and the roads
--   head_of          the first record, 5 bytes: the kind, how many places there are, how many roads
--   read_roads       the first record and the roads
--   apart            what is wrong with a map that doesn't hang together
--   read_map_at      a map that something else may follow: at its end it is told if it is apart
--   read_last_map    a map with which the input has to end: bytes left over are told at its end too, and first
--   read_whole_map   a map that is the whole input
--   write_map        the bytes of a map
use Rattle.std.specs.Prelude.{ℕ, cond, not, List, ◌∷◌, ◌++◌, length, Some, None, Option, slice_index}
use Rattle.std.specs.List.{flat_map}
use Rattle.ways.specs.Ways.{hangs_together}
use Rattle.maps.specs.Roads.{size_fault, or_else, map_of}
use Rattle.maps.specs.declared.kinds.Fault.{Fault}
use Rattle.maps.specs.declared.kinds.Fault.TheVariants.{Form, Apart}
use Rattle.maps.specs.declared.kinds.Road.{Road}
use Rattle.reading.specs.declared.kinds.Place.{Place}
use Rattle.reading.specs.declared.kinds.Record.TheVariants.{Header}
use Rattle.reading.specs.Reading.{Read, Shape, then, both, one, many, closed, left_over, start, word, bytes_of}
use Rattle.reading.specs.Roads.{road_shape, road_bytes}
use Rattle.documents.specs.declared.kinds.MapHead.{MapHead}
use Rattle.documents.specs.Kinds.{kind_of, is_map}

pub record Charted : Type 0 where
  pub places : ℕ
  pub roads : List Road

abbrev pub head_of : List ℕ → MapHead
head_of bs = record { kind = slice_index bs 0; places = word bs 1; roads = word bs 3 }

abbrev pub head_fault : MapHead → Option Fault
head_fault h = cond (not (is_map (kind_of h.kind))) (Some Form) (size_fault h.places h.roads)

abbrev pub head_shape : Shape MapHead
head_shape = record { sort = Header; size = 5; value = head_of; fault = λ _ _. head_fault }

-- Before the first record is read no place is known: n is 0 there.
abbrev pub read_roads : List ℕ → Place → Read Charted
read_roads bytes =
    both (λ h roads. record { places = h.places; roads = roads })
    (one head_shape 0 bytes None) (λ h. many (one road_shape h.places bytes) h.roads None)

abbrev pub apart : Charted → Option Fault
apart m = cond (hangs_together (map_of m.places m.roads)) None (Some Apart)

abbrev pub read_map_at : List ℕ → Place → Read Charted
read_map_at bytes at = then (read_roads bytes at) (λ m p. closed (apart m) m p)

abbrev pub last_fault : List ℕ → Charted → Place → Option Fault
last_fault bytes m p = or_else (left_over bytes p) (apart m)

abbrev pub read_last_map : List ℕ → Place → Read Charted
read_last_map bytes at = then (read_roads bytes at) (λ m p. closed (last_fault bytes m p) m p)

abbrev pub read_whole_map : List ℕ → Read Charted
read_whole_map bytes = read_last_map bytes start

abbrev pub head_bytes : MapHead → List ℕ
head_bytes h = h.kind ∷ bytes_of h.places ++ bytes_of h.roads

-- the first record of a map
abbrev pub head_in : Charted → MapHead
head_in m = record { kind = 1; places = m.places; roads = length m.roads }

abbrev pub write_map : Charted → List ℕ
write_map m = head_bytes (head_in m) ++ flat_map road_bytes m.roads
