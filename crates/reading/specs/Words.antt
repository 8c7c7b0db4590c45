-- The words in which a refusal is told: the names of the sorts of records, and where a record stands. Assumes nothing.
use Rattle.std.specs.Prelude.{ℕ, ◌++◌, List, codes, decimal}
use Rattle.maps.specs.Faults.{number_of, fault_words}
use Rattle.reading.specs.declared.kinds.Place.{Place}
use Rattle.reading.specs.declared.kinds.Record.{Record}
use Rattle.reading.specs.declared.kinds.Record.TheVariants.{Header, Road, End}
use Rattle.reading.specs.declared.kinds.Refusal.{Refusal}
use Rattle.reading.specs.declared.kinds.Stop.{Stop}
use Rattle.reading.specs.declared.kinds.Stop.TheVariants.{Input, Memory}

abbrev pub record_name : Record → List ℕ
record_name Header = codes "header"
record_name Road = codes "road"
record_name End = codes "end"

abbrev pub place_words : Place → List ℕ
place_words at = decimal at.index ++ (codes " at byte " ++ decimal at.byte)

abbrev pub refusal_words : Refusal → List ℕ
refusal_words refusal =
    codes "fault " ++ (decimal (number_of refusal.fault) ++ (codes ": " ++ (record_name refusal.record ++ (codes " " ++ (place_words refusal.at ++ (codes ": " ++ fault_words refusal.fault))))))

abbrev pub stop_words : Stop → List ℕ
stop_words (Input refusal) = refusal_words refusal
stop_words Memory = codes "no memory"
