-- The number and the words by which each fault is told. Assumes nothing.
use Rattle.std.specs.Prelude.{ℕ, List, codes}
use Rattle.maps.specs.declared.kinds.Fault.{Fault}
use Rattle.maps.specs.declared.kinds.Fault.TheVariants.{Form, Range, Order, Cost, Apart, Room, Plan, Same, Memory}

-- want of memory is no fault of the input, and has no number of its own there: 0
abbrev pub number_of : Fault → ℕ
number_of Form = 1
number_of Range = 2
number_of Order = 3
number_of Cost = 4
number_of Apart = 5
number_of Room = 6
number_of Plan = 7
number_of Same = 8
number_of Memory = 0

abbrev pub fault_words : Fault → List ℕ
fault_words Form = codes "an unknown kind, a record that is cut, or bytes left over"
fault_words Range = codes "a number out of its range, or a place that isn't there"
fault_words Order = codes "roads not in rising order"
fault_words Cost = codes "a road of cost 0"
fault_words Apart = codes "the map doesn't hang together"
fault_words Room = codes "no room on the posts"
fault_words Plan = codes "a plan that can't be read or doesn't fit the map"
fault_words Same = codes "a change of a road that is so already"
fault_words Memory = codes "no memory"
