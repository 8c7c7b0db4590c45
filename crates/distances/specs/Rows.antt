-- A row of distances and next places in numbers, as lent memory holds it. Assumes nothing.
use Rattle.std.specs.Prelude.{◌≡◌, ℕ, ◌+◌, ◌*◌, ◌<◌, List, length, Ok, Err, Result, slice_index}
use Rattle.maps.specs.declared.kinds.Fault.{Fault}
use Rattle.maps.specs.declared.kinds.Fault.TheVariants.{Range}
use Rattle.distances.specs.Orders.{OrderRows}
use Rattle.ways.specs.Map.{Map, Far, Never, At, far, Hop, Nowhere, To, hop}

-- the number of a distance in 32 bits; the highest where there is no way
abbrev pub far_number : Far → ℕ
far_number Never = 4294967295
far_number (At c) = c

-- the number of a next place in 16 bits; the highest where there is none
abbrev pub hop_number : Hop → ℕ
hop_number Nowhere = 65535
hop_number (To e) = e

-- the distances from every place to d
abbrev pub FarRow : Map → ℕ → List ℕ → Type 0
FarRow z d dist = (a : ℕ) → a < z.n → slice_index dist a ≡ far_number (far z d a)

-- the next places from every place towards d
abbrev pub HopRow : Map → ℕ → List ℕ → Type 0
HopRow z d next = (a : ℕ) → a < z.n → slice_index next a ≡ hop_number (hop z d a)

-- all rows one after the other, that of place 0 first
abbrev pub FarRows : Map → List ℕ → Type 0
FarRows z dist = (d a : ℕ) → d < z.n → a < z.n → slice_index dist (d * z.n + a) ≡ far_number (far z d a)

abbrev pub HopRows : Map → List ℕ → Type 0
HopRows z next = (d a : ℕ) → d < z.n → a < z.n → slice_index next (d * z.n + a) ≡ hop_number (hop z d a)

-- what `row` leaves: the row, or all as it was where the place isn't there or the memory has another size
abbrev pub Worked : Map → ℕ → List ℕ → List ℕ → List ℕ → List ℕ → Result (Unit {0}) Fault → Type 0
Worked z d dist next dist' next' (Ok _) =
    (d < z.n) × (length dist ≡ z.n) × (length next ≡ z.n) × FarRow z d dist' × HopRow z d next'
Worked z d dist next dist' next' (Err f) =
    (f ≡ Range) × (dist' ≡ dist) × (next' ≡ next) × ((d < z.n) × (length dist ≡ z.n) × (length next ≡ z.n) → ⊥)

-- the same of all rows
abbrev pub WorkedAll : Map → List ℕ → List ℕ → List ℕ → List ℕ → Result (Unit {0}) Fault → Type 0
WorkedAll z dist next dist' next' (Ok _) = (length dist ≡ z.n * z.n) × (length next ≡ z.n * z.n) × FarRows z dist' × HopRows z next'
WorkedAll z dist next dist' next' (Err f) = (f ≡ Range) × (dist' ≡ dist) × (next' ≡ next) × ((length dist ≡ z.n * z.n) × (length next ≡ z.n * z.n) → ⊥)

-- the same of all rows and of the orders
abbrev pub WorkedAllInOrder : Map → List ℕ → List ℕ → List ℕ → List ℕ → List ℕ → List ℕ → Result (Unit {0}) Fault → Type 0
WorkedAllInOrder z dist next order dist' next' order' (Ok _) =
    (length dist ≡ z.n * z.n) × (length next ≡ z.n * z.n) × (length order ≡ z.n * z.n) × FarRows z dist' × HopRows z next' × OrderRows z.n dist' order'
WorkedAllInOrder z dist next order dist' next' order' (Err f) =
    (f ≡ Range) × (dist' ≡ dist) × (next' ≡ next) × (order' ≡ order) × ((length dist ≡ z.n * z.n) × (length next ≡ z.n * z.n) × (length order ≡ z.n * z.n) → ⊥)
