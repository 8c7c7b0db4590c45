-- What the code answers for what is read: the words of the contracts. Assumes nothing.
use Rattle.std.specs.Prelude.{◌≡◌, true, is_ok, Ok, Err, Result}
use Rattle.maps.specs.declared.kinds.Fault.{Fault}
use Rattle.maps.specs.declared.kinds.Fault.TheVariants.{Memory as NoMemory}
use Rattle.reading.specs.declared.kinds.Place.{Place}
use Rattle.reading.specs.declared.kinds.Refusal.{Refusal}
use Rattle.reading.specs.declared.kinds.Stop.{Stop}
use Rattle.reading.specs.declared.kinds.Stop.TheVariants.{Input, Memory}
use Rattle.reading.specs.Reading.{Read, Got, Bad}

-- The fault for which reading stopped.
abbrev pub fault_of : Stop → Fault
fault_of (Input refusal) = refusal.fault
fault_of Memory = NoMemory

-- What a reader that cannot run out of memory answers, and where it stands then: a refusal leaves it where it was.
abbrev pub answer : {A : Type 0} → Read A → Result A Refusal
answer (Got a at) = Ok a
answer (Bad refusal) = Err refusal

abbrev pub stands : {A : Type 0} → Read A → Place → Place
stands (Got a next) at = next
stands (Bad refusal) at = at

-- What a reader that allocates answers: exactly what is read, want of memory aside; `view` is what a value holds.
abbrev pub Tells : {A B : Type 0} → (B → A) → Read A → Result B Stop → Type 0
Tells view (Got a next) (Ok b) = view b ≡ a
Tells view (Got a next) (Err (Input r)) = ⊥
Tells view (Got a next) (Err Memory) = Unit {0}
Tells view (Bad refusal) (Ok b) = ⊥
Tells view (Bad refusal) (Err (Input r)) = r ≡ refusal
Tells view (Bad refusal) (Err Memory) = Unit {0}

-- .. and stands, after a value, at the place after it.
abbrev pub Told : {A B : Type 0} → (B → A) → Read A → Result B Stop → Place → Type 0
Told view x r at = Tells view x r × (is_ok r ≡ true → at ≡ stands x at)
