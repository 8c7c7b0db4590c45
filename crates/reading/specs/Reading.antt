-- What it is to read an input record by record, up to its end or its first fault. Assumes nothing.
--
-- Glossary
--   Read     what reading gives: a value and the place after it, or the first record that is refused
--   Shape    a sort of record
--   one      one record: it is cut, or at fault, or has its value
--   many     some records of one sort, each read with the one before it in sight
--   both     one thing and then another, of another sort
--   closed   the end of a document, a record of no bytes: what is wrong with the whole is told there
--   word     the number in two bytes, high byte first; bytes_of writes it
use Rattle.std.specs.Prelude.{◌≡◌, ℕ, zero, suc, ◌+◌, ◌*◌, ◌/◌, ◌%◌, ◌<◌, cond, List, [], ◌∷◌, length, take, drop, Some, None, Option, ◌==◌, nat_lt, slice_index}
use Rattle.maps.specs.declared.kinds.Fault.{Fault}
use Rattle.maps.specs.declared.kinds.Fault.TheVariants.{Form}
use Rattle.reading.specs.declared.kinds.Place.{Place}
use Rattle.reading.specs.declared.kinds.Record.{Record}
use Rattle.reading.specs.declared.kinds.Record.TheVariants.{End}
use Rattle.reading.specs.declared.kinds.Refusal.{Refusal}

-- A reader is a function of the whole input and a place: List ℕ → Place → Read A.
pub data Read (A : Type 0) : Type 0 where
  Got : A → Place → Read A
  Bad : Refusal → Read A

abbrev pub refuse : {A : Type 0} → Fault → Record → Place → Read A
refuse fault sort at = Bad (record { fault = fault; «record» = sort; at = at })

abbrev pub start : Place
start = record { index = 0; byte = 0 }

-- The place after a record of some bytes.
abbrev pub after : Place → ℕ → Place
after at size = record { index = at.index + 1; byte = at.byte + size }

-- The same byte, where another sort of record begins: they are counted from 0 again.
abbrev pub fresh : Place → Place
fresh at = record { index = 0; byte = at.byte }

-- One thing after another.
abbrev pub then : {A B : Type 0} → Read A → (A → Place → Read B) → Read B
then (Got a at) next = next a at
then (Bad refusal) next = Bad refusal

abbrev pub both : {A B C : Type 0} → (A → B → C) → (Place → Read A) → (A → Place → Read B) → Place → Read C
both make first second at = then (first at) (λ a p. then (second a (fresh p)) (λ b q. Got (make a b) q))

-- A value, and the place after it, unless its record has a fault.
abbrev pub judged : {A : Type 0} → Option Fault → Record → A → Place → Place → Read A
judged None sort a at next = Got a next
judged (Some fault) sort a at next = refuse fault sort at

-- A sort of record: its name, how many bytes it has, what they mean, and what is wrong with a record in a map of n places, after the one before it.
pub record Shape (A : Type 0) : Type 0 where
  pub sort : Record
  pub size : ℕ
  pub value : List ℕ → A
  pub fault : ℕ → Option A → A → Option Fault

-- One record. It is decoded whole and then judged, so that a cut record is refused for its form whatever else is wrong with it.
abbrev pub one : {A : Type 0} → Shape A → ℕ → List ℕ → Option A → Place → Read A
one shape n bytes last at =
    cond (nat_lt (length bytes) (at.byte + shape.size))
    (refuse Form shape.sort at)
    (judged (shape.fault n last (shape.value (take shape.size (drop at.byte bytes))))
    shape.sort (shape.value (take shape.size (drop at.byte bytes))) at (after at shape.size))

abbrev pub many : {A : Type 0} → (Option A → Place → Read A) → ℕ → Option A → Place → Read (List A)
many step zero last at = Got [] at
many step (suc k) last at = then (step last at) (λ a p. then (many step k (Some a) p) (λ rest q. Got (a ∷ rest) q))

abbrev pub closed : {A : Type 0} → Option Fault → A → Place → Read A
closed fault a at = judged fault End a (fresh at) (fresh at)

-- What is wrong with bytes that are left over.
abbrev pub left_over : List ℕ → Place → Option Fault
left_over bytes at = cond (at.byte == length bytes) None (Some Form)

abbrev pub word : List ℕ → ℕ → ℕ
word bs i = slice_index bs i * 256 + slice_index bs (i + 1)

abbrev pub bytes_of : ℕ → List ℕ
bytes_of x = x / 256 ∷ x % 256 ∷ []

-- Numbers that are bytes.
abbrev pub Bytes : List ℕ → Type 0
Bytes bs = (k : ℕ) → slice_index bs k < 256

-- A refusal for the form, as of a record that is cut.
abbrev pub Cut : {A : Type 0} → Read A → Type 0
Cut (Got a at) = ⊥
Cut (Bad refusal) = refusal.fault ≡ Form

-- A value is read, up to a byte.
abbrev pub Reads : {A : Type 0} → Read A → A → ℕ → Type 0
Reads x a byte = (next : Place) × (x ≡ Got a next) × (next.byte ≡ byte)
