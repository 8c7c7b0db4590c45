-- A place put behind those that are noted, and that it takes the room of one, which the trait asks of its impl. Assumes nothing.
use Rattle.std.specs.Prelude.{◌≡◌, ℕ, ◌+◌, ◌≤◌, [], ◌∷◌, ◌++◌, Vec, vec_capacity, vec_items, vec_len}
use Rattle.std.specs.declared.alloc.Global.{Global}
use Rattle.std.proofs.Common.{arith}

abbrev pub Noted : Vec ℕ Global → ℕ → Vec ℕ Global → Type 0
Noted before place after = (vec_items after ≡ vec_items before ++ place ∷ []) × (vec_len after ≡ vec_len before + 1) × (vec_capacity after ≡ vec_capacity before)

pub vec_room_left : (before after : Vec ℕ Global) (place k : ℕ) → vec_len before + (k + 1) ≤ vec_capacity before → Noted before place after → vec_len after + k ≤ vec_capacity after
vec_room_left before after place k room noted = omega (arith, noted.1, noted.2)
