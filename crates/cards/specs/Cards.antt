-- What stands on the card of a place, and the number of a hint. Assumes nothing.
use Rattle.std.specs.Prelude.{ℕ, cond, ◌==◌}
use Rattle.ways.specs.Map.{Map, Hop, Nowhere, To, hop}
use Rattle.landmarks.specs.Landmarks.{Marks, mark_of, place_of}
use Rattle.cards.specs.declared.kinds.Hint.{Hint}
use Rattle.cards.specs.declared.kinds.Hint.TheVariants.{Next, Unneeded}
use Rattle.cards.specs.declared.kinds.Card.{Card}

-- the number of a hint in a document
abbrev pub hint_number : Hint → ℕ
hint_number (Next e) = e
hint_number Unneeded = 65535

-- the hint that a number of a document stands for
abbrev pub hint_from : ℕ → Hint
hint_from k = cond (k == 65535) Unneeded (Next k)

abbrev pub hint_of : Hop → Hint
hint_of Nowhere = Unneeded
hint_of (To e) = Next e

-- the card of v: where one goes on from its landmark, which is nowhere if v is that landmark
abbrev pub card_of : Map → Marks → ℕ → Card
card_of z l v = record { place = v; landmark = place_of (mark_of z l v); hint = hint_of (hop z v (place_of (mark_of z l v))) }
