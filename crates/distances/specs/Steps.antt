-- What the steps leave by which a row is worked out. Assumes nothing.
use Rattle.std.specs.Prelude.{◌≡◌, ℕ, ◌+◌, ◌<◌, ◌≤◌, ◌⊎◌, List, length, Some, None, Option, slice_index}
use Rattle.distances.specs.Keys.{leaf, key_of}

-- place a keeps its distance and its key
abbrev pub Stays : ℕ → List ℕ → List ℕ → List ℕ → List ℕ → ℕ → Type 0
Stays n before after keys keys' a = (slice_index after a ≡ slice_index before a) × (leaf n keys' a ≡ leaf n keys a)

-- place a is closer by one of the first i arcs from a place at `away`, and waits at its new distance
abbrev pub Nears : ℕ → List ℕ → List ℕ → ℕ → ℕ → List ℕ → List ℕ → List ℕ → ℕ → Type 0
Nears n places costs away i before after keys' a =
    (k : ℕ) × (k < i) × (slice_index places k ≡ a) × (slice_index after a ≡ slice_index costs k + away) × (slice_index after a < slice_index before a) × (leaf n keys' a ≡ key_of (slice_index after a) a)

-- The first i arcs of a place at `away` are followed: none leads to a place that is farther than by that arc, and each place stays or nears.
pub record Followed (n : ℕ) (places costs : List ℕ) (away i : ℕ) (before after keys keys' : List ℕ) : Type 0 where
  pub road : (k : ℕ) → k < i → slice_index after (slice_index places k) ≤ slice_index costs k + away
  pub way : (a : ℕ) → a < n → Stays n before after keys keys' a ⊎ Nears n places costs away i before after keys' a

-- an arc of cost c to a place at x is the first road of a cheapest way from a place at `away`
abbrev pub Leads : ℕ → ℕ → ℕ → Type 0
Leads c away x = (0 < c) × (c + x ≡ away)

-- where the first arc that leads on goes; none leads on
abbrev pub FirstOn : List ℕ → List ℕ → ℕ → List ℕ → Option ℕ → Type 0
FirstOn places costs away dist (Some r) =
    (k : ℕ) × (k < length places) × (slice_index places k ≡ r) × Leads (slice_index costs k) away (slice_index dist r)
    × ((j : ℕ) → j < k → Leads (slice_index costs j) away (slice_index dist (slice_index places j)) → ⊥)
FirstOn places costs away dist None = (k : ℕ) → k < length places → Leads (slice_index costs k) away (slice_index dist (slice_index places k)) → ⊥
