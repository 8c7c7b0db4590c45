-- Maps that are trees, and that on them every walk is cheapest. Assumes nothing.
use Rattle.std.specs.Prelude.{◌≡◌, ℕ, ◌<◌, Bool, true, false, ◌⊎◌}
use Rattle.ways.specs.Map.{Map, At, far}
use Rattle.ways.specs.Ways.{Joined}
use Rattle.landmarks.specs.Landmarks.{Marks, Sound}
use Rattle.cards.specs.Cards.{card_of}
use Rattle.walking.specs.Walks.{walk_of, posts_of}
use Rattle.walking.specs.General.{Guide, Wide, GuidedWalk}
use Rattle.walking.specs.declared.kinds.End.TheVariants.{Arrived}

-- The road from u to w is a bridge: the places lie on two sides of it, w on one and u on the other, and no other road leads across.
pub record Bridge (z : Map) (u w : ℕ) : Type 0 where
  pub side : ℕ → Bool
  pub hither : side u ≡ false
  pub thither : side w ≡ true
  pub alone : (a e : ℕ) → a < z.n → e < z.n → 0 < z.cost a e → (side a ≡ side e) ⊎ ((a ≡ u) × (e ≡ w)) ⊎ ((a ≡ w) × (e ≡ u))

-- a tree: every road is a bridge
abbrev pub Tree : Map → Type 0
Tree z = (u w : ℕ) → u < z.n → w < z.n → 0 < z.cost u w → Bridge z u w

-- On a tree a walk by a wide set of places and a landmark costs just the distance, whatever roads cost there and back.
abbrev pub GuidedTree : Type 0
GuidedTree = (z : Map) (known : ℕ → Bool) (mark v : ℕ) → Tree z → Joined z → Guide z known mark v → Wide z known mark v → (u : ℕ) (w : GuidedWalk z known mark v u) → far z v u ≡ At w.cost

-- So by the posts and the card of a map that is a tree everybody pays just the distance.
abbrev pub TreeCheapest : Type 0
TreeCheapest = (z : Map) (l : Marks) → Sound z l → Tree z → (u v d : ℕ) → u < z.n → v < z.n → far z v u ≡ At d → walk_of z (posts_of z l) (card_of z l v) u ≡ Arrived d
