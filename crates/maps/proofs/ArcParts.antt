-- The arcs of one place as parts of the arrays. Assumes nothing.
use Rattle.std.proofs.Common.{◌≡◌, ℕ, ◌+◌, ◌-◌, ◌<◌, ◌≤◌, cond, List, [], length, get_or, take, drop, refl, ap, ◌∙◌, arith}
use Rattle.std.proofs.lemmas.List.Edits.{length-between, get_or-between}
use Rattle.std.proofs.lemmas.Bool.{lt-ltb, le-ltb}
use Rattle.maps.specs.Arcs.{Arcs, arc_part}
use Rattle.maps.proofs.Costs.{starts_most}

part_is : (n : ℕ) (starts xs : List ℕ) (a : ℕ) → a < n → arc_part n starts xs a ≡ take (get_or starts (a + 1) 0 - get_or starts a 0) (drop (get_or starts a 0) xs)
part_is n starts xs a l = ap (λ b. cond b (take (get_or starts (a + 1) 0 - get_or starts a 0) (drop (get_or starts a 0) xs)) []) (lt-ltb a n l)

-- beyond the places there are none
pub no_part : (n : ℕ) (starts xs : List ℕ) (a : ℕ) → n ≤ a → arc_part n starts xs a ≡ []
no_part n starts xs a l = ap (λ b. cond b (take (get_or starts (a + 1) 0 - get_or starts a 0) (drop (get_or starts a 0) xs)) []) (le-ltb a n l)

module _ (n : ℕ) (starts places costs : List ℕ) (A : Arcs n starts places costs) (xs : List ℕ) (level : length xs ≡ length places) (a : ℕ) (l : a < n) where
  pub part_length : length (arc_part n starts xs a) ≡ get_or starts (a + 1) 0 - get_or starts a 0
  part_length = ap length (part_is n starts xs a l) ∙ length-between xs (get_or starts a 0) (get_or starts (a + 1) 0) (omega (arith, level, starts_most n starts places costs A (a + 1) (omega arith)))

  pub part_at : (k : ℕ) → get_or starts a 0 + k < get_or starts (a + 1) 0 → get_or (arc_part n starts xs a) k 0 ≡ get_or xs (get_or starts a 0 + k) 0
  part_at k h = ap (λ (ys : List ℕ). get_or ys k 0) (part_is n starts xs a l) ∙ get_or-between xs (get_or starts a 0) (get_or starts (a + 1) 0) k 0 h

module _ (n : ℕ) (starts places costs : List ℕ) (A : Arcs n starts places costs) (a : ℕ) (l : a < n) where
  -- an arc's place is there
  pub part_inside : (k : ℕ) → k < length (arc_part n starts places a) → get_or (arc_part n starts places a) k 0 < n
  part_inside k h =
      let e = part_length n starts places costs A places refl a l in
      let i : get_or starts a 0 + k < get_or starts (a + 1) 0 = omega (arith, e, h) in
      omega (arith, part_at n starts places costs A places refl a l k i, A.inside (get_or starts a 0 + k) (omega (arith, i, starts_most n starts places costs A (a + 1) (omega arith))))
