-- The row and the star are trees: the sides of each road are given, and a test of all roads is computed. Assumes nothing.
use Rattle.std.proofs.Common.{◌≡◌, ℕ, ◌<◌, Bool, true, false, cond, not, ◌&&◌, ◌||◌, eqb, ltb, sym, refl, inl, inr, arith}
use Rattle.std.proofs.lemmas.Bool.{both_ways, not-true, eqb-true, and_parts, or_cases}
use Rattle.ways.specs.Map.{Map}
use Rattle.ways.specs.Ways.{all_below}
use Rattle.ways.proofs.Hanging.{all_at}
use Rattle.walking.specs.Trees.{Bridge, Tree}
use Rattle.walking.specs.SmallMaps.{priced, row, star}
use Rattle.walking.specs.Cases.{same_bool, TreesThere}

-- no road from a to e, or both on one side, or the bridge, there or back
abbrev stays : Map → ℕ → ℕ → (ℕ → Bool) → ℕ → ℕ → Bool
stays z u w side a e = eqb (z.cost a e) 0 || (same_bool (side a) (side e) || ((eqb a u && eqb e w) || (eqb a w && eqb e u)))

abbrev bridged : Map → (ℕ → ℕ → ℕ → Bool) → ℕ → ℕ → Bool
bridged z sides u w = not (sides u w u) && (sides u w w && all_below z.n (λ a. all_below z.n (λ e. stays z u w (sides u w) a e)))

abbrev tree_by : Map → (ℕ → ℕ → ℕ → Bool) → Bool
tree_by z sides = all_below z.n (λ u. all_below z.n (λ w. eqb (z.cost u w) 0 || bridged z sides u w))

same_bool_lem : (x y : Bool) → same_bool x y ≡ true → x ≡ y
same_bool_lem true y h = sym h
same_bool_lem false true h = absurd (both_ways false refl h)
same_bool_lem false false h = refl

no_road_lem : (c : ℕ) → 0 < c → eqb c 0 ≡ true → ⊥
no_road_lem c pos t = omega (arith, eqb-true c 0 t)

module _ (z : Map) (sides : ℕ → ℕ → ℕ → Bool) (h : tree_by z sides ≡ true) where
  bridge_by : (u w : ℕ) → bridged z sides u w ≡ true → Bridge z u w
  bridge_by u w b =
      let p = and_parts (not (sides u w u)) (sides u w w && all_below z.n (λ a. all_below z.n (λ e. stays z u w (sides u w) a e))) b in
      let q = and_parts (sides u w w) (all_below z.n (λ a. all_below z.n (λ e. stays z u w (sides u w) a e))) p.1 in
      record {
        side = sides u w;
        hither = not-true (sides u w u) p.0;
        thither = q.0;
        alone = λ a e an en pos.
            let t = all_at z.n (λ e. stays z u w (sides u w) a e) (all_at z.n (λ a. all_below z.n (λ e. stays z u w (sides u w) a e)) q.1 a an) e en in
            elim (or_cases (eqb (z.cost a e) 0) (same_bool (sides u w a) (sides u w e) || ((eqb a u && eqb e w) || (eqb a w && eqb e u))) t) [
              | inl n ↦ absurd (no_road_lem (z.cost a e) pos n)
              | inr s ↦ elim (or_cases (same_bool (sides u w a) (sides u w e)) ((eqb a u && eqb e w) || (eqb a w && eqb e u)) s) [
                | inl m ↦ inl (same_bool_lem (sides u w a) (sides u w e) m)
                | inr o ↦ inr (elim (or_cases (eqb a u && eqb e w) (eqb a w && eqb e u) o) [
                  | inl x ↦ (let y = and_parts (eqb a u) (eqb e w) x in inl (eqb-true a u y.0, eqb-true e w y.1))
                  | inr x ↦ (let y = and_parts (eqb a w) (eqb e u) x in inr (eqb-true a w y.0, eqb-true e u y.1))
                ])
              ]
            ];
      }

  tree_by_lem : Tree z
  tree_by_lem u w un wn pos =
      let t = all_at z.n (λ w. eqb (z.cost u w) 0 || bridged z sides u w) (all_at z.n (λ u. all_below z.n (λ w. eqb (z.cost u w) 0 || bridged z sides u w)) h u un) w wn in
      elim (or_cases (eqb (z.cost u w) 0) (bridged z sides u w) t) [ inl n ↦ absurd (no_road_lem (z.cost u w) pos n) | inr b ↦ bridge_by u w b ]

-- beyond a road of the row lies all that is higher, or all that is lower
abbrev row_sides : ℕ → ℕ → ℕ → Bool
row_sides u w x = cond (ltb u w) (ltb u x) (ltb x u)

-- beyond a road of the star lies its leaf alone, or all but the leaf
abbrev star_sides : ℕ → ℕ → ℕ → Bool
star_sides u w x = cond (eqb u 0) (eqb x w) (not (eqb x u))

row_tree : tree_by row row_sides ≡ true
unfolding all_below priced
row_tree = refl

star_tree : tree_by star star_sides ≡ true
unfolding all_below priced
star_tree = refl

pub trees_there : TreesThere
trees_there = (tree_by_lem row row_sides row_tree, tree_by_lem star star_sides star_tree)
