-- The lowest place that can't be reached, from the distances to place 0. Assumes nothing.
use Rattle.std.proofs.Common.{◌≡◌, ℕ, zero, suc, ◌+◌, ◌<◌, ◌≤◌, Bool, true, false, not, eqb, List, length, get_or, Some, None, Option, sym, refl, ap, ◌∙◌, inl, inr, arith}
use Rattle.std.specs.Prelude.{position, is_some}
use Rattle.std.proofs.lemmas.Bool.{cases_Bool, cond-true, cond-false, both_ways, eq-eqb, eqb-true}
use Rattle.std.proofs.lemmas.Grind.{common_steps}
use Rattle.std.proofs.lemmas.List.Quantifiers.{position-Some}
use Rattle.std.proofs.lemmas.List.Sums.{prefix_len_passes}
use Rattle.ways.specs.Map.{Far, Never, At, Map, far, some}
use Rattle.ways.specs.Ways.{hangs_together}
use Rattle.ways.proofs.Hanging.{all_at, all_from, some_at}
use Rattle.maps.specs.Charts.{chart}
use Rattle.maps.specs.declared.map.RoadMap.{RoadMap}
use Rattle.maps.proofs.Views.{view_arcs}
use Rattle.distances.specs.Rows.{far_number, FarRow}
use Rattle.distances.specs.Unreached.{first_apart, lowest_apart, Lowest}
use Rattle.distances.proofs.Numbers.{number_at, at_number, far_fits}
use Rattle.distances.proofs.Searching.{none}

-- places that have a way are passed
passed : (z : Map) (a k : ℕ) → some (far z 0 a) ≡ true → first_apart z a (suc k) ≡ first_apart z (a + 1) k
unfolding first_apart
passed z a k h = cond-true (some (far z 0 a)) (first_apart z (a + 1) k) (Some a) h

-- the first that has none is found
found : (z : Map) (a m k : ℕ) → ((b : ℕ) → b < a + m → some (far z 0 b) ≡ true) → some (far z 0 (a + m)) ≡ false → m < k → first_apart z a k ≡ Some (a + m)
unfolding first_apart
found z a m zero h e l = absurd (omega arith)
found z a zero (suc k) h e l =
    let s : a + 0 ≡ a = omega arith in
    cond-false (some (far z 0 a)) (first_apart z (a + 1) k) (Some a) (ap (λ b. some (far z 0 b)) (sym s) ∙ e) ∙ ap Some (sym s)
found z a (suc m) (suc k) h e l =
    let s : a + suc m ≡ a + 1 + m = omega arith in
    passed z a k (h a (omega arith))
    ∙ found z (a + 1) m k (λ b i. h b (omega arith)) (ap (λ b. some (far z 0 b)) (sym s) ∙ e) (omega arith)
    ∙ ap Some (sym s)

pub lowest_at : (z : Map) (p : ℕ) → p < z.n → ((b : ℕ) → b < p → some (far z 0 b) ≡ true) → some (far z 0 p) ≡ false → lowest_apart z ≡ Some p
lowest_at z p l h e =
    let s : 0 + p ≡ p = omega arith in
    found z 0 p z.n (λ b i. h b (omega arith)) (ap (λ b. some (far z 0 b)) s ∙ e) l ∙ ap Some s

-- where all have a way there is none
pub none_apart : (z : Map) (a k : ℕ) → ((b : ℕ) → b < a + k → some (far z 0 b) ≡ true) → first_apart z a k ≡ None
unfolding first_apart
none_apart z a zero h = refl
none_apart z a (suc k) h = passed z a k (h a (omega arith)) ∙ none_apart z (a + 1) k (λ b i. h b (omega arith))

-- whether a number is that of no way
abbrev apart_test : ℕ → Bool
apart_test k = eqb k none

-- where a list has no such number
position_none : (xs : List ℕ) → None ≡ position apart_test xs → (k : ℕ) → k < length xs → apart_test (get_or xs k 0) ≡ false
position_none xs e k l = grind (arith, common_steps, prefix_len_passes)

some_unless : (x : Far) (k : ℕ) → k ≡ far_number x → apart_test k ≡ false → some x ≡ true
some_unless Never k e h = absurd (both_ways (apart_test k) h (eq-eqb k none e))
some_unless (At c) k e h = refl

module _ (m : RoadMap) (dist : List ℕ) (f : FarRow (chart m) 0 dist) where
  -- a number below that of no way: there is one
  pub reached : (a : ℕ) → a < m.n → get_or dist a 0 < none → some (far (chart m) 0 a) ≡ true
  reached a l h = ap some (number_at (far (chart m) 0 a) (get_or dist a 0) (f a l) h)

  -- that of no way: there is none
  pub apart : (a : ℕ) → a < m.n → none ≤ get_or dist a 0 → some (far (chart m) 0 a) ≡ false
  apart a l h = elim (cases_Bool (some (far (chart m) 0 a))) [
    | inl p ↦ let w = some_at (far (chart m) 0 a) p in
        absurd (omega (arith, at_number (far (chart m) 0 a) (get_or dist a 0) w.0 (f a l) w.1, far_fits m 0 a w.0 (view_arcs m).some l w.1))
    | inr p ↦ p
  ]

module _ (m : RoadMap) (dist : List ℕ) (f : FarRow (chart m) 0 dist) (long : length dist ≡ m.n) where
  -- the first place with that number is the lowest that is apart
  pub lowest_is : (o : Option ℕ) → o ≡ position apart_test dist → (o ≡ lowest_apart (chart m)) × Lowest (chart m) o
  lowest_is None e =
      let all : (a : ℕ) → a < m.n → some (far (chart m) 0 a) ≡ true = λ a l. some_unless (far (chart m) 0 a) (get_or dist a 0) (f a l) (position_none dist e a (omega arith)) in
      (sym (none_apart (chart m) 0 m.n (λ b i. all b (omega arith))), all_from m.n (λ a. some (far (chart m) 0 a)) all)
  lowest_is (Some p) e =
      let s = position-Some apart_test dist p 0 (sym e) in
      let l : p < m.n = omega (arith, s.0) in
      let before : (b : ℕ) → b < p → some (far (chart m) 0 b) ≡ true = λ b i. some_unless (far (chart m) 0 b) (get_or dist b 0) (f b (omega arith)) (s.2 b i) in
      let here : some (far (chart m) 0 p) ≡ false = apart m dist f p l (omega (arith, eqb-true (get_or dist p 0) none s.1)) in
      (sym (lowest_at (chart m) p l before here), (l, here, before))

-- whether the map hangs together, by the lowest place that is apart
pub together_is : (z : Map) (o : Option ℕ) (r : Bool) → is_some o ≡ not r → Lowest z o → r ≡ hangs_together z
together_is z None true e h = sym h
together_is z None false e h = cc
together_is z (Some p) true e h = cc
together_is z (Some p) false e h = elim (cases_Bool (hangs_together z)) [
  | inl t ↦ absurd (both_ways (some (far z 0 p)) h.1 (all_at z.n (λ a. some (far z 0 a)) t p h.0))
  | inr t ↦ sym t
]
