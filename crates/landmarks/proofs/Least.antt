-- The first least item of some items, as `min_by_key` picks it, and the landmark of a place as the first least of all landmarks. Assumes nothing.
use Rattle.std.proofs.Common.{◌≡◌, ℕ, zero, suc, ◌+◌, ◌<◌, Bool, true, false, cond, ltb, List, [], ◌∷◌, map, Some, None, Option, Bor, sym, refl, ap, ◌∙◌, subst, inl, inr, arith, map-id}
use Rattle.std.proofs.lemmas.Bool.{cases_Bool, cases_eq, cases_lt, eq-eqb, le-ltb, lt-ltb, ne_eqb}
use Rattle.std.proofs.lemmas.Iterator.{YieldsList, items_from_drains}
use Rattle.std.specs.Fn.{CalledAt}
use Rattle.std.specs.Iterator.{KeyTurn, PicksMinByKey}
use Rattle.std.specs.List.{FoldsTo, filter, fold, range_with_len}
use Rattle.std.specs.Ordering.{min_by_ordering, nat_cmp}
use Rattle.distances.specs.Rows.{far_number}
use Rattle.distances.specs.Surveys.{far_in}
use Rattle.distances.proofs.Surveyed.{chosen_in}
use Rattle.landmarks.proofs.Closest.{nearest_none}
use Rattle.landmarks.proofs.Numbered.{turn_marked, turn_unmarked}
use Rattle.landmarks.specs.Landmarks.{Marks, nearest}
use Rattle.landmarks.specs.Numbers.{mark_numbers, or_nearer}
use Rattle.landmarks.specs.declared.kinds.Nearest.{Nearest}
use Rattle.ways.specs.Map.{At, Map, far}
use denote.Param.Members.{Mut}

-- the closer of what was found and one more
abbrev pub or_found : Option Nearest → Nearest → Option Nearest
or_found best x = or_nearer best x.place x.away

-- the second is taken where it is less
min_is : {A : Type 0} (a b : ℕ) (x y : A) → min_by_ordering (nat_cmp a b) x y ≡ cond (ltb b a) y x
min_is a b x y = elim (cases_lt b a) [
  | inl lt ↦ rw (le-ltb a b (omega arith), ne_eqb a b (λ e. omega arith), lt-ltb b a lt) refl
  | inr ge ↦ elim (cases_eq a b) [
    | inl e ↦ rw (le-ltb a b (omega arith), eq-eqb a b e, le-ltb b a ge) refl
    | inr ne ↦ rw (lt-ltb a b (omega arith), le-ltb b a ge) refl
  ]
]

picked : (a b k : ℕ) (x y m : Nearest) → a ≡ x.away → b ≡ y.away → k ≡ min_by_ordering (nat_cmp a b) a b → m ≡ min_by_ordering (nat_cmp a b) x y → (k ≡ m.away) × (Some m ≡ or_found (Some x) y)
picked a b k x y m p q ke me = elim (cases_lt y.away x.away) [
  | inl lt ↦
      let t : ltb b a ≡ true = lt-ltb b a (omega arith) in
      let w : m ≡ y = me ∙ min_is a b x y ∙ ap (λ u. cond u y x) t in
      (ke ∙ min_is a b a b ∙ ap (λ u. cond u b a) t ∙ q ∙ ap (λ (u : Nearest). u.away) (sym w), ap Some w ∙ ap (λ u. cond u (Some y) (Some x)) (sym (lt-ltb y.away x.away lt)))
  | inr ge ↦
      let t : ltb b a ≡ false = le-ltb b a (omega arith) in
      let w : m ≡ x = me ∙ min_is a b x y ∙ ap (λ u. cond u y x) t in
      (ke ∙ min_is a b a b ∙ ap (λ u. cond u b a) t ∙ p ∙ ap (λ (u : Nearest). u.away) (sym w), ap Some w ∙ ap (λ u. cond u (Some y) (Some x)) (sym (le-ltb y.away x.away ge)))
]

module _ {F : Type 0} (g : Mut F (Bor Nearest × Unit {0}) ℕ) (f : F) (says : (x : Nearest) (k : ℕ) (q : F) → CalledAt g f x k q → (q ≡ f) × (k ≡ x.away)) where
  picks : (xs : List Nearest) (p q : (F × ℕ) × Nearest) → p.0.0 ≡ f → p.0.1 ≡ p.1.away → FoldsTo (KeyTurn min_by_ordering min_by_ordering g nat_cmp) p xs q → Some q.1 ≡ fold or_found (Some p.1) xs
  picks [] p q e k h = ap (λ (w : (F × ℕ) × Nearest). Some w.1) (sym h)
  picks (x ∷ xs) p q e k h =
      let j = h.0 in
      let t = h.1 in
      let called = says x t.0 j.0.0 (subst (λ w. CalledAt g w x t.0 j.0.0) e t.2) in
      let w = picked p.0.1 t.0 j.0.1 p.1 x j.1 k called.1
      (t.4 ∙ ap (λ o. min_by_ordering o p.0.1 t.0) (sym t.3)) (t.5 ∙ ap (λ o. min_by_ordering o p.1 x) (sym t.3)) in
      picks xs j q called.0 w.0 h.2 ∙ ap (λ o. fold or_found o xs) w.1

  pub least_from_min_by_key : {S : Type 0} {steps : S → Option Nearest → S → Type 0} {s : S} {all : List Nearest} (r : Option Nearest) → PicksMinByKey steps g nat_cmp s f r → YieldsList steps (λ x. x) s all → r ≡ fold or_found None all
  least_from_min_by_key {steps = steps} {s} {all} None h road = ap (fold or_found None) (items_from_drains [] (h.1.0, h.1.1, λ _. (h.0, h.1.2)) road)
  least_from_min_by_key {steps = steps} {s} {all} (Some y) h road =
      let x = h.0 in
      let first = says x h.2 h.3 h.6 in
      picks h.1 ((h.3, h.2), x) (h.4, y) first.0 first.1 h.7
      ∙ ap (fold or_found None) (sym (map-id (x ∷ h.1)) ∙ items_from_drains (x ∷ h.1) (h.5.1.0, h.5.1.1, λ _. (h.5.0, h.5.1.2)) road)

-- ---- landmark by landmark
abbrev pub away_to : Map → ℕ → ℕ → Nearest
away_to z v k = record { place = k; away = far_in z v k }

module _ (z : Map) (l : Marks) (v : ℕ) (vn : v < z.n) (fits : (a c : ℕ) → a < z.n → far z v a ≡ At c → c < 4294967295) where
  along : (k a : ℕ) → a + k ≡ z.n → fold or_found (mark_numbers (nearest z l v a)) (map (away_to z v) (filter l (range_with_len a k))) ≡ mark_numbers (nearest z l v z.n)
  along zero a e = ap (λ (m : ℕ). mark_numbers (nearest z l v m)) (let s : a ≡ z.n = omega arith in s)
  along (suc k) a e =
      let an : a < z.n = omega arith in
      let rest = map (away_to z v) (filter l (range_with_len (a + 1) k)) in
      elim (cases_Bool (l a)) [
        | inl t ↦ ap (λ (b : Bool). fold or_found (mark_numbers (nearest z l v a)) (map (away_to z v) (cond b (a ∷ filter l (range_with_len (a + 1) k)) (filter l (range_with_len (a + 1) k))))) t
            ∙ ap (λ (x : ℕ). fold or_found (or_nearer (mark_numbers (nearest z l v a)) a x) rest) (sym (chosen_in z.n v a (far_number (far z v a)) 4294967295 vn an))
            ∙ ap (λ (o : Option Nearest). fold or_found o rest) (sym (turn_marked z l v a vn an fits t))
            ∙ along k (a + 1) (omega arith)
        | inr t ↦ ap (λ (b : Bool). fold or_found (mark_numbers (nearest z l v a)) (map (away_to z v) (cond b (a ∷ filter l (range_with_len (a + 1) k)) (filter l (range_with_len (a + 1) k))))) t
            ∙ ap (λ (o : Option Nearest). fold or_found o rest) (sym (turn_unmarked z l v a vn an fits t))
            ∙ along k (a + 1) (omega arith)
      ]

  pub least_landmark : fold or_found None (map (away_to z v) (filter l (range_with_len 0 z.n))) ≡ mark_numbers (nearest z l v z.n)
  least_landmark = ap (λ (o : Option Nearest). fold or_found o (map (away_to z v) (filter l (range_with_len 0 z.n)))) (ap mark_numbers (sym (nearest_none z l v 0))) ∙ along z.n 0 (omega arith)
