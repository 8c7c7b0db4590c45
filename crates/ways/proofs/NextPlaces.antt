-- The next place on a cheapest way: where there is one, that it is closer, and that it is the lowest. Assumes nothing.
use Rattle.std.proofs.Common.{◌≡◌, ℕ, zero, suc, ◌+◌, ◌<◌, ◌≤◌, Bool, true, false, cond, ◌&&◌, sym, refl, ap, ◌∙◌, subst, inl, inr, arith}
use Rattle.std.proofs.lemmas.Bool.{cases_Bool, cases_eq, eq-eqb, ne_eqb, eqb-true, both_ways}
use Rattle.ways.specs.Map.{Map, Far, Never, At, plus, far, some, same_far, on_way, Hop, Nowhere, To, first_on_way, hop}
use Rattle.ways.specs.Laws.{Closer, NextPlace, NextPlaces}
use Rattle.ways.proofs.Fars.{at_same, never_at, plus_some, plus_at}
use Rattle.ways.proofs.Certified.{certified}

-- ---- the test for a next place
on_some : (x y : Far) → (some x && same_far x y) ≡ true → (k : ℕ) × (x ≡ At k) × (y ≡ At k)
on_some Never y h = absurd (both_ways false refl h)
on_some (At k) Never h = absurd (both_ways false refl h)
on_some (At k) (At j) h = (k, refl, ap At (sym (eqb-true k j h)))

on_from : (x y : Far) (k : ℕ) → x ≡ At k → y ≡ At k → (some x && same_far x y) ≡ true
on_from Never y k p q = absurd (never_at k p)
on_from (At i) Never k p q = absurd (never_at k q)
on_from (At i) (At j) k p q = eq-eqb i j (at_same i k p ∙ sym (at_same j k q))

pub on_closer : (z : Map) (d a e : ℕ) → e < z.n → on_way z d a e ≡ true → Closer z d a e
on_closer z d a e m h =
    let q = on_some (plus (z.cost a e) (far z d e)) (far z d a) h in
    let p = plus_some (z.cost a e) (far z d e) q.0 q.1 in
    record { there = m; neighbour = p.1; rest = p.0; rest_is = p.2; whole_is = q.2 ∙ ap At p.3 }

pub closer_on : (z : Map) (d a e : ℕ) → Closer z d a e → on_way z d a e ≡ true
closer_on z d a e c =
    on_from (plus (z.cost a e) (far z d e)) (far z d a) (z.cost a e + c.rest) (plus_at (z.cost a e) (far z d e) c.rest c.neighbour c.rest_is) c.whole_is

-- ---- the first that passes it
pub first_at : (z : Map) (d a r : ℕ) → r < z.n → on_way z d a r ≡ true → ((i : ℕ) → i < r → on_way z d a i ≡ false) → (k e : ℕ) → e + k ≡ z.n → e ≤ r → first_on_way z d a e k ≡ To r
unfolding first_on_way
first_at z d a r l h b zero e s m = absurd (omega arith)
first_at z d a r l h b (suc k) e s m = elim (cases_eq e r) [
  | inl p ↦ ap (λ t. cond t (To e) (first_on_way z d a (e + 1) k)) (ap (on_way z d a) p ∙ h) ∙ ap To p
  | inr p ↦ ap (λ t. cond t (To e) (first_on_way z d a (e + 1) k)) (b e (omega arith)) ∙ first_at z d a r l h b k (e + 1) (omega arith) (omega arith)
]

pub first_none : (z : Map) (d a : ℕ) → ((i : ℕ) → i < z.n → on_way z d a i ≡ false) → (k e : ℕ) → e + k ≡ z.n → first_on_way z d a e k ≡ Nowhere
unfolding first_on_way
first_none z d a b zero e s = refl
first_none z d a b (suc k) e s = ap (λ t. cond t (To e) (first_on_way z d a (e + 1) k)) (b e (omega arith)) ∙ first_none z d a b k (e + 1) (omega arith)

-- the first of e, e + 1, .. that passes, with those before it that don't; or that none does
First : Map → ℕ → ℕ → ℕ → ℕ → Hop → Type 0
First z d a e k Nowhere = (i : ℕ) → e ≤ i → i < e + k → on_way z d a i ≡ false
First z d a e k (To w) = (e ≤ w) × (w < e + k) × (on_way z d a w ≡ true) × ((i : ℕ) → e ≤ i → i < w → on_way z d a i ≡ false)

first_more : (z : Map) (d a e k : ℕ) (h : Hop) → on_way z d a e ≡ false → First z d a (e + 1) k h → First z d a e (suc k) h
unfolding First
first_more z d a e k Nowhere t f = λ i l m. elim (cases_eq i e) [ inl p ↦ ap (on_way z d a) p ∙ t | inr p ↦ f i (omega arith) (omega arith) ]
first_more z d a e k (To w) t f = (omega (arith, f.0), omega (arith, f.1), f.2, λ i l m. elim (cases_eq i e) [ inl p ↦ ap (on_way z d a) p ∙ t | inr p ↦ f.3 i (omega arith) m ])

pick_true : (b : Bool) (x y : Hop) → b ≡ true → x ≡ cond b x y
pick_true true x y h = refl
pick_true false x y h = absurd (both_ways false refl h)

pick_false : (b : Bool) (x y : Hop) → b ≡ false → y ≡ cond b x y
pick_false true x y h = absurd (both_ways true h refl)
pick_false false x y h = refl

first_is : (z : Map) (d a k e : ℕ) → First z d a e k (first_on_way z d a e k)
unfolding first_on_way First
first_is z d a zero e = λ i l m. absurd (omega arith)
first_is z d a (suc k) e = elim (cases_Bool (on_way z d a e)) [
  | inl t ↦ subst (First z d a e (suc k)) (pick_true (on_way z d a e) (To e) (first_on_way z d a (e + 1) k) t) (omega arith, omega arith, t, λ i l m. absurd (omega arith))
  | inr t ↦ subst (First z d a e (suc k)) (pick_false (on_way z d a e) (To e) (first_on_way z d a (e + 1) k) t) (first_more z d a e k (first_on_way z d a (e + 1) k) t (first_is z d a k (e + 1)))
]

pub hop_here : (z : Map) (d a : ℕ) → a ≡ d → hop z d a ≡ Nowhere
hop_here z d a e = ap (λ t. cond t Nowhere (first_on_way z d a 0 z.n)) (eq-eqb a d e)

pub hop_there : (z : Map) (d a : ℕ) → (a ≡ d → ⊥) → hop z d a ≡ first_on_way z d a 0 z.n
hop_there z d a e = ap (λ t. cond t Nowhere (first_on_way z d a 0 z.n)) (ne_eqb a d e)

-- ---- the laws
found : (z : Map) (d a : ℕ) (h : Hop) → First z d a 0 z.n h → (w : ℕ) → h ≡ To w → (w < z.n) × (on_way z d a w ≡ true) × ((i : ℕ) → i < w → on_way z d a i ≡ false)
unfolding First
found z d a Nowhere f w e = let k : ◌≡◌ {A = ℕ} 0 1 = cc in absurd (omega arith)
found z d a (To x) f w e =
    let s : x ≡ w = cc in
    (omega (arith, f.1), sym (ap (on_way z d a) s) ∙ f.2, λ i l. f.3 i (omega arith) (omega arith))

some_found : (z : Map) (d a : ℕ) (h : Hop) → First z d a 0 z.n h → (x : ℕ) → x < z.n → on_way z d a x ≡ true → (w : ℕ) × (h ≡ To w)
unfolding First
some_found z d a Nowhere f x l t = absurd (both_ways (on_way z d a x) (f x (omega arith) (omega arith)) t)
some_found z d a (To w) f x l t = (w, refl)

none_found : (z : Map) (d a : ℕ) (h : Hop) → First z d a 0 z.n h → ((x : ℕ) → x < z.n → on_way z d a x ≡ true → ⊥) → h ≡ Nowhere
unfolding First
none_found z d a Nowhere f b = refl
none_found z d a (To w) f b = absurd (b w (omega (arith, f.1)) f.2)

module _ (z : Map) (d a : ℕ) (dn : d < z.n) (an : a < z.n) where
  first : First z d a 0 z.n (first_on_way z d a 0 z.n)
  first = first_is z d a z.n 0

  hop_found : (w : ℕ) → hop z d a ≡ To w → (w < z.n) × (on_way z d a w ≡ true) × ((i : ℕ) → i < w → on_way z d a i ≡ false)
  hop_found w h = elim (cases_eq a d) [
    | inl e ↦ (let g : Nowhere ≡ To w = sym (hop_here z d a e) ∙ h in let k : ◌≡◌ {A = ℕ} 0 1 = cc in absurd (omega arith))
    | inr e ↦ found z d a (first_on_way z d a 0 z.n) first w (sym (hop_there z d a e) ∙ h)
  ]

  pub next_place : NextPlace z d a
  next_place = record {
    closer = λ w h. let r = hop_found w h in on_closer z d a w r.0 r.1;
    lowest_such = λ w x h l c. both_ways (on_way z d a x) ((hop_found w h).2 x l) (closer_on z d a x c);
    there = λ c h ne.
        let r = (certified z d dn).step a c an ne h in
        let t = closer_on z d a r.0 (record { there = r.2; neighbour = r.3; rest = r.1; rest_is = r.4; whole_is = h ∙ ap At r.5 }) in
        let s = some_found z d a (first_on_way z d a 0 z.n) first r.0 r.2 t in
        (s.0, hop_there z d a ne ∙ s.1);
    nowhere_at = hop_here z d a;
    nowhere_cut = λ h. elim (cases_eq a d) [
      | inl e ↦ hop_here z d a e
      | inr e ↦ hop_there z d a e ∙ none_found z d a (first_on_way z d a 0 z.n) first (λ x l t. never_at (z.cost a x + (on_closer z d a x l t).rest) (sym h ∙ (on_closer z d a x l t).whole_is))
    ];
  }

pub next_places : NextPlaces
next_places z d a dn an = next_place z d a dn an
