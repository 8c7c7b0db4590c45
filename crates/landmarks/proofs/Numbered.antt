-- The landmark of a place in numbers, place by place. Assumes nothing.
use Rattle.std.proofs.Common.{◌≡◌, ℕ, zero, suc, ◌+◌, ◌<◌, ◌≤◌, ◌&&◌, Option, Bool, true, false, cond, ltb, Some, None, sym, refl, ap, ◌∙◌, inl, inr, arith}
use Rattle.std.proofs.lemmas.Bool.{and_from, and_left, and_right, cases_Bool, cases_eq, cases_lt, le-ltb, lt-ltb}
use Rattle.distances.specs.Rows.{far_number}
use Rattle.distances.specs.Surveys.{far_in}
use Rattle.distances.proofs.Surveyed.{chosen_in}
use Rattle.landmarks.proofs.Closest.{nearest_is, nearest_more, nearest_skips}
use Rattle.landmarks.specs.Landmarks.{Is, Mark, Marks, NoMark, away_of, closer, mark_of, near, nearest, or_closer}
use Rattle.landmarks.specs.Laws.{SomeMark}
use Rattle.landmarks.specs.Numbers.{landmark_in, mark_number, mark_numbers, or_nearer}
use Rattle.landmarks.specs.declared.kinds.Nearest.{Nearest}
use Rattle.ways.specs.Map.{At, Far, Map, Never, far}

-- distances compare as their numbers do, as long as these are below the number of no way
pub closer_numbers : (x y : Far) → ((c : ℕ) → x ≡ At c → c < 4294967295) → ((c : ℕ) → y ≡ At c → c < 4294967295) → closer x y ≡ ltb (far_number x) (far_number y)
closer_numbers Never Never p q = sym (le-ltb 4294967295 4294967295 (omega arith))
closer_numbers Never (At c) p q = sym (le-ltb 4294967295 c (omega (arith, q c refl)))
closer_numbers (At c) Never p q = sym (lt-ltb c 4294967295 (p c refl))
closer_numbers (At c) (At e) p q = refl

module _ (z : Map) (l : Marks) (v k : ℕ) (vn : v < z.n) (kn : k < z.n)
    (fits : (a c : ℕ) → a < z.n → far z v a ≡ At c → c < 4294967295) where
  turn_cases : (M : Mark) → ((m : ℕ) (a : Far) → M ≡ Is m a → (m < z.n) × (far z v m ≡ a)) → mark_numbers (or_closer M k (far z v k)) ≡ or_nearer (mark_numbers M) k (far_number (far z v k))
  turn_cases NoMark h = refl
  turn_cases (Is m a) h =
      let r = h m a refl in
      let e : closer (far z v k) a ≡ ltb (far_number (far z v k)) (far_number a) = closer_numbers (far z v k) a (λ c p. fits k c kn p) (λ c p. fits m c r.0 (r.1 ∙ p)) in
      either (closer (far z v k) a) e
    where
      either : (b : Bool) → b ≡ ltb (far_number (far z v k)) (far_number a) → mark_numbers (cond b (Is k (far z v k)) (Is m a)) ≡ cond (ltb (far_number (far z v k)) (far_number a)) (Some (record { place = k; away = far_number (far z v k) })) (Some (record { place = m; away = far_number a }))
      either true e = ap (λ (t : Bool). cond t (Some (record { place = k; away = far_number (far z v k) })) (Some (record { place = m; away = far_number a }))) e
      either false e = ap (λ (t : Bool). cond t (Some (record { place = k; away = far_number (far z v k) })) (Some (record { place = m; away = far_number a }))) e

  -- a landmark more
  pub turn_marked : l k ≡ true → mark_numbers (nearest z l v (k + 1)) ≡ or_nearer (mark_numbers (nearest z l v k)) k (far_number (far z v k))
  turn_marked h = ap mark_numbers (nearest_more z l v k h)
      ∙ turn_cases (nearest z l v k) (λ m a e. let r = nearest_is z l v k m a e in (omega (arith, r.0, kn), r.2))

  -- a place that is none
  pub turn_unmarked : l k ≡ false → mark_numbers (nearest z l v (k + 1)) ≡ mark_numbers (nearest z l v k)
  turn_unmarked h = ap mark_numbers (nearest_skips z l v k h)

-- ---- no landmark found, none there
or_some : (M : Mark) (k : ℕ) (f : Far) → or_closer M k f ≡ NoMark → ⊥
or_some NoMark k f e = let z : ◌≡◌ {A = ℕ} 0 1 = cc in omega arith
or_some (Is m a) k f e = both (closer f a) e
  where
    both : (b : Bool) → cond b (Is k f) (Is m a) ≡ NoMark → ⊥
    both true h = let z : ◌≡◌ {A = ℕ} 0 1 = cc in omega arith
    both false h = let z : ◌≡◌ {A = ℕ} 0 1 = cc in omega arith

pub nomark_none : (z : Map) (l : Marks) (v k : ℕ) → nearest z l v k ≡ NoMark → (j : ℕ) → j < k → l j ≡ false
nomark_none z l v zero h j lt = absurd (omega arith)
nomark_none z l v (suc k) h j lt =
    let s : suc k ≡ k + 1 = omega arith in
    let g : nearest z l v (k + 1) ≡ NoMark = ap (nearest z l v) (sym s) ∙ h in
    elim (cases_Bool (l k)) [
      | inl t ↦ absurd (or_some (nearest z l v k) k (far z v k) (sym (nearest_more z l v k t) ∙ g))
      | inr t ↦ elim (cases_eq j k) [
        | inl e ↦ ap l e ∙ t
        | inr e ↦ nomark_none z l v k (sym (nearest_skips z l v k t) ∙ g) j (omega arith)
      ]
    ]

-- what the numbers of a landmark say of it
none_nomark : (M : Mark) → None ≡ mark_numbers M → M ≡ NoMark
none_nomark NoMark e = refl
none_nomark (Is m a) e = let z : ◌≡◌ {A = ℕ} 0 1 = cc in absurd (omega arith)

some_number : (M : Mark) (x : Nearest) → Some x ≡ mark_numbers M → x ≡ mark_number M
some_number NoMark x e = let z : ◌≡◌ {A = ℕ} 0 1 = cc in absurd (omega arith)
some_number (Is m a) x e = cc

within_is : (z : Map) (l : Marks) (v : ℕ) → v < z.n → landmark_in z l v ≡ mark_numbers (mark_of z l v)
within_is z l v vn = ap (λ (t : Bool). cond t (mark_numbers (mark_of z l v)) None) (lt-ltb v z.n vn)

pub found_none : (z : Map) (l : Marks) (v : ℕ) → v < z.n → None ≡ landmark_in z l v → (j : ℕ) → j < z.n → l j ≡ false
found_none z l v vn e = nomark_none z l v z.n (none_nomark (mark_of z l v) (e ∙ within_is z l v vn))

pub found_some : (z : Map) (l : Marks) (v : ℕ) (x : Nearest) → v < z.n → Some x ≡ landmark_in z l v → x ≡ mark_number (mark_of z l v)
found_some z l v x vn e = some_number (mark_of z l v) x (e ∙ within_is z l v vn)

-- a landmark that was found is there
some_mark : (z : Map) (l : Marks) (v : ℕ) (x : Nearest) (M : Mark) → mark_of z l v ≡ M → Some x ≡ mark_numbers M → SomeMark z l
some_mark z l v x NoMark is e = let z : ◌≡◌ {A = ℕ} 0 1 = cc in absurd (omega arith)
some_mark z l v x (Is m a) is e = let r = nearest_is z l v z.n m a is in (m, r.0, r.1)

pub found_mark : (z : Map) (l : Marks) (v : ℕ) (x : Nearest) → v < z.n → Some x ≡ landmark_in z l v → SomeMark z l
found_mark z l v x vn e = some_mark z l v x (mark_of z l v) refl (e ∙ within_is z l v vn)

-- ---- near, in numbers
module _ (z : Map) (l : Marks) (u v : ℕ) (un : u < z.n) (vn : v < z.n)
    (fits : (a c : ℕ) → a < z.n → far z v a ≡ At c → c < 4294967295) where
  away_number : (M : Mark) → (mark_number M).away ≡ far_number (away_of M)
  away_number NoMark = refl
  away_number (Is m a) = refl

  away_fits : (M : Mark) → ((m : ℕ) (a : Far) → M ≡ Is m a → (m < z.n) × (far z v m ≡ a)) → (c : ℕ) → away_of M ≡ At c → c < 4294967295
  away_fits NoMark h c e = let x : ◌≡◌ {A = ℕ} 0 1 = cc in absurd (omega arith)
  away_fits (Is m a) h c e = let r = h m a refl in fits m c r.0 (r.1 ∙ e)

  pub near_number : ltb (far_number (far z v u)) (mark_number (mark_of z l v)).away ≡ near z l u v
  near_number =
      ap (λ (k : ℕ). ltb (far_number (far z v u)) k) (away_number (mark_of z l v))
      ∙ sym (closer_numbers (far z v u) (away_of (mark_of z l v)) (λ c p. fits u c un p)
      (away_fits (mark_of z l v) (λ m a e. let r = nearest_is z l v z.n m a e in (r.0, r.2))))

sight : (n u v : ℕ) (x : Bool) → u < n → v < n → x ≡ cond (ltb u n && ltb v n) x false
sight n u v x un vn = ap (λ (b : Bool). cond b x false) (sym (and_from (ltb u n) (ltb v n) (lt-ltb u n un) (lt-ltb v n vn)))

-- the number of a distance is at most that of no way
far_most : (f : Far) → ((c : ℕ) → f ≡ At c → c < 4294967295) → far_number f ≤ 4294967295
far_most Never h = omega arith
far_most (At c) h = omega (arith, h c refl)

module _ (z : Map) (l : Marks) (u v : ℕ) (fits : (a c : ℕ) → v < z.n → a < z.n → far z v a ≡ At c → c < 4294967295) where
  away_most : v < z.n → (M : Mark) → mark_of z l v ≡ M → (mark_number M).away ≤ 4294967295
  away_most vn NoMark e = omega arith
  away_most vn (Is m a) e =
      let i = nearest_is z l v z.n m a e in
      far_most a (λ c p. fits m c vn i.0 (i.2 ∙ p))

  near_here : v < z.n → ltb (far_in z v u) (mark_number (mark_of z l v)).away ≡ cond (ltb u z.n && ltb v z.n) (near z l u v) false
  near_here vn =
      let away = (mark_number (mark_of z l v)).away in
      elim (cases_lt u z.n) [
        | inl un ↦ ap (λ (x : ℕ). ltb x away) (sym (chosen_in z.n v u (far_number (far z v u)) 4294967295 vn un))
            ∙ near_number z l u v un vn (λ a c an. fits a c vn an)
            ∙ sight z.n u v (near z l u v) un vn
        | inr ge ↦ ap (λ (b : Bool). ltb (cond b (far_number (far z v u)) 4294967295) away) (and_right (ltb v z.n) (ltb u z.n) (le-ltb u z.n ge))
            ∙ le-ltb 4294967295 away (away_most vn (mark_of z l v) refl)
            ∙ ap (λ (b : Bool). cond b (near z l u v) false) (sym (and_left (ltb u z.n) (ltb v z.n) (le-ltb u z.n ge)))
      ]

  -- what the landmark that was found says of what is near, and that nothing is where none was found
  pub near_by : (o : Option Nearest) (r : Bool) → o ≡ cond (ltb v z.n) (Some (mark_number (mark_of z l v))) None → (o ≡ None → r ≡ false) → ((x : Nearest) → o ≡ Some x → r ≡ ltb (far_in z v u) x.away)
      → r ≡ cond (ltb u z.n && ltb v z.n) (near z l u v) false
  near_by o r e none some = elim (cases_lt v z.n) [
    | inl vn ↦ some (mark_number (mark_of z l v)) (e ∙ ap (λ (b : Bool). cond b (Some (mark_number (mark_of z l v))) None) (lt-ltb v z.n vn)) ∙ near_here vn
    | inr ge ↦ none (e ∙ ap (λ (b : Bool). cond b (Some (mark_number (mark_of z l v))) None) (le-ltb v z.n ge))
        ∙ ap (λ (b : Bool). cond b (near z l u v) false) (sym (and_right (ltb u z.n) (ltb v z.n) (le-ltb v z.n ge)))
  ]

-- what a landmark that was found says
pub found_at : (b : Bool) (x y : Nearest) → Some x ≡ cond b (Some y) None → (b ≡ true) × (x ≡ y)
found_at true x y e = (refl, cc)
found_at false x y e = let z : ◌≡◌ {A = ℕ} 0 1 = cc in absurd (omega arith)
