-- What `closer` and `or_closer` give. Assumes nothing.
use Rattle.std.proofs.Common.{◌≡◌, ℕ, ◌<◌, ◌≤◌, true, false, ltb, ◌⊎◌, refl, ◌∙◌, inl, inr, arith}
use Rattle.std.proofs.lemmas.Bool.{cases_Bool, false≢true, lt-ltb, le-ltb, ltb-true, ltb-false}
use Rattle.ways.specs.Map.{Far, Never, At}
use Rattle.landmarks.specs.Landmarks.{closer, Mark, NoMark, Is, or_closer}

pub closer_test : (x y : Far) (p r : ℕ) → x ≡ At p → y ≡ At r → closer x y ≡ ltb p r
closer_test x y p r h g = rw (h, g) refl

pub closer_so : (x y : Far) (p r : ℕ) → x ≡ At p → y ≡ At r → p < r → closer x y ≡ true
closer_so x y p r h g l = closer_test x y p r h g ∙ lt-ltb p r l

-- what is closer is there
pub closer_some : (x y : Far) → closer x y ≡ true → (p : ℕ) × (x ≡ At p)
closer_some Never y h = absurd (false≢true h)
closer_some (At p) y h = (p, refl)

pub closer_is : (x : Far) (r : ℕ) → closer x (At r) ≡ true → (p : ℕ) × (x ≡ At p) × (p < r)
closer_is Never r h = absurd (false≢true h)
closer_is (At p) r h = (p, refl, ltb-true p r h)

-- what is there is closer than what isn't
pub closer_never : (x : Far) (p : ℕ) → x ≡ At p → closer x Never ≡ true
closer_never x p h = rw h refl

-- nothing is closer than itself
pub closer_self : (x : Far) → closer x x ≡ false
closer_self Never = refl
closer_self (At p) = le-ltb p p (omega arith)

pub closer_trans : (x y w : Far) → closer x y ≡ true → closer y w ≡ true → closer x w ≡ true
closer_trans Never y w h g = h
closer_trans (At p) Never w h g = absurd (false≢true g)
closer_trans (At p) (At q) Never h g = refl
closer_trans (At p) (At q) (At r) h g = lt-ltb p r (omega (arith, ltb-true p q h, ltb-true q r g))

pub closer_rises : (x : Far) (q p : ℕ) → q ≤ p → closer x (At q) ≡ true → closer x (At p) ≡ true
closer_rises Never q p l h = h
closer_rises (At a) q p l h = lt-ltb a p (omega (arith, ltb-true a q h))

-- a landmark at q or closer is found
abbrev pub Found : Mark → ℕ → Type 0
Found M q = (m : ℕ) × (r : ℕ) × (M ≡ Is m (At r)) × (r ≤ q)

pub or_keeps : (M : Mark) (k : ℕ) (f : Far) (q : ℕ) → Found M q → Found (or_closer M k f) q
or_keeps NoMark k f q u = absurd (let k : ◌≡◌ {A = ℕ} 0 1 = cc in omega arith)
or_keeps (Is m Never) k f q u = absurd (let k : ◌≡◌ {A = ℕ} 0 1 = cc in omega arith)
or_keeps (Is m (At a)) k Never q u = u
or_keeps (Is m (At a)) k (At b) q u =
    let s : a ≡ u.1 = cc in
    elim (cases_Bool (ltb b a)) [ inl t ↦ (k, b, rw t refl, omega (arith, ltb-true b a t)) | inr t ↦ (m, a, rw t refl, omega arith) ]

pub or_takes : (M : Mark) (k q : ℕ) → Found (or_closer M k (At q)) q
or_takes NoMark k q = (k, q, refl, omega arith)
or_takes (Is m Never) k q = (k, q, refl, omega arith)
or_takes (Is m (At a)) k q = elim (cases_Bool (ltb q a)) [ inl t ↦ (k, q, rw t refl, omega arith) | inr t ↦ (m, a, rw t refl, omega (arith, ltb-false q a t)) ]

-- it was there before, or it is the new one, which is then closer than the old one was
pub or_is : (M : Mark) (k : ℕ) (f : Far) (m : ℕ) (g : Far) → or_closer M k f ≡ Is m g → (M ≡ Is m g) ⊎ ((k ≡ m) × (f ≡ g) × ((i : ℕ) (a : Far) → M ≡ Is i a → closer f a ≡ true))
or_is NoMark k f m g h = inr (cc, cc, λ i a e. absurd (let x : ◌≡◌ {A = ℕ} 0 1 = cc in omega arith))
or_is (Is n a) k f m g h = elim (cases_Bool (closer f a)) [
  | inl t ↦ (let e : Is k f ≡ Is m g = rw t at h in inr (cc, cc, λ i b s. let x : a ≡ b = cc in rw x at t))
  | inr t ↦ inl (rw t at h)
]
