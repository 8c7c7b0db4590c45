-- What is near: by numbers, along a way, one step on from a landmark, and with more landmarks. Assumes nothing.
use Rattle.std.proofs.Common.{◌≡◌, ℕ, zero, suc, Bool, cond, length, ◌+◌, ◌<◌, ◌≤◌, true, false, not, ◌||◌, eqb, ltb, ◌⊎◌, sym, refl, ap, ◌∙◌, inl, inr, arith}
use Rattle.std.proofs.lemmas.Bool.{cases_Bool, and_from, and_left, or_left, or_right, not_from_true, not_from_false, eq-eqb, ne_eqb, lt-ltb, le-ltb}
use Rattle.ways.specs.Map.{Map, Far, Never, At, far, To, hop}
use Rattle.ways.proofs.NextPlaces.{next_place}
use Rattle.std.specs.List.{filter, range_with_len}
use Rattle.ways.specs.Ways.{count_below}
use Rattle.ways.proofs.Counting.{count_next, count_short, count_start}
use Rattle.landmarks.specs.Landmarks.{Marks, closer, Mark, NoMark, Is, mark_of, away_of, place_of, near, on_post}
use Rattle.landmarks.specs.Laws.{Landmark, NearMeansLess, NearNoLandmark, NearStays, NearFromLandmark, NearLess, LinesFew}
use Rattle.landmarks.proofs.Closer.{closer_test, closer_so, closer_some, closer_is, closer_never, closer_trans, closer_rises}
use Rattle.landmarks.proofs.Closest.{nearest_is, nearest_low, landmark_only, landmark_own}

-- ---- by numbers
module _ (z : Map) (l : Marks) (v m r : ℕ) (c : Landmark z l v m r) where
  landmark_away : away_of (mark_of z l v) ≡ At r
  landmark_away = ap away_of (landmark_only z l v m r c)

  pub near_test : (u p : ℕ) → far z v u ≡ At p → near z l u v ≡ ltb p r
  near_test u p h = closer_test (far z v u) (away_of (mark_of z l v)) p r h landmark_away

  pub near_so : (u p : ℕ) → far z v u ≡ At p → p < r → near z l u v ≡ true
  near_so u p h lt = near_test u p h ∙ lt-ltb p r lt

  pub near_not : (u p : ℕ) → far z v u ≡ At p → r ≤ p → near z l u v ≡ false
  near_not u p h le = near_test u p h ∙ le-ltb p r le

  pub near_is : (u : ℕ) → near z l u v ≡ true → (p : ℕ) × (far z v u ≡ At p) × (p < r)
  near_is u h = closer_is (far z v u) r (sym (ap (closer (far z v u)) landmark_away) ∙ h)

pub near_means : NearMeansLess
near_means z l v m r c = record { is = near_so z l v m r c; is_not = near_not z l v m r c; only = near_is z l v m r c }

closer_none : (x : Far) → closer x (At 0) ≡ false
closer_none Never = refl
closer_none (At p) = le-ltb p 0 (omega arith)

pub near_no_landmark : NearNoLandmark
near_no_landmark z l u v vn is = ap (λ M. closer (far z v u) (away_of M)) (landmark_own z l v vn is) ∙ closer_none (far z v u)

-- ---- along a way
-- the next place is closer
pub hop_closer : (z : Map) (d a w : ℕ) → d < z.n → a < z.n → hop z d a ≡ To w → closer (far z d w) (far z d a) ≡ true
hop_closer z d a w dn an h =
    let b = (next_place z d a dn an).closer w h in
    closer_so (far z d w) (far z d a) b.rest (z.cost a w + b.rest) b.rest_is b.whole_is (omega (arith, b.neighbour))

pub near_stays : NearStays
near_stays z l u v w un vn isnear h = closer_trans (far z v w) (far z v u) (away_of (mark_of z l v)) (hop_closer z v u w vn un h) isnear

from_mark : (z : Map) (l : Marks) (v w : ℕ) (M : Mark) → v < z.n → mark_of z l v ≡ M → hop z v (place_of M) ≡ To w → closer (far z v w) (away_of M) ≡ true
from_mark z l v w NoMark vn e h = let b = (next_place z v 0 vn (omega arith)).closer w h in closer_never (far z v w) b.rest b.rest_is
from_mark z l v w (Is m a) vn e h =
    let i = nearest_is z l v z.n m a e in
    sym (ap (closer (far z v w)) i.2) ∙ hop_closer z v m w vn i.0 h

pub near_from_landmark : NearFromLandmark
near_from_landmark z l v w vn h = from_mark z l v w (mark_of z l v) vn refl h

-- ---- with more landmarks
with_fewer : (z : Map) (l m : Marks) (u v : ℕ) (M : Mark) → ((a : ℕ) → a < z.n → l a ≡ true → m a ≡ true) → mark_of z l v ≡ M → near z m u v ≡ true → closer (far z v u) (away_of M) ≡ true
with_fewer z l m u v NoMark more e h = let p = closer_some (far z v u) (away_of (mark_of z m v)) h in closer_never (far z v u) p.0 p.1
with_fewer z l m u v (Is x Never) more e h = let p = closer_some (far z v u) (away_of (mark_of z m v)) h in closer_never (far z v u) p.0 p.1
with_fewer z l m u v (Is x (At r)) more e h =
    let i = nearest_is z l v z.n x (At r) e in
    let f = nearest_low z m v z.n x r i.0 (more x i.0 i.1) i.2 in
    closer_rises (far z v u) f.1 r f.3 (sym (ap (λ M. closer (far z v u) (away_of M)) f.2) ∙ h)

pub near_less : NearLess
near_less z l m u v more h = with_fewer z l m u v (mark_of z l v) more refl h

-- ---- what is on a post: landmarks and what is near, but not its own place
module _ (z : Map) (l : Marks) (u : ℕ) where
  pub post_has : (v : ℕ) → (u ≡ v → ⊥) → (l v ≡ true) ⊎ (near z l u v ≡ true) → on_post z l u v ≡ true
  post_has v ne why =
      and_from (not (eqb v u)) (l v || near z l u v) (not_from_false (eqb v u) (ne_eqb v u (λ e. ne (sym e))))
      (elim why [ inl t ↦ or_left (l v) (near z l u v) t | inr t ↦ or_right (l v) (near z l u v) t ])

  pub post_not_own : on_post z l u u ≡ false
  post_not_own = and_left (not (eqb u u)) (l u || near z l u u) (not_from_true (eqb u u) (eq-eqb u u refl))

pub lines_few : LinesFew
lines_few z l u un = count_short z.n u (on_post z l u) un (post_not_own z l u)

-- ---- counting over a range
count_rest : (f : ℕ → Bool) (k a m : ℕ) → a + k ≡ m → length (filter f (range_with_len a k)) + count_below a f ≡ count_below m f
count_rest f zero a m e = omega (arith, ap (λ x. count_below x f) (let s : a ≡ m = omega arith in s))
count_rest f (suc k) a m e = elim (cases_Bool (f a)) [
  | inl t ↦ rw t (omega (arith, count_rest f k (a + 1) m (omega arith), count_next a f, ap {B = ℕ} (λ (b : Bool). cond b 1 0) t))
  | inr t ↦ rw t (omega (arith, count_rest f k (a + 1) m (omega arith), count_next a f, ap {B = ℕ} (λ (b : Bool). cond b 1 0) t))
]

pub count_of_range : (f : ℕ → Bool) (n : ℕ) → length (filter f (range_with_len 0 n)) ≡ count_below n f
count_of_range f n = omega (arith, count_rest f n 0 n (omega arith), count_start f)
