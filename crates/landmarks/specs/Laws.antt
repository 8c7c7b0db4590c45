-- The laws of landmarks and of what is near, each as a type; a proof of the type is the theorem. Assumes nothing.
use Rattle.std.specs.Prelude.{◌≡◌, ℕ, ◌<◌, ◌≤◌, true, false}
use Rattle.ways.specs.Map.{Map, At, far, To, hop}
use Rattle.ways.specs.Ways.{Joined}
use Rattle.landmarks.specs.Landmarks.{Marks, Is, mark_of, place_of, near, line_count}

-- m is the landmark closest to v among the places 0 to k - 1, at the distance r; the lowest among equals
pub record Closest (z : Map) (l : Marks) (v k m r : ℕ) : Type 0 where
  pub there : m < k
  pub marked : l m ≡ true
  pub away : far z v m ≡ At r
  pub least : (j q : ℕ) → j < k → l j ≡ true → far z v j ≡ At q → r ≤ q
  pub lowest : (j q : ℕ) → j < m → l j ≡ true → far z v j ≡ At q → r < q

-- the landmark of v: a landmark at the least distance, and the lowest of these
abbrev pub Landmark : Map → Marks → ℕ → ℕ → ℕ → Type 0
Landmark z l v m r = Closest z l v z.n m r

abbrev pub SomeMark : Map → Marks → Type 0
SomeMark z l = (m : ℕ) × (m < z.n) × (l m ≡ true)

-- Where there is a way from each place to each and some landmark, each place has its landmark.
abbrev pub LandmarkThere : Type 0
LandmarkThere = (z : Map) (l : Marks) → Joined z → SomeMark z l → (v : ℕ) → v < z.n → (m : ℕ) × (r : ℕ) × (mark_of z l v ≡ Is m (At r)) × Landmark z l v m r

-- Whoever has the properties of the landmark of v is it.
abbrev pub LandmarkOnly : Type 0
LandmarkOnly = (z : Map) (l : Marks) (v m r : ℕ) → Landmark z l v m r → mark_of z l v ≡ Is m (At r)

-- A landmark is its own landmark.
abbrev pub LandmarkOwn : Type 0
LandmarkOwn = (z : Map) (l : Marks) (v : ℕ) → v < z.n → l v ≡ true → mark_of z l v ≡ Is v (At 0)

-- v is near u just where the distance from u is less than that from the landmark of v.
pub record NearMeans (z : Map) (l : Marks) (v r : ℕ) : Type 0 where
  pub is : (u p : ℕ) → far z v u ≡ At p → p < r → near z l u v ≡ true
  pub is_not : (u p : ℕ) → far z v u ≡ At p → r ≤ p → near z l u v ≡ false
  pub only : (u : ℕ) → near z l u v ≡ true → (p : ℕ) × (far z v u ≡ At p) × (p < r)

abbrev pub NearMeansLess : Type 0
NearMeansLess = (z : Map) (l : Marks) (v m r : ℕ) → Landmark z l v m r → NearMeans z l v r

-- A landmark is never near.
abbrev pub NearNoLandmark : Type 0
NearNoLandmark = (z : Map) (l : Marks) (u v : ℕ) → v < z.n → l v ≡ true → near z l u v ≡ false

-- Where a place stands on a post as near, it does on all posts further on the way.
abbrev pub NearStays : Type 0
NearStays = (z : Map) (l : Marks) (u v w : ℕ) → u < z.n → v < z.n → near z l u v ≡ true → hop z v u ≡ To w → near z l w v ≡ true

-- One step on from its landmark a place is near.
abbrev pub NearFromLandmark : Type 0
NearFromLandmark = (z : Map) (l : Marks) (v w : ℕ) → v < z.n → hop z v (place_of (mark_of z l v)) ≡ To w → near z l w v ≡ true

-- With more landmarks less is near.
abbrev pub NearLess : Type 0
NearLess = (z : Map) (l m : Marks) (u v : ℕ) → ((a : ℕ) → a < z.n → l a ≡ true → m a ≡ true) → near z m u v ≡ true → near z l u v ≡ true

-- No post has a line for each place: there is none for the place at which it stands.
abbrev pub LinesFew : Type 0
LinesFew = (z : Map) (l : Marks) (u : ℕ) → u < z.n → line_count z l u < z.n
