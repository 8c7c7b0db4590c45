-- The map in memory: its arcs in arrays, the test that makes every access safe, and the abstract map that the arrays stand for. Assumes nothing.
--
-- Glossary
--   arc          one direction of a road: from the place at which it stands to another, with the road's cost
--   starts       the arcs of place a stand from starts[a] to before starts[a + 1]
--   places       the place to which each arc leads; rising among the arcs of one place
--   costs        what each arc costs
--   lookup       the cost of the first arc among m arcs from k on that leads to e, 0 where none does
--   map_in       the abstract map of such arrays
--   sound_arcs   the arrays are those of a map
use Rattle.std.specs.Prelude.{◌≡◌, ℕ, zero, suc, ◌+◌, ◌-◌, ◌<◌, ◌≤◌, Bool, cond, not, ◌&&◌, ◌||◌, leb, List, [], length, take, drop, ◌==◌, ◌≢◌, nat_eq, nat_le, nat_lt, slice_index, slice_index_or}
use Rattle.ways.specs.Map.{Map}
use Rattle.ways.specs.Ways.{all_below}

unfoldable pub lookup : List ℕ → List ℕ → ℕ → ℕ → ℕ → ℕ
lookup places costs e k zero = 0
lookup places costs e k (suc m) = cond (slice_index places k == e) (slice_index costs k) (lookup places costs e (k + 1) m)

abbrev pub map_in : ℕ → List ℕ → List ℕ → List ℕ → Map
map_in n starts places costs = record {
  n = n;
  cost = λ a e. cond (nat_lt a n && nat_lt e n) (lookup places costs e (slice_index starts a) (slice_index starts (a + 1) - slice_index starts a)) 0;
}

-- k is the place of an arc of a, and if another arc of a comes after it, that one leads to a higher place
abbrev pub arc_fits : List ℕ → List ℕ → ℕ → ℕ → Bool
arc_fits starts places a k =
    not (nat_le (slice_index starts a) k && nat_lt k (slice_index starts (a + 1)))
    || (not (slice_index places k == a) && (nat_le (slice_index starts (a + 1)) (k + 1) || nat_lt (slice_index places k) (slice_index places (k + 1))))

-- the sizes
abbrev pub sound_sizes : ℕ → List ℕ → List ℕ → List ℕ → Bool
sound_sizes n starts places costs =
    nat_lt 0 n && (nat_le n 512 && (length starts == n + 1 && (slice_index starts n == length places && length costs == length places)))

abbrev pub sound_arcs : ℕ → List ℕ → List ℕ → List ℕ → Bool
sound_arcs n starts places costs =
    sound_sizes n starts places costs
    && (all_below n (λ a. leb (slice_index starts a) (slice_index starts (a + 1)))
    && (all_below (length places) (λ k. nat_lt (slice_index places k) n && (nat_lt 0 (slice_index costs k) && nat_le (slice_index costs k) 65535))
    && (all_below n (λ a. all_below (length places) (λ k. arc_fits starts places a k))
    && all_below n (λ a. all_below n (λ e. nat_eq ((map_in n starts places costs).cost a e) ((map_in n starts places costs).cost e a))))))

-- the same as facts
pub record Arcs (n : ℕ) (starts places costs : List ℕ) : Type 0 where
  pub some : 0 < n
  pub few : n ≤ 512
  pub long : length starts ≡ n + 1
  pub ends : slice_index_or starts n 0 ≡ length places
  pub level : length costs ≡ length places
  pub rises : (a : ℕ) → a < n → slice_index starts a ≤ slice_index starts (a + 1)
  pub inside : (k : ℕ) → k < length places → slice_index places k < n
  pub paid : (k : ℕ) → k < length places → 0 < slice_index costs k
  pub cheap : (k : ℕ) → k < length places → slice_index costs k ≤ 65535
  pub apart : (a k : ℕ) → a < n → slice_index starts a ≤ k → k < slice_index starts (a + 1) → slice_index places k ≢ a
  pub next : (a k : ℕ) → a < n → slice_index starts a ≤ k → k + 1 < slice_index starts (a + 1) → slice_index places k < slice_index places (k + 1)
  pub both : (a e : ℕ) → a < n → e < n → (map_in n starts places costs).cost a e ≡ (map_in n starts places costs).cost e a

-- What every map in memory means: roads cost the same both ways, there is none beyond the places and none from a place to itself, and no road costs more than 16 bits hold.
pub record Meaning (z : Map) : Type 0 where
  pub both : (a e : ℕ) → z.cost a e ≡ z.cost e a
  pub outside : (a e : ℕ) → z.n ≤ a → z.cost a e ≡ 0
  pub itself : (a : ℕ) → z.cost a a ≡ 0
  pub cheap : (a e : ℕ) → z.cost a e ≤ 65535

-- the part of an array that belongs to the arcs of place a; none beyond the places
abbrev pub arc_part : ℕ → List ℕ → List ℕ → ℕ → List ℕ
arc_part n starts xs a = cond (nat_lt a n) (take (slice_index starts (a + 1) - slice_index starts a) (drop (slice_index starts a) xs)) []
