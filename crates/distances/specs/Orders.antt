-- Places in the order of their distances from one place, or from each. Assumes nothing.
use Rattle.std.specs.Prelude.{◌≡◌, ℕ, zero, suc, ◌+◌, ◌*◌, ◌<◌, ◌≤◌, cond, List, length, ◌==◌, slice_index}

-- seq has each of n places once, the closest first; `at` says where each place stands in it
pub record Sorted (n : ℕ) (far seq : ℕ → ℕ) : Type 0 where
  pub at : ℕ → ℕ
  pub inside : (j : ℕ) → j < n → seq j < n
  pub at_inside : (u : ℕ) → u < n → at u < n
  pub back : (u : ℕ) → u < n → seq (at u) ≡ u
  pub forth : (j : ℕ) → j < n → at (seq j) ≡ j
  pub rises : (i j : ℕ) → i ≤ j → j < n → far (seq i) ≤ far (seq j)

-- every place has a distance
abbrev pub Reached : ℕ → (ℕ → ℕ) → Type 0
Reached n far = (a : ℕ) → a < n → far a < 4294967295

-- what noting one row leaves of entries: those before `from` stay, and from there on stands the order of the row, if every place has a way
pub record OrderRow (n from : ℕ) (dist before after : List ℕ) : Type 0 where
  pub long : length after ≡ length before
  pub rest : (j : ℕ) → j < from → slice_index after j ≡ slice_index before j
  pub row : Reached n (λ a. slice_index dist a) → Sorted n (λ a. slice_index dist a) (λ j. slice_index after (from + j))

-- the orders of all rows one after the other
abbrev pub OrderRows : ℕ → List ℕ → List ℕ → Type 0
OrderRows n dist order = (d : ℕ) → d < n → Reached n (λ a. slice_index dist (d * n + a)) → Sorted n (λ a. slice_index dist (d * n + a)) (λ j. slice_index order (d * n + j))

-- the place at j in the order of row d
abbrev pub in_order : ℕ → List ℕ → ℕ → ℕ → ℕ
in_order n order d j = slice_index order (d * n + j)

-- where u stands among the first k of an order: the last such place, 0 if it isn't there
unfoldable pub rank : (ℕ → ℕ) → ℕ → ℕ → ℕ
rank seq zero u = 0
rank seq (suc k) u = cond (seq k == u) k (rank seq k u)

abbrev pub rank_in : ℕ → List ℕ → ℕ → ℕ → ℕ
rank_in n order d u = rank (in_order n order d) n u

-- d is a place, and every place has a way to it
abbrev pub Whole : ℕ → List ℕ → ℕ → Type 0
Whole n dist d = (d < n) × Reached n (λ a. slice_index dist (d * n + a))

-- `s` may hold entries of which there are `many` at least, whatever it is that holds entries
abbrev pub Room : {S : Type 0} → (S → List ℕ → Type 0) → S → ℕ → Type 0
Room holds s many = (xs : List ℕ) × holds s xs × (many ≤ length xs)

-- `before` may have held entries, `many` at least: whichever, `after` may hold some that R joins with them
abbrev pub Goes : {S : Type 0} → (S → List ℕ → Type 0) → S → S → ℕ → (List ℕ → List ℕ → Type 0) → Type 0
Goes holds before after many R = (xs : List ℕ) → holds before xs → many ≤ length xs → (ys : List ℕ) × holds after ys × R xs ys
