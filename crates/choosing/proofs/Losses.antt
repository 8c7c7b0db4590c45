-- What one landmark more takes away. Assumes nothing.
use Rattle.std.proofs.Common.{◌≡◌, ℕ, ◌+◌, ◌-◌, ◌<◌, ◌≤◌, min, false, cond, ◌&&◌, ltb, leb, List, All, map, length, get_or, replicate, sym, refl, ap, ◌∙◌, inl, inr, arith}
use Rattle.std.specs.List.{range_with_len}
use Rattle.std.proofs.lemmas.List.FromFn.{get_or-map-range_with_len}
use Rattle.std.proofs.lemmas.List.{get_or-replicate}
use Rattle.std.proofs.lemmas.Grind.{get_or_default_zero}
use Rattle.std.proofs.lemmas.Bool.{cases_lt, lt-ltb, le-ltb, le-leb, lt-leb, and_right}
use Rattle.ways.specs.Map.{Map}
use Rattle.ways.specs.Ways.{count_below}
use Rattle.landmarks.specs.Landmarks.{Marks}
use Rattle.choosing.specs.Choosing.{sum_below, above, with_mark}
use Rattle.ways.proofs.Counting.{count_most, count_start, count_next, count_same}
use Rattle.choosing.proofs.Sums.{count_two, count_nothing, sum_same}
use Rattle.choosing.proofs.Tabled.{judged}
use Rattle.choosing.proofs.RowParts.{near_most}
use Rattle.choosing.specs.Tables.{apart, Aways, near_to, Nears, between01, lost_below, left_below}

-- one place v at one post: it is near still, or was near and is lost, or was not near
one_lost : (d a e : ℕ) → cond (ltb d (min a e)) 1 0 + between01 e a d ≡ cond (ltb d a) 1 0 + cond false 1 0
one_lost d a e =
    elim (cases_lt d a) [
      | inl p ↦ elim (cases_lt d e) [
        | inl q ↦ rw (lt-ltb d (min a e) (omega arith), lt-leb e d q, lt-ltb d a p) refl
        | inr q ↦ rw (le-ltb d (min a e) (omega arith), le-leb e d q, lt-ltb d a p) refl
      ]
      | inr p ↦ rw (le-ltb d (min a e) (omega arith), le-ltb d a p, and_right (leb e d) false refl) refl
    ]

-- over functions: what is near with c too, and what is lost by c, is what was near
lost_is : (n : ℕ) (D : ℕ → ℕ) (A C : ℕ → ℕ) → count_below n (λ v. ltb (D v) (min (A v) (C v))) + count_below n (λ v. leb (C v) (D v) && ltb (D v) (A v)) ≡ count_below n (λ v. ltb (D v) (A v))
lost_is n D A C = omega (arith, count_nothing n, count_two n (λ v. ltb (D v) (min (A v) (C v))) (λ v. leb (C v) (D v) && ltb (D v) (A v)) (λ v. ltb (D v) (A v)) (λ _. false) (λ v vn. one_lost (D v) (A v) (C v)))

-- the same, by lists
lost_now : (n : ℕ) (table away after : List ℕ) (c u : ℕ) → u < n → ((v w : ℕ) → v < n → w < n → apart n table v w ≡ apart n table w v)
    → ((v : ℕ) → v < n → get_or after v 0 ≡ min (get_or away v 0) (apart n table c v)) → near_to n table after u + lost_below n table away c u n ≡ near_to n table away u
lost_now n table away after c u un both h =
    omega (
      arith,
      lost_is n (apart n table u) (λ v. get_or away v 0) (apart n table c),
      count_same n (λ v. ltb (apart n table u v) (min (get_or away v 0) (apart n table c v))) (λ v. ltb (apart n table u v) (get_or after v 0)) (λ v vn. ap (ltb (apart n table u v)) (h v vn)),
      count_same n (λ v. leb (apart n table c v) (apart n table u v) && ltb (apart n table u v) (get_or away v 0)) (λ v. leb (apart n table c v) (apart n table v u) && ltb (apart n table v u) (get_or away v 0)) (λ v vn. ap (λ x. leb (apart n table c v) x && ltb x (get_or away v 0)) (both v u vn un)),
    )

lost_most : (n : ℕ) (table away : List ℕ) (c u k : ℕ) → lost_below n table away c u k ≤ k
lost_most n table away c u k = count_most k (λ v. leb (apart n table c v) (apart n table v u) && ltb (apart n table v u) (get_or away v 0))

pub lost_more : (n : ℕ) (table away : List ℕ) (c u v : ℕ) → lost_below n table away c u (v + 1) ≡ lost_below n table away c u v + between01 (apart n table c v) (get_or away v 0) (apart n table v u)
lost_more n table away c u v = omega (arith, count_next v (λ v. leb (apart n table c v) (apart n table v u) && ltb (apart n table v u) (get_or away v 0)))

lost_zero : (n : ℕ) (table away : List ℕ) (c u : ℕ) → lost_below n table away c u 0 ≡ 0
lost_zero n table away c u = count_start (λ v. leb (apart n table c v) (apart n table v u) && ltb (apart n table v u) (get_or away v 0))

-- nothing is lost at a place that c is not near
pub between_none : (low high x : ℕ) → high ≤ low → between01 low high x ≡ 0
between_none low high x h = elim (cases_lt x low) [
  | inl p ↦ rw (lt-leb low x p) refl
  | inr p ↦ rw (le-leb low x p, le-ltb x high (omega arith)) refl
]

-- judging one place by losses
pub judged_lost : (z : Map) (l : Marks) (n : ℕ) (table away near : List ℕ) (count room c : ℕ) → Aways z l n table away → count_below n l ≡ count → l c ≡ false → c < n
    → Nears n table away near → sum_below n (λ u. (count + 1 + get_or near u 0) - (lost_below n table away c u n + (room + 1))) ≡ above z room (with_mark c l)
judged_lost z l n table away near count room c a k f cn ns =
    sum_same n (λ u. (count + 1 + get_or near u 0) - (lost_below n table away c u n + (room + 1))) (λ u. ((count + 1) + near_to n table after u) - (room + 1))
    (λ u un. omega (arith, ns u un, lost_now n table away after c u un a.tabled.both is))
    ∙ judged z l n table away after count room c a k f cn is
  where
    after : List ℕ
    after = map (λ v. min (get_or away v 0) (apart n table c v)) (range_with_len 0 n)

    is : (v : ℕ) → v < n → get_or after v 0 ≡ min (get_or away v 0) (apart n table c v)
    is v vn = get_or-map-range_with_len (λ v. min (get_or away v 0) (apart n table c v)) 0 n v v 0 vn (omega arith)

-- the same where a list has what is lost
pub judged_left : (z : Map) (l : Marks) (n : ℕ) (table away near lost : List ℕ) (count room c : ℕ) → Aways z l n table away → count_below n l ≡ count → l c ≡ false → c < n
    → Nears n table away near → ((u : ℕ) → u < n → get_or lost u 0 ≡ lost_below n table away c u n)
    → left_below near lost (count + 1) room n ≡ above z room (with_mark c l)
judged_left z l n table away near lost count room c a k f cn ns ls =
    sum_same n (λ u. ((count + 1) + get_or near u 0) - (get_or lost u 0 + (room + 1))) (λ u. (count + 1 + get_or near u 0) - (lost_below n table away c u n + (room + 1))) (λ u un. omega (arith, ls u un))
    ∙ judged_lost z l n table away near count room c a k f cn ns

-- ---- the loop over places that c may be near
abbrev pub Fading : ℕ → List ℕ → List ℕ → ℕ → ℕ → List ℕ → Type 0
Fading n table away c v lost = (u : ℕ) → u < n → get_or lost u 0 ≡ lost_below n table away c u v

pub fading_start : (n : ℕ) (table away : List ℕ) (c m : ℕ) (lost : List ℕ) → m ≡ n → lost ≡ replicate m 0 → Fading n table away c 0 lost
fading_start n table away c m lost ln e u un = ap (λ xs. get_or xs u 0) e ∙ get_or-replicate m u 0 0 (omega arith) ∙ sym (lost_zero n table away c u)

module _ (n : ℕ) (table away : List ℕ) (c v from : ℕ) (is : from ≡ apart n table c v) (lost : List ℕ) (h : Fading n table away c v lost) where
  pub fading_none : get_or away v 0 ≤ from → Fading n table away c (v + 1) lost
  fading_none le u un = omega (arith, h u un, lost_more n table away c u v, between_none (apart n table c v) (get_or away v 0) (apart n table v u) (omega arith))

  pub fading_some : (after : List ℕ) → ((u : ℕ) → u < n → get_or after u 0 ≡ get_or lost u 0 + between01 from (get_or away v 0) (apart n table v u)) → Fading n table away c (v + 1) after
  fading_some after af u un = omega (arith, h u un, lost_more n table away c u v, af u un, ap (λ k. between01 k (get_or away v 0) (apart n table v u)) is)

pub fading_few : (n : ℕ) (table away : List ℕ) (c v : ℕ) (lost : List ℕ) → Fading n table away c v lost → v ≤ 512 → length lost ≡ n → All (λ x. x ≤ 512) lost
fading_few n table away c v lost h le long u d un = omega (arith, get_or_default_zero lost u d un, h u (omega arith), lost_most n table away c u v)

pub nears_few : (n : ℕ) (table away near : List ℕ) → Nears n table away near → n ≤ 512 → length near ≡ n → All (λ x. x ≤ 512) near
nears_few n table away near h le long k d kn = omega (arith, get_or_default_zero near k d kn, h k (omega arith), near_most n table away k)
