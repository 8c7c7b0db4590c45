-- The test on the arrays of a map says just the facts, and what the facts say of costs. Assumes nothing.
use Rattle.std.proofs.Common.{◌≡◌, ℕ, zero, suc, ◌+◌, ◌-◌, ◌<◌, ◌≤◌, true, not, ◌&&◌, ◌||◌, eqb, ltb, leb, List, length, get_or, ap, inl, inr, arith}
use Rattle.std.proofs.lemmas.Bool.{cases_Bool, cases_lt, or_cases, or_left, or_right, not_from_false, and_parts, and_from, eq-eqb, ne_eqb, eqb-true, eqb-false, lt-ltb, ltb-true, le-leb, leb-true, both_ways}
use borrow.Author.Tests.{not-true}
use Rattle.ways.specs.Ways.{all_below}
use Rattle.ways.proofs.Hanging.{all_at, all_from}
use Rattle.maps.specs.Arcs.{map_in, arc_fits, sound_sizes, sound_arcs, Arcs}

-- ---- what the test on one arc says
fits_facts : (starts places : List ℕ) (a k : ℕ) → arc_fits starts places a k ≡ true → get_or starts a 0 ≤ k → k < get_or starts (a + 1) 0
    → (get_or places k 0 ≡ a → ⊥) × (k + 1 < get_or starts (a + 1) 0 → get_or places k 0 < get_or places (k + 1) 0)
fits_facts starts places a k h l m =
    elim (or_cases (not (leb (get_or starts a 0) k && ltb k (get_or starts (a + 1) 0))) _ h) [
      | inl p ↦ absurd (both_ways (leb (get_or starts a 0) k && ltb k (get_or starts (a + 1) 0)) (not-true _ p) (and_from (leb (get_or starts a 0) k) (ltb k (get_or starts (a + 1) 0)) (le-leb (get_or starts a 0) k l) (lt-ltb k (get_or starts (a + 1) 0) m)))
      | inr p ↦ (let q = and_parts (not (eqb (get_or places k 0) a)) (leb (get_or starts (a + 1) 0) (k + 1) || ltb (get_or places k 0) (get_or places (k + 1) 0)) p in (
        eqb-false (get_or places k 0) a (not-true (eqb (get_or places k 0) a) q.0),
        λ r. elim (or_cases (leb (get_or starts (a + 1) 0) (k + 1)) (ltb (get_or places k 0) (get_or places (k + 1) 0)) q.1)
            [ inl s ↦ absurd (omega (arith, leb-true (get_or starts (a + 1) 0) (k + 1) s)) | inr s ↦ ltb-true (get_or places k 0) (get_or places (k + 1) 0) s ],
      ))
    ]

fits_from : (starts places : List ℕ) (a k : ℕ)
    → (get_or starts a 0 ≤ k → k < get_or starts (a + 1) 0 → (get_or places k 0 ≡ a → ⊥) × (k + 1 < get_or starts (a + 1) 0 → get_or places k 0 < get_or places (k + 1) 0))
    → arc_fits starts places a k ≡ true
fits_from starts places a k f = elim (cases_Bool (leb (get_or starts a 0) k && ltb k (get_or starts (a + 1) 0))) [
  | inl p ↦ (let q = and_parts (leb (get_or starts a 0) k) (ltb k (get_or starts (a + 1) 0)) p in
      let r = f (leb-true (get_or starts a 0) k q.0) (ltb-true k (get_or starts (a + 1) 0) q.1) in
      or_right (not (leb (get_or starts a 0) k && ltb k (get_or starts (a + 1) 0))) _
      (and_from (not (eqb (get_or places k 0) a)) (leb (get_or starts (a + 1) 0) (k + 1) || ltb (get_or places k 0) (get_or places (k + 1) 0))
      (not_from_false _ (ne_eqb (get_or places k 0) a r.0))
      (elim (cases_lt (k + 1) (get_or starts (a + 1) 0)) [
        | inl s ↦ or_right (leb (get_or starts (a + 1) 0) (k + 1)) _ (lt-ltb (get_or places k 0) (get_or places (k + 1) 0) (r.1 s))
        | inr s ↦ or_left (leb (get_or starts (a + 1) 0) (k + 1)) _ (le-leb (get_or starts (a + 1) 0) (k + 1) s)
      ])))
  | inr p ↦ or_left (not (leb (get_or starts a 0) k && ltb k (get_or starts (a + 1) 0))) _ (not_from_false _ p)
]

-- ---- the test and the facts
module _ (n : ℕ) (starts places costs : List ℕ) where
  pub arcs_of_lem : sound_arcs n starts places costs ≡ true → Arcs n starts places costs
  arcs_of_lem h =
      let p = and_parts (sound_sizes n starts places costs) _ h in
      let s1 = and_parts (ltb 0 n) _ p.0 in
      let s2 = and_parts (leb n 512) _ s1.1 in
      let s3 = and_parts (eqb (length starts) (n + 1)) _ s2.1 in
      let s4 = and_parts (eqb (get_or starts n 0) (length places)) _ s3.1 in
      let q = and_parts (all_below n (λ a. leb (get_or starts a 0) (get_or starts (a + 1) 0))) _ p.1 in
      let r = and_parts (all_below (length places) (λ k. ltb (get_or places k 0) n && (ltb 0 (get_or costs k 0) && leb (get_or costs k 0) 65535))) _ q.1 in
      let t = and_parts (all_below n (λ a. all_below (length places) (λ k. arc_fits starts places a k))) _ r.1 in
      let most : (m a : ℕ) → a + m ≡ n → get_or starts a 0 ≤ get_or starts n 0 = top (λ a l. leb-true _ _ (all_at n (λ a. leb (get_or starts a 0) (get_or starts (a + 1) 0)) q.0 a l)) in
      let ends : get_or starts n 0 ≡ length places = eqb-true _ _ s4.0 in
      let here : (a k : ℕ) → a < n → k < get_or starts (a + 1) 0 → k < length places = λ a k l m. omega (arith, most (n - (a + 1)) (a + 1) (omega arith), ends) in
      let one : (k : ℕ) → k < length places → (get_or places k 0 < n) × (0 < get_or costs k 0) × (get_or costs k 0 ≤ 65535) = λ k l.
      (let x = and_parts (ltb (get_or places k 0) n) _ (all_at (length places) (λ k. ltb (get_or places k 0) n && (ltb 0 (get_or costs k 0) && leb (get_or costs k 0) 65535)) r.0 k l) in
      let y = and_parts (ltb 0 (get_or costs k 0)) _ x.1 in
      (ltb-true _ _ x.0, ltb-true _ _ y.0, leb-true _ _ y.1)) in
      let fit : (a k : ℕ) → a < n → get_or starts a 0 ≤ k → k < get_or starts (a + 1) 0 → (get_or places k 0 ≡ a → ⊥) × (k + 1 < get_or starts (a + 1) 0 → get_or places k 0 < get_or places (k + 1) 0) = λ a k l x y.
      fits_facts starts places a k (all_at (length places) (λ k. arc_fits starts places a k) (all_at n (λ a. all_below (length places) (λ k. arc_fits starts places a k)) t.0 a l) k (here a k l y)) x y in
      record {
        some = ltb-true _ _ s1.0;
        few = leb-true _ _ s2.0;
        long = eqb-true _ _ s3.0;
        ends = ends;
        level = eqb-true _ _ s4.1;
        rises = λ a l. leb-true _ _ (all_at n (λ a. leb (get_or starts a 0) (get_or starts (a + 1) 0)) q.0 a l);
        inside = λ k l. (one k l).0;
        paid = λ k l. (one k l).1;
        cheap = λ k l. (one k l).2;
        apart = λ a k l x y. (fit a k l x y).0;
        next = λ a k l x y. (fit a k l x (omega arith)).1 y;
        both = λ a e l m. eqb-true _ _ (all_at n (λ e. eqb ((map_in n starts places costs).cost a e) ((map_in n starts places costs).cost e a)) (all_at n (λ a. all_below n (λ e. eqb ((map_in n starts places costs).cost a e) ((map_in n starts places costs).cost e a))) t.1 a l) e m);
      }
    where
      top : ((a : ℕ) → a < n → get_or starts a 0 ≤ get_or starts (a + 1) 0) → (m a : ℕ) → a + m ≡ n → get_or starts a 0 ≤ get_or starts n 0
      top f zero a e = let s : a ≡ n = omega arith in omega (arith, ap (λ x. get_or starts x 0) s)
      top f (suc m) a e = omega (arith, f a (omega arith), top f m (a + 1) (omega arith))

  pub arcs_sound : Arcs n starts places costs → sound_arcs n starts places costs ≡ true
  arcs_sound A =
      and_from (sound_sizes n starts places costs) _
      (and_from (ltb 0 n) _ (lt-ltb 0 n A.some) (and_from (leb n 512) _ (le-leb n 512 A.few) (and_from (eqb (length starts) (n + 1)) _ (eq-eqb _ _ A.long) (and_from (eqb (get_or starts n 0) (length places)) _ (eq-eqb _ _ A.ends) (eq-eqb _ _ A.level)))))
      (and_from (all_below n (λ a. leb (get_or starts a 0) (get_or starts (a + 1) 0))) _
      (all_from n (λ a. leb (get_or starts a 0) (get_or starts (a + 1) 0)) (λ a l. le-leb _ _ (A.rises a l)))
      (and_from (all_below (length places) (λ k. ltb (get_or places k 0) n && (ltb 0 (get_or costs k 0) && leb (get_or costs k 0) 65535))) _
      (all_from (length places) _ (λ k l. and_from (ltb (get_or places k 0) n) _ (lt-ltb _ _ (A.inside k l)) (and_from (ltb 0 (get_or costs k 0)) _ (lt-ltb _ _ (A.paid k l)) (le-leb _ _ (A.cheap k l)))))
      (and_from (all_below n (λ a. all_below (length places) (λ k. arc_fits starts places a k))) _
      (all_from n _ (λ a l. all_from (length places) _ (λ k m. fits_from starts places a k (λ x y. (A.apart a k l x y, A.next a k l x)))))
      (all_from n _ (λ a l. all_from n _ (λ e m. eq-eqb _ _ (A.both a e l m)))))))
