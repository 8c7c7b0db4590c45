-- The places in the order in which they are settled: what holds while places are settled, and that the order is by distance. Assumes nothing.
use Rattle.std.proofs.Common.{◌≡◌, ℕ, zero, suc, ◌+◌, ◌<◌, ◌≤◌, Bool, true, false, cond, eqb, sym, refl, ap, ◌∙◌, inl, inr, arith}
use Rattle.std.proofs.lemmas.Bool.{cases_eq, eq-eqb, ne_eqb, both_ways}
use Rattle.ways.specs.Ways.{count_below}
use Rattle.ways.proofs.Counting.{count_none, count_more}
use Rattle.distances.specs.Orders.{Sorted}

count_all : (k : ℕ) (f : ℕ → Bool) → ((i : ℕ) → i < k → f i ≡ true) → count_below k f ≡ k
unfolding count_below
count_all zero f h = refl
count_all (suc k) f h =
    let x : ◌≡◌ {A = ℕ} (cond (f k) 1 0) 1 = ap (λ b. cond b 1 0) (h k (omega arith)) in
    omega (arith, x, count_all k f (λ i l. h i (omega arith)))

-- f is how far each place is, s says which ones are settled, and the first k of seq are those, in the order in which they were settled
pub record Ordering (n : ℕ) (f : ℕ → ℕ) (s : ℕ → Bool) (seq : ℕ → ℕ) (k : ℕ) : Type 0 where
  pub at : ℕ → ℕ
  pub counts : count_below n s ≡ k
  pub inside : (j : ℕ) → j < k → seq j < n
  pub done : (j : ℕ) → j < k → s (seq j) ≡ true
  pub forth : (j : ℕ) → j < k → at (seq j) ≡ j
  pub at_inside : (a : ℕ) → a < n → s a ≡ true → at a < k
  pub back : (a : ℕ) → a < n → s a ≡ true → seq (at a) ≡ a
  pub rises : (i j : ℕ) → i ≤ j → j < k → f (seq i) ≤ f (seq j)

pub ordering_start : (n : ℕ) (f : ℕ → ℕ) (s : ℕ → Bool) (seq : ℕ → ℕ) → ((a : ℕ) → a < n → s a ≡ false) → Ordering n f s seq 0
ordering_start n f s seq none = record {
  at = λ a. 0;
  counts = count_none n s none;
  inside = λ j h. absurd (omega arith);
  done = λ j h. absurd (omega arith);
  forth = λ j h. absurd (omega arith);
  at_inside = λ a l h. absurd (both_ways (s a) (none a l) h);
  back = λ a l h. absurd (both_ways (s a) (none a l) h);
  rises = λ i j p h. absurd (omega arith);
}

-- u is settled now too, and no settled place is farther; g is how far each place is then, and `next` the order with u at its end
module _ (n : ℕ) (f g : ℕ → ℕ) (s t : ℕ → Bool) (seq next : ℕ → ℕ) (k u : ℕ) (o : Ordering n f s seq k) (un : u < n) (su : s u ≡ false) (tu : t u ≡ true)
    (ts : (a : ℕ) → (a ≡ u → ⊥) → t a ≡ s a) (stays : (a : ℕ) → a < n → s a ≡ true → g a ≡ f a) (here : g u ≡ f u)
    (low : (a : ℕ) → a < n → s a ≡ true → f a ≤ f u) (next_here : next k ≡ u) (next_old : (j : ℕ) → j < k → next j ≡ seq j) where
  -- what was settled is another place
  other : (a : ℕ) → s a ≡ true → a ≡ u → ⊥
  other a h e = both_ways (s u) su (sym (ap s e) ∙ h)

  abbrev at_next : ℕ → ℕ
  at_next a = cond (eqb a u) k (o.at a)

  at_u : (a : ℕ) → a ≡ u → at_next a ≡ k
  at_u a e = ap (λ b. cond b k (o.at a)) (eq-eqb a u e)

  at_other : (a : ℕ) → (a ≡ u → ⊥) → at_next a ≡ o.at a
  at_other a ne = ap (λ b. cond b k (o.at a)) (ne_eqb a u ne)

  before : (j : ℕ) → j < k + 1 → (j ≡ k → ⊥) → j < k
  before j h ne = omega arith

  old : (a : ℕ) → t a ≡ true → (a ≡ u → ⊥) → s a ≡ true
  old a h ne = sym (ts a ne) ∙ h

  far_old : (j : ℕ) → j < k → g (next j) ≡ f (seq j)
  far_old j h = ap g (next_old j h) ∙ stays (seq j) (o.inside j h) (o.done j h)

  rises_to_lem : (i j : ℕ) → i ≤ j → j < k + 1 → g (next i) ≤ g (next j)
  rises_to_lem i j p h = elim (cases_eq j k) [
    | inl e ↦ elim (cases_eq i k) [
      | inl q ↦ omega (arith, ap (λ x. g (next x)) (q ∙ sym e))
      | inr q ↦ (let l : i < k = omega arith in
          omega (arith, far_old i l, ap (λ x. g (next x)) e, ap g next_here, here, low (seq i) (o.inside i l) (o.done i l)))
    ]
    | inr e ↦ (let l : j < k = before j h e in let m : i < k = omega arith in omega (arith, far_old i m, far_old j l, o.rises i j p l))
  ]

  pub ordering_more : Ordering n g t next (k + 1)
  ordering_more = record {
    at = at_next;
    counts = omega (arith, o.counts, count_more n u s t un su tu (λ a l ne. ts a ne));
    inside = λ j h. elim (cases_eq j k) [
      | inl e ↦ omega (arith, ap next e, next_here)
      | inr e ↦ omega (arith, next_old j (before j h e), o.inside j (before j h e))
    ];
    done = λ j h. elim (cases_eq j k) [
      | inl e ↦ ap (λ x. t (next x)) e ∙ ap t next_here ∙ tu
      | inr e ↦ (let l = before j h e in ap t (next_old j l) ∙ ts (seq j) (other (seq j) (o.done j l)) ∙ o.done j l)
    ];
    forth = λ j h. elim (cases_eq j k) [
      | inl e ↦ at_u (next j) (ap next e ∙ next_here) ∙ sym e
      | inr e ↦ (let l = before j h e in ap at_next (next_old j l) ∙ at_other (seq j) (other (seq j) (o.done j l)) ∙ o.forth j l)
    ];
    at_inside = λ a l h. elim (cases_eq a u) [
      | inl e ↦ omega (arith, at_u a e)
      | inr e ↦ omega (arith, at_other a e, o.at_inside a l (old a h e))
    ];
    back = λ a l h. elim (cases_eq a u) [
      | inl e ↦ ap next (at_u a e) ∙ next_here ∙ sym e
      | inr e ↦ ap next (at_other a e) ∙ next_old (o.at a) (o.at_inside a l (old a h e)) ∙ o.back a l (old a h e)
    ];
    rises = rises_to_lem;
  }

-- all are settled
pub ordering_end : (n : ℕ) (f : ℕ → ℕ) (s : ℕ → Bool) (seq : ℕ → ℕ) (k : ℕ) → Ordering n f s seq k → ((a : ℕ) → a < n → s a ≡ true) → Sorted n f seq
ordering_end n f s seq k o all =
    let e : k ≡ n = sym o.counts ∙ count_all n s all in
    record {
      at = o.at;
      inside = λ j h. o.inside j (omega arith);
      at_inside = λ a l. omega (arith, o.at_inside a l (all a l));
      back = λ a l. o.back a l (all a l);
      forth = λ j h. o.forth j (omega arith);
      rises = λ i j p h. o.rises i j p (omega arith);
    }
