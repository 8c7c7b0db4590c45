-- An order and where each place stands in it: the facts that a survey keeps, from an order and back. Assumes nothing.
use Rattle.std.proofs.Common.{◌≡◌, ℕ, zero, suc, ◌+◌, ◌*◌, ◌<◌, ◌≤◌, cond, List, get_or, vec_items, sym, ap, ◌∙◌, subst, inl, inr, arith}
use Rattle.std.proofs.lemmas.Bool.{cases_eq, eq-eqb, ne_eqb}
use Rattle.distances.specs.declared.survey.Survey.{Survey}
use Rattle.distances.specs.Orders.{Sorted, OrderRows, in_order, rank, rank_in, Whole}

-- a place that stands at j and nowhere else
rank_is : (seq : ℕ → ℕ) (k j u : ℕ) → j < k → seq j ≡ u → ((i : ℕ) → i < k → seq i ≡ u → i ≡ j) → rank seq k u ≡ j
unfolding rank
rank_is seq zero j u h e only = absurd (omega arith)
rank_is seq (suc k) j u h e only = elim (cases_eq (seq k) u) [
  | inl p ↦ ap (λ b. cond b k (rank seq k u)) (eq-eqb (seq k) u p) ∙ only k (omega arith) p
  | inr p ↦ (let ne : j ≡ k → ⊥ = λ q. p (sym (ap seq q) ∙ e) in
      ap (λ b. cond b k (rank seq k u)) (ne_eqb (seq k) u p) ∙ rank_is seq k j u (omega (arith, ne)) e (λ i l q. only i (omega arith) q))
]

-- ---- what a survey keeps, from orders
module _ (n : ℕ) (dist order : List ℕ) (o : OrderRows n dist order) where
  abbrev far : ℕ → ℕ → ℕ
  far d a = get_or dist (d * n + a) 0

  sorted : (d : ℕ) → Whole n dist d → Sorted n (far d) (in_order n order d)
  sorted d w = o d w.0 w.1

  at_rank : (d u : ℕ) (w : Whole n dist d) → u < n → rank_in n order d u ≡ (sorted d w).at u
  at_rank d u w h =
      let s = sorted d w in
      rank_is (in_order n order d) n (s.at u) u (s.at_inside u h) (s.back u h) (λ i l e. sym (s.forth i l) ∙ ap s.at e)

  pub order_inside : (d j : ℕ) → Whole n dist d × (j < n) → in_order n order d j < n
  order_inside d j h = (sorted d h.0).inside j h.1

  pub order_there : (d u : ℕ) → Whole n dist d × (u < n) → rank_in n order d u < n
  order_there d u h = omega (arith, at_rank d u h.0 h.1, (sorted d h.0).at_inside u h.1)

  pub order_back : (d u : ℕ) → Whole n dist d × (u < n) → in_order n order d (rank_in n order d u) ≡ u
  order_back d u h = ap (in_order n order d) (at_rank d u h.0 h.1) ∙ (sorted d h.0).back u h.1

  pub order_forth : (d j : ℕ) → Whole n dist d × (j < n) → rank_in n order d (in_order n order d j) ≡ j
  order_forth d j h = let s = sorted d h.0 in at_rank d (in_order n order d j) h.0 (s.inside j h.1) ∙ s.forth j h.1

  pub order_rises : (d i j : ℕ) → Whole n dist d × (i ≤ j) × (j < n) → get_or dist (d * n + in_order n order d i) 0 ≤ get_or dist (d * n + in_order n order d j) 0
  order_rises d i j h = (sorted d h.0).rises i j h.1 h.2

-- the same orders in other lists of the same
pub orders_of : (m n : ℕ) (dist order xs ys : List ℕ) → m ≡ n → xs ≡ dist → ys ≡ order → OrderRows m dist order → OrderRows n xs ys
orders_of m n dist order xs ys e p q o =
    subst (λ (k : ℕ). OrderRows k xs ys) e (subst (λ (y : List ℕ). OrderRows m xs y) (sym q) (subst (λ (x : List ℕ). OrderRows m x order) (sym p) o))

-- ---- and back: what a survey keeps makes orders
pub survey_orders : (s : Survey) → OrderRows s.map.n (vec_items s.dist) (vec_items s.order)
survey_orders s d dn r =
    let n = s.map.n in
    record {
      at = rank_in n (vec_items s.order) d;
      inside = λ j h. s.inside d j ((dn, r), h);
      at_inside = λ u h. s.there d u ((dn, r), h);
      back = λ u h. s.back d u ((dn, r), h);
      forth = λ j h. s.forth d j ((dn, r), h);
      rises = λ i j l h. s.rises d i j ((dn, r), l, h);
    }
