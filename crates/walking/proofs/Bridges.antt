-- On a tree one never goes towards the landmark where one should turn off: every walk is cheapest. Assumes nothing.
--
-- Say that at u the next places towards v and towards the landmark differ. The road from u to the first of them is a bridge. All places closer
-- to v than u is lie on v's side of it, and the landmark lies on u's side: so the landmark is farther from v than u is, and v was near.
use Rattle.std.proofs.Common.{◌≡◌, ℕ, zero, suc, ◌+◌, ◌<◌, Bool, true, false, sym, ap, ◌∙◌, inl, inr, arith}
use Rattle.std.proofs.lemmas.Bool.{cases_Bool, cases_eq, cases_lt, both_ways}
use Rattle.ways.specs.Map.{Map, At, far, To, hop}
use Rattle.ways.specs.Ways.{Joined}
use Rattle.ways.proofs.Fars.{at_same}
use Rattle.ways.proofs.Certified.{certified}
use Rattle.ways.proofs.NextPlaces.{next_place}
use Rattle.walking.specs.General.{rule_of, Guide, Wide, Follow, there, on}
use Rattle.walking.specs.Trees.{Bridge, Tree, GuidedTree}
use Rattle.walking.proofs.Guided.{rule_last, rule_first}

-- a road that doesn't touch u stays on its side
beside : (z : Map) (u w : ℕ) (b : Bridge z u w) (a e : ℕ) → a < z.n → e < z.n → 0 < z.cost a e → (a ≡ u → ⊥) → (e ≡ u → ⊥) → b.side a ≡ b.side e
beside z u w b a e an en pos na ne = elim (b.alone a e an en pos)
    [ inl s ↦ s | inr o ↦ elim o [ inl p ↦ absurd (na p.0) | inr p ↦ absurd (ne p.1) ] ]

-- all places closer to d than u is lie on d's side
closer_beside : (z : Map) (u w d r : ℕ) (b : Bridge z u w) → d < z.n → far z d u ≡ At r → (k x p : ℕ) → p < k → x < z.n → far z d x ≡ At p → p < r → b.side x ≡ b.side d
closer_beside z u w d r b dn hu zero x p lk xn h lt = absurd (omega arith)
closer_beside z u w d r b dn hu (suc k) x p lk xn h lt = elim (cases_eq x d) [
  | inl e ↦ ap b.side e
  | inr ne ↦ (let s = (certified z d dn).step x p xn ne h in
      let off : (y q : ℕ) → far z d y ≡ At q → q < r → y ≡ u → ⊥ = λ y q g l e. let t = at_same q r (sym g ∙ ap (far z d) e ∙ hu) in omega (arith, t) in
      beside z u w b x s.0 xn s.2 s.3 (off x p h lt) (off s.0 s.1 s.4 (omega (arith, s.5)))
      ∙ closer_beside z u w d r b dn hu k s.0 s.1 (omega (arith, s.3, s.5)) s.2 s.4 (omega (arith, s.5)))
]

module _ (z : Map) (tree : Tree z) (u v m w e p q : ℕ) (un : u < z.n) (vn : v < z.n) (mn : m < z.n)
    (hv : far z v u ≡ At p) (hm : far z v m ≡ At q) (tov : hop z v u ≡ To w) (tom : hop z m u ≡ To e) (apart : w ≡ e → ⊥) (off : m ≡ u → ⊥) where
  -- where the next places differ, the landmark is farther
  fork_farther : p < q
  fork_farther =
      let cw = (next_place z v u vn un).closer w tov in
      let ce = (next_place z m u mn un).closer e tom in
      let b = tree u w un cw.there cw.neighbour in
      let ow = at_same (z.cost u w + cw.rest) p (sym cw.whole_is ∙ hv) in
      -- v lies beyond the bridge
      let v-beyond : b.side v ≡ true = sym (closer_beside z u w v p b vn hv (suc cw.rest) w cw.rest (omega arith) cw.there cw.rest_is (omega (arith, ow, cw.neighbour))) ∙ b.thither in
      -- the other next place doesn't, and nor does the landmark
      let e-hither : b.side e ≡ false = elim (b.alone u e un ce.there ce.neighbour) [
        | inl s ↦ sym s ∙ b.hither
        | inr o ↦ elim o [ inl x ↦ absurd (apart (sym x.1)) | inr x ↦ absurd (both_ways (b.side u) b.hither (ap b.side x.0 ∙ b.thither)) ]
      ] in
      let m-hither : b.side m ≡ false = sym (closer_beside z u w m (z.cost u e + ce.rest) b mn ce.whole_is (suc ce.rest) e ce.rest (omega arith) ce.there ce.rest_is (omega (arith, ce.neighbour))) ∙ e-hither in
      let beyond : (x r : ℕ) → x < z.n → far z v x ≡ At r → r < p → b.side x ≡ true = λ x r xn h lt. closer_beside z u w v p b vn hv (suc r) x r (omega arith) xn h lt ∙ v-beyond in
      elim (cases_lt p q) [
        | inl lt ↦ lt
        | inr ge ↦ elim (cases_lt q p) [
          | inl lt ↦ absurd (both_ways (b.side m) m-hither (beyond m q mn hm lt))
          | inr le ↦ absurd (
              -- as far as u: then the first road from the landmark would be the bridge
              let nv : m ≡ v → ⊥ = λ s. both_ways (b.side m) m-hither (ap b.side s ∙ v-beyond) in
              let t = (certified z v vn).step m q mn nv hm in
              elim (b.alone m t.0 mn t.2 t.3) [
                | inl s ↦ both_ways (b.side m) m-hither (s ∙ beyond t.0 t.1 t.2 t.4 (omega (arith, t.3, t.5)))
                | inr o ↦ elim o [ inl x ↦ off x.0 | inr x ↦ both_ways (b.side m) m-hither (ap b.side x.0 ∙ b.thither) ]
              ])
        ]
      ]

-- so whoever follows the rule pays the distance
module _ (z : Map) (known : ℕ → Bool) (mark v : ℕ) (tree : Tree z) (joined : Joined z) (g : Guide z known mark v) (wide : Wide z known mark v) where
  -- wherever the rule leads next is on a cheapest way to v
  rule_cheapest : (u e c : ℕ) → u < z.n → (u ≡ v → ⊥) → rule_of z known mark v u ≡ To e → far z v e ≡ At c → far z v u ≡ At (z.cost u e + c)
  rule_cheapest u e c un ne r h =
      let towards : hop z v u ≡ To e → far z v u ≡ At (z.cost u e + c) = λ t.
      let k = (next_place z v u g.place un).closer e t in
      k.whole_is ∙ ap (λ x. At (z.cost u e + x)) (at_same k.rest c (sym k.rest_is ∙ h)) in
      elim (cases_Bool (known u)) [
        | inl t ↦ towards (sym (rule_last z known mark v joined g u (inl t)) ∙ r)
        | inr t ↦ elim (cases_eq u mark) [
          | inl m ↦ towards (sym (rule_last z known mark v joined g u (inr m)) ∙ r)
          | inr off ↦ (
              let d = joined v u g.place un in
              let f = joined v mark g.place g.landmark in
              let w = (next_place z v u g.place un).there d.0 d.1 ne in
              let tom : hop z mark u ≡ To e = sym (rule_first z known mark v joined g u t off) ∙ r in
              elim (cases_eq w.0 e) [
                | inl s ↦ towards (w.1 ∙ ap To s)
                | inr apart ↦ absurd (both_ways (known u) t (wide u d.0 f.0 un d.1 f.1
                    (fork_farther z tree u v mark w.0 e d.0 f.0 un g.place g.landmark d.1 f.1 w.1 tom apart (λ s. off (sym s)))))
              ])
        ]
      ]

  follow_cheapest : (u c k : ℕ) → Follow z (rule_of z known mark v) v u c k → far z v u ≡ At c
  follow_cheapest u c k (there vn) = (certified z v vn).here
  follow_cheapest u c k (on _ e q m un ne r pos f) = rule_cheapest u e q un ne r (follow_cheapest e q m f)

pub guided_tree : GuidedTree
guided_tree z known mark v tree joined g wide u w = follow_cheapest z known mark v tree joined g wide u w.cost w.roads w.walked.follows
