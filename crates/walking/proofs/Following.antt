-- Following a rule place by place up to v: it is a way of the map, and every journey with roads enough ends there. Assumes nothing.
use Rattle.std.proofs.Common.{◌≡◌, ℕ, zero, suc, ◌+◌, ◌<◌, cond, sym, refl, ap, ◌∙◌, subst, arith}
use Rattle.std.proofs.lemmas.Bool.{eq-eqb, ne_eqb, lt-ltb}
use Rattle.ways.specs.Map.{Map, To}
use Rattle.ways.specs.Ways.{Route, arrived, road}
use Rattle.walking.specs.Walks.{onward}
use Rattle.walking.specs.General.{Rule, journey, Follow, there, on, Leads, already, further, Walked, NoRing, FollowedArrives}
use Rattle.walking.specs.declared.kinds.End.TheVariants.{Arrived, Stuck}

pub follow_route : (z : Map) (rule : Rule) (v u c k : ℕ) → Follow z rule v u c k → Route z v u c k
follow_route z rule v u c k (there vn) = arrived vn
follow_route z rule v u c k (on _ e q m un ne g pos f) = road u e q m un pos (follow_route z rule v e q m f)

-- a rule that says the same leads the same way
pub follow_like : (z : Map) (rule rule' : Rule) (v u c k : ℕ) → ((a : ℕ) → a < z.n → (a ≡ v → ⊥) → rule' a ≡ rule a) → Follow z rule v u c k → Follow z rule' v u c k
follow_like z rule rule' v u c k same (there vn) = there vn
follow_like z rule rule' v u c k same (on _ e q m un ne g pos f) = on u e q m un ne (same u un ne ∙ g) pos (follow_like z rule rule' v e q m same f)

module _ (z : Map) (rule : Rule) (v : ℕ) where
  pub journey_stops : (j u cost : ℕ) → u ≡ v → journey (suc j) z rule v cost u ≡ Arrived cost
  unfolding journey
  journey_stops j u cost e = ap (λ t. cond t (Arrived cost) (onward (journey j z rule v) z cost u (rule u))) (eq-eqb u v e)

  pub journey_goes : (j u e cost : ℕ) → (u ≡ v → ⊥) → rule u ≡ To e → 0 < z.cost u e → journey (suc j) z rule v cost u ≡ journey j z rule v (cost + z.cost u e) e
  unfolding journey
  journey_goes j u e cost ne g pos =
      ap (λ t. cond t (Arrived cost) (onward (journey j z rule v) z cost u (rule u))) (ne_eqb u v ne)
      ∙ ap (onward (journey j z rule v) z cost u) g
      ∙ ap (λ t. cond t (journey j z rule v (cost + z.cost u e) e) (Stuck u)) (lt-ltb 0 (z.cost u e) pos)

pub follow_ends : (z : Map) (rule : Rule) (v u c k : ℕ) → Follow z rule v u c k → (j cost : ℕ) → k < j → journey j z rule v cost u ≡ Arrived (cost + c)
follow_ends z rule v u c k f zero cost l = absurd (omega arith)
follow_ends z rule v u c k (there vn) (suc j) cost l = journey_stops z rule v j v cost refl ∙ ap Arrived (omega arith)
follow_ends z rule v u c k (on _ e q m un ne g pos f) (suc j) cost l =
    journey_goes z rule v j u e cost ne g pos ∙ follow_ends z rule v e q m f j (cost + z.cost u e) (omega arith) ∙ ap Arrived (omega arith)

pub follow_walked : (z : Map) (rule : Rule) (v u c k : ℕ) → k < z.n → Follow z rule v u c k → Walked z rule v u c k
follow_walked z rule v u c k lt f = record { follows = f; way = follow_route z rule v u c k f; few = lt; ends = follow_ends z rule v u c k f }

pub followed_arrives : FollowedArrives
followed_arrives z rule v u c k f = (follow_route z rule v u c k f, follow_ends z rule v u c k f)

-- ---- no place comes twice
follow_roads : (z : Map) (rule : Rule) (v u c k u' c' k' : ℕ) → u ≡ u' → Follow z rule v u c k → Follow z rule v u' c' k' → k ≡ k'
follow_roads z rule v u c k u' c' k' s (there vn) (there vn') = refl
follow_roads z rule v u c k u' c' k' s (there vn) (on _ e q m un ne g pos f) = absurd (ne (sym s))
follow_roads z rule v u c k u' c' k' s (on _ e q m un ne g pos f) (there vn) = absurd (ne s)
follow_roads z rule v u c k u' c' k' s (on _ e q m un ne g pos f) (on _ e' q' m' un' ne' g' pos' f') =
    let t : e ≡ e' = cc in ap (λ x. 1 + x) (follow_roads z rule v e q m e' q' m' t f f')

-- from a place on the way the rule leads on, by the roads that are left
follow_rest : (z : Map) (rule : Rule) (v x u c k i : ℕ) → Follow z rule v u c k → Leads rule v x u i → (t : ℕ) × (m : ℕ) × (i + m ≡ k) × Follow z rule v x t m
follow_rest z rule v x u c k i f already = (c, k, omega arith, f)
follow_rest z rule v x u c k i (there vn) (further _ e m ne g h) = absurd (ne refl)
follow_rest z rule v x u c k i (on _ e q m un ne g pos f) (further _ e' m' ne' g' h) =
    let s : e ≡ e' = cc in
    let r = follow_rest z rule v x e q m m' f (subst (λ y. Leads rule v x y m') (sym s) h) in
    (r.0, r.1, omega (arith, r.2), r.3)

pub no_ring : NoRing
no_ring z rule v u x c k i j f h ring =
    let r = follow_rest z rule v x u c k i f h in
    let t = follow_rest z rule v x x r.0 r.1 (1 + j) r.3 ring in
    omega (arith, t.2, follow_roads z rule v x r.0 r.1 x t.0 t.1 refl r.3 t.3)
