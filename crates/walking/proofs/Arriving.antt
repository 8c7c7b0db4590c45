-- Whoever arrives has followed the rule, right or wrong, and walked a way of the map. Assumes nothing.
use Rattle.std.proofs.Common.{◌≡◌, ℕ, zero, suc, ◌+◌, ◌<◌, cond, ltb, sym, refl, ap, ◌∙◌, subst, inl, inr, arith}
use Rattle.std.proofs.lemmas.Bool.{cases_Bool, cases_eq, ne_eqb, ltb-true}
use Rattle.ways.specs.Map.{Map, Hop, Nowhere, To}
use Rattle.walking.specs.Walks.{onward}
use Rattle.walking.specs.General.{Rule, saying, journey, Follow, there, on, ArrivedFollowed}
use Rattle.walking.specs.Promise.{WalksWays}
use Rattle.walking.specs.declared.kinds.End.{End}
use Rattle.walking.specs.declared.kinds.End.TheVariants.{Arrived, Stuck, Worn}
use Rattle.walking.proofs.Following.{journey_stops, follow_route}
use Rattle.walking.proofs.Saying.{travels_journey}

-- ---- the ends tell which step was the last
arrived_same : (c d : ℕ) → Arrived c ≡ Arrived d → c ≡ d
arrived_same c d e = cc

stuck_not : (u c : ℕ) → Stuck u ≡ Arrived c → ⊥
stuck_not u c e = let k : ◌≡◌ {A = ℕ} 0 1 = cc in omega arith

worn_not : (c : ℕ) → Worn ≡ Arrived c → ⊥
worn_not c e = let k : ◌≡◌ {A = ℕ} 0 1 = cc in omega arith

-- one goes on by a road
onward_road : (f : ℕ → ℕ → End) (z : Map) (cost u c : ℕ) (h : Hop) → onward f z cost u h ≡ Arrived c → (e : ℕ) × (h ≡ To e) × (0 < z.cost u e) × (f (cost + z.cost u e) e ≡ Arrived c)
onward_road f z cost u c Nowhere a = absurd (stuck_not u c a)
onward_road f z cost u c (To e) a = elim (cases_Bool (ltb 0 (z.cost u e))) [
  | inl t ↦ (e, refl, ltb-true 0 (z.cost u e) t, sym (ap (λ b. cond b (f (cost + z.cost u e) e) (Stuck u)) t) ∙ a)
  | inr t ↦ absurd (stuck_not u c (sym (ap (λ b. cond b (f (cost + z.cost u e) e) (Stuck u)) t) ∙ a))
]

journey_worn : (z : Map) (rule : Rule) (v cost u c : ℕ) → journey 0 z rule v cost u ≡ Arrived c → ⊥
unfolding journey
journey_worn z rule v cost u c a = worn_not c a

journey_onward : (z : Map) (rule : Rule) (v j cost u : ℕ) → (u ≡ v → ⊥) → journey (suc j) z rule v cost u ≡ onward (journey j z rule v) z cost u (rule u)
unfolding journey
journey_onward z rule v j cost u ne = ap (λ t. cond t (Arrived cost) (onward (journey j z rule v) z cost u (rule u))) (ne_eqb u v ne)

pub arrived_followed : ArrivedFollowed
arrived_followed z rule v zero cost u c inside un vn a = absurd (journey_worn z rule v cost u c a)
arrived_followed z rule v (suc k) cost u c inside un vn a = elim (cases_eq u v) [
  | inl e ↦ (let s = arrived_same cost c (sym (journey_stops z rule v k u cost e) ∙ a) in
      (0, 0, omega (arith, s), omega arith, subst (λ x. Follow z rule v x 0 0) (sym e) (there vn)))
  | inr ne ↦ (let o = onward_road (journey k z rule v) z cost u c (rule u) (sym (journey_onward z rule v k cost u ne) ∙ a) in
      let r = arrived_followed z rule v k (cost + z.cost u o.0) o.0 c inside (inside u o.0 un o.2) vn o.3 in
      (z.cost u o.0 + r.0, 1 + r.1, omega (arith, r.2), omega (arith, r.3), on u o.0 r.0 r.1 un ne o.1 o.2 r.4))
]

-- ---- by posts and a card
pub walks_ways : WalksWays
walks_ways z posts card k u c inside un pn a =
    let r = arrived_followed z (saying posts card) card.place k 0 u c inside un pn (sym (travels_journey k z posts card 0 u) ∙ a) in
    let s : r.0 ≡ c = omega (arith, r.2) in
    (r.1, r.3, follow_route z (saying posts card) card.place u c r.1 (subst (λ x. Follow z (saying posts card) card.place u x r.1) s r.4))
