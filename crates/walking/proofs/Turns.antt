-- A walk turn by turn, the places at which posts are looked at, and the promise for posts in memory. Assumes nothing.
use Rattle.std.proofs.Common.{Ok, Err, Result, ◌≡◌, ℕ, zero, suc, ◌+◌, ◌-◌, ◌*◌, ◌<◌, ◌≤◌, Bool, true, false, cond, eqb, ltb, sym, refl, ap, ◌∙◌, inl, inr, arith}
use Rattle.std.proofs.lemmas.Bool.{cases_Bool, cases_lt, ltb-true}
use Rattle.ways.specs.Map.{Map, Hop, Nowhere, To}
use Rattle.maps.specs.Arcs.{Meaning}
use Rattle.cards.specs.declared.kinds.Card.{Card}
use Rattle.walking.specs.Walks.{Posts, goes, as_step, step_of, turn_by, onward, travels, walk_of, posts_of}
use Rattle.walking.specs.General.{Inside}
use Rattle.walking.specs.Promise.{Keeps}
use Rattle.walking.specs.declared.kinds.Step.{Step}
use Rattle.walking.specs.declared.kinds.Step.TheVariants.{Here, On, Lost}
use Rattle.walking.specs.declared.kinds.Leg.{Leg}
use Rattle.walking.specs.declared.kinds.End.{End}
use Rattle.walking.specs.declared.kinds.End.TheVariants.{Arrived, Stuck, Worn}
use Rattle.walking.proofs.Promised.{promise}

-- ---- turn by turn
-- what a turn leaves to do
abbrev after : (ℕ → ℕ → End) → ℕ → Result Leg End → End
after f cost (Ok leg) = f (cost + leg.toll) leg.place
after f cost (Err r) = r

after_road : (f : ℕ → ℕ → End) (cost u e c : ℕ) (b : Bool) → cond b (f (cost + c) e) (Stuck u) ≡ after f cost (cond b (Ok (record { place = e; toll = c })) (Err (Stuck u)))
after_road f cost u e c true = refl
after_road f cost u e c false = refl

after_hop : (f : ℕ → ℕ → End) (z : Map) (cost u : ℕ) (h : Hop) → onward f z cost u h ≡ after f cost (turn_by z cost u (as_step h))
after_hop f z cost u Nowhere = refl
after_hop f z cost u (To e) = after_road f cost u e (z.cost u e) (ltb 0 (z.cost u e))

after_step : (f : ℕ → ℕ → End) (z : Map) (cost u : ℕ) (h : Hop) (b : Bool) → cond b (Arrived cost) (onward f z cost u h) ≡ after f cost (turn_by z cost u (cond b Here (as_step h)))
after_step f z cost u h true = refl
after_step f z cost u h false = after_hop f z cost u h

travels_turn : (k : ℕ) (z : Map) (posts : Posts) (card : Card) (cost u : ℕ)
    → travels (suc k) z posts card cost u ≡ after (travels k z posts card) cost (turn_by z cost u (step_of (posts u) card u))
unfolding travels
travels_turn k z posts card cost u = after_step (travels k z posts card) z cost u (goes (posts u) card u) (eqb u card.place)

pub travels_none : (k : ℕ) (z : Map) (posts : Posts) (card : Card) (cost u : ℕ) → k ≡ 0 → travels k z posts card cost u ≡ Worn
unfolding travels
travels_none k z posts card cost u e = ap (λ j. travels j z posts card cost u) e

-- the same, where i of m roads are gone
module _ (z : Map) (posts : Posts) (card : Card) (m i cost u : ℕ) (l : i < m) where
  turn_next : travels (m - i) z posts card cost u ≡ after (travels (m - (i + 1)) z posts card) cost (turn_by z cost u (step_of (posts u) card u))
  turn_next =
      let e : m - i ≡ suc (m - (i + 1)) = omega arith in
      ap (λ k. travels k z posts card cost u) e ∙ travels_turn (m - (i + 1)) z posts card cost u

  pub turn_over : (r : End) → Err r ≡ turn_by z cost u (step_of (posts u) card u) → r ≡ travels (m - i) z posts card cost u
  turn_over r h = ap (after (travels (m - (i + 1)) z posts card) cost) h ∙ sym turn_next

  pub turn_gone : (leg : Leg) → Ok leg ≡ turn_by z cost u (step_of (posts u) card u) → travels (m - (i + 1)) z posts card (cost + leg.toll) leg.place ≡ travels (m - i) z posts card cost u
  turn_gone leg h = ap (after (travels (m - (i + 1)) z posts card) cost) h ∙ sym turn_next

-- a road gone costs what the map says
gone_road : (u e : ℕ) (leg : Leg) (b : Bool) (x : ℕ) → Ok leg ≡ cond b (Ok (record { place = e; toll = x })) (Err (Stuck u)) → leg.toll ≡ x
gone_road u e leg true x h = let s : leg ≡ record { place = e; toll = x } = cc in ap (λ (w : Leg). w.toll) s
gone_road u e leg false x h = let y : ◌≡◌ {A = ℕ} 0 1 = cc in absurd (omega arith)

pub gone_cheap : (z : Map) (cost u : ℕ) (leg : Leg) (s : Step) → ((a b : ℕ) → z.cost a b ≤ 65535) → Ok leg ≡ turn_by z cost u s → leg.toll ≤ 65535
gone_cheap z cost u leg Here cheap h = let y : ◌≡◌ {A = ℕ} 0 1 = cc in absurd (omega arith)
gone_cheap z cost u leg Lost cheap h = let y : ◌≡◌ {A = ℕ} 0 1 = cc in absurd (omega arith)
gone_cheap z cost u leg (On x) cheap h = omega (arith, gone_road u x leg (ltb 0 (z.cost u x)) (z.cost u x) h, cheap u x)

-- ---- posts that say the same at the places of the map lead the same way
inside : (z : Map) → Meaning z → Inside z
inside z means a e an pos = elim (cases_lt e z.n) [
  | inl l ↦ l
  | inr l ↦ absurd (omega (arith, means.both a e, means.outside e a l))
]

same_onward : (f g : ℕ → ℕ → End) (z : Map) (cost u : ℕ) (h : Hop) → Inside z → u < z.n → ((c e : ℕ) → e < z.n → f c e ≡ g c e) → onward f z cost u h ≡ onward g z cost u h
same_onward f g z cost u Nowhere ins un same = refl
same_onward f g z cost u (To e) ins un same = elim (cases_Bool (ltb 0 (z.cost u e))) [
  | inl t ↦ ap (λ x. cond (ltb 0 (z.cost u e)) x (Stuck u)) (same (cost + z.cost u e) e (ins u e un (ltb-true 0 (z.cost u e) t)))
  | inr t ↦ ap (λ b. cond b (f (cost + z.cost u e) e) (Stuck u)) t ∙ sym (ap (λ b. cond b (g (cost + z.cost u e) e) (Stuck u)) t)
]

same_posts : (k : ℕ) (z : Map) (posts posts' : Posts) (card : Card) (cost u : ℕ) → Inside z → ((a : ℕ) → a < z.n → posts a ≡ posts' a) → u < z.n
    → travels k z posts card cost u ≡ travels k z posts' card cost u
unfolding travels
same_posts zero z posts posts' card cost u ins same un = refl
same_posts (suc k) z posts posts' card cost u ins same un =
    ap (λ x. cond (eqb u card.place) (Arrived cost) (onward (travels k z posts card) z cost u (goes x card u))) (same u un)
    ∙ ap (cond (eqb u card.place) (Arrived cost))
    (same_onward (travels k z posts card) (travels k z posts' card) z cost u (goes (posts' u) card u) ins un
    (λ c e en. same_posts k z posts posts' card c e ins same en))

-- ---- the promise for posts in memory
pub keeps : (z : Map) (posts : Posts) (card : Card) (u : ℕ) (r : End) → Meaning z → r ≡ walk_of z posts card u → Keeps z posts card u r
keeps z posts card u r means e l v sound un vn same own =
    let w = promise z l sound u v un vn in
    record {
      cost = w.cost;
      roads = w.roads;
      away = w.away;
      arrived = e ∙ same_posts (2 * z.n) z posts (posts_of z l) card 0 u (inside z means) same un ∙ ap (λ x. walk_of z (posts_of z l) x u) own ∙ w.arrives;
      few = w.few;
      way = w.way;
      away_is = w.away_is;
      thrice = w.thrice;
      from_near = w.from_near;
      to_landmark = w.to_landmark;
    }
