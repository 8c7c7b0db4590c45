-- The places to which one comes on a walk, turn by turn. Assumes nothing.
use Rattle.std.proofs.Common.{Vec, vec_items, Ok, Err, ◌≡◌, ℕ, zero, suc, ◌+◌, ◌-◌, ◌*◌, ◌<◌, Bool, true, false, cond, eqb, ltb, List, [], ◌∷◌, ◌++◌, sym, refl, ap, ◌∙◌, subst, arith}
use Rattle.std.proofs.lemmas.List.{append_assoc, append-nil}
use Rattle.std.specs.List.{FoldsTo}
use Rattle.std.specs.declared.alloc.Global.{Global}
use Rattle.walking.specs.Noting.{Noted}
use Rattle.std.proofs.lemmas.Bool.{eqb-true, ltb-true}
use Rattle.ways.specs.Map.{Map, Hop, Nowhere, To}
use Rattle.cards.specs.declared.kinds.Card.{Card}
use Rattle.walking.specs.Walks.{Posts, goes, as_step, step_of, turn_by, onward, travels, walk_of, comes, trail, trail_of}
use Rattle.walking.specs.Promise.{Along, here, by, Passes}
use Rattle.walking.specs.declared.kinds.Step.{Step}
use Rattle.walking.specs.declared.kinds.Step.TheVariants.{Here, On, Lost}
use Rattle.walking.specs.declared.kinds.Leg.{Leg}
use Rattle.walking.specs.declared.kinds.End.{End}
use Rattle.walking.specs.declared.kinds.End.TheVariants.{Arrived, Stuck}

-- where one comes doesn't depend on what was paid
comes_same : (f : ℕ → List ℕ) (z : Map) (cost u : ℕ) (s : Step) → comes f (turn_by z 0 u s) ≡ comes f (turn_by z cost u s)
comes_same f z cost u Here = refl
comes_same f z cost u Lost = refl
comes_same f z cost u (On e) = refl

trail_turn : (k : ℕ) (z : Map) (posts : Posts) (card : Card) (cost u : ℕ) → trail (suc k) z posts card u ≡ comes (trail k z posts card) (turn_by z cost u (step_of (posts u) card u))
unfolding trail
trail_turn k z posts card cost u = comes_same (trail k z posts card) z cost u (step_of (posts u) card u)

trail_none : (z : Map) (posts : Posts) (card : Card) (u : ℕ) → trail 0 z posts card u ≡ []
unfolding trail
trail_none z posts card u = refl

pub trail_ends : (k : ℕ) (z : Map) (posts : Posts) (card : Card) (u : ℕ) → k ≡ 0 → trail k z posts card u ≡ []
trail_ends k z posts card u e = ap (λ j. trail j z posts card u) e ∙ trail_none z posts card u

-- i of m roads are gone
module _ (z : Map) (posts : Posts) (card : Card) (m i cost u : ℕ) (l : i < m) where
  trail_next : trail (m - i) z posts card u ≡ comes (trail (m - (i + 1)) z posts card) (turn_by z cost u (step_of (posts u) card u))
  trail_next =
      let e : m - i ≡ suc (m - (i + 1)) = omega arith in
      ap (λ k. trail k z posts card u) e ∙ trail_turn (m - (i + 1)) z posts card cost u

  pub trail_over : (r : End) → Err r ≡ turn_by z cost u (step_of (posts u) card u) → trail (m - i) z posts card u ≡ []
  trail_over r h = trail_next ∙ ap (λ t. comes (trail (m - (i + 1)) z posts card) t) (sym h)

  pub trail_gone : (leg : Leg) → Ok leg ≡ turn_by z cost u (step_of (posts u) card u) → trail (m - i) z posts card u ≡ leg.place ∷ trail (m - (i + 1)) z posts card leg.place
  trail_gone leg h = trail_next ∙ ap (λ t. comes (trail (m - (i + 1)) z posts card) t) (sym h)

-- ---- whoever arrives has come by the places of his trail
module _ (z : Map) (v : ℕ) where
  -- roads gone before cost so much, and those from u on the rest of c
  abbrev Came : ℕ → ℕ → ℕ → List ℕ → Type 0
  Came cost u c xs = (t : ℕ) × (c ≡ cost + t) × Along z v u t xs

  came_road : (f : ℕ → ℕ → End) (g : ℕ → List ℕ) → ((cost e c : ℕ) → f cost e ≡ Arrived c → Came cost e c (g e))
      → (cost u c e : ℕ) (b : Bool) → (b ≡ true → 0 < z.cost u e) → cond b (f (cost + z.cost u e) e) (Stuck u) ≡ Arrived c
      → Came cost u c (comes g (cond b (Ok (record { place = e; toll = z.cost u e })) (Err (Stuck u))))
  came_road f g more cost u c e true pos h =
      let r = more (cost + z.cost u e) e c h in
      (z.cost u e + r.0, omega (arith, r.1), by u e r.0 (g e) (pos refl) r.2)
  came_road f g more cost u c e false pos h = let y : ◌≡◌ {A = ℕ} 0 1 = cc in absurd (omega arith)

  came_hop : (f : ℕ → ℕ → End) (g : ℕ → List ℕ) → ((cost e c : ℕ) → f cost e ≡ Arrived c → Came cost e c (g e))
      → (cost u c : ℕ) (h : Hop) → onward f z cost u h ≡ Arrived c → Came cost u c (comes g (turn_by z 0 u (as_step h)))
  came_hop f g more cost u c Nowhere h = let y : ◌≡◌ {A = ℕ} 0 1 = cc in absurd (omega arith)
  came_hop f g more cost u c (To e) h = came_road f g more cost u c e (ltb 0 (z.cost u e)) (ltb-true 0 (z.cost u e)) h

  came_step : (f : ℕ → ℕ → End) (g : ℕ → List ℕ) → ((cost e c : ℕ) → f cost e ≡ Arrived c → Came cost e c (g e))
      → (cost u c : ℕ) (h : Hop) (b : Bool) → (b ≡ true → u ≡ v) → cond b (Arrived cost) (onward f z cost u h) ≡ Arrived c
      → Came cost u c (comes g (turn_by z 0 u (cond b Here (as_step h))))
  came_step f g more cost u c h true same e =
      let s : cost ≡ c = cc in
      (0, omega arith, subst (λ x. Along z v x 0 []) (sym (same refl)) here)
  came_step f g more cost u c h false same e = came_hop f g more cost u c h e

came : (k : ℕ) (z : Map) (posts : Posts) (card : Card) (cost u c : ℕ) → travels k z posts card cost u ≡ Arrived c → Came z card.place cost u c (trail k z posts card u)
unfolding travels trail
came zero z posts card cost u c h = let y : ◌≡◌ {A = ℕ} 0 1 = cc in absurd (omega arith)
came (suc k) z posts card cost u c h =
    came_step z card.place (travels k z posts card) (trail k z posts card) (λ paid e t. came k z posts card paid e t) cost u c (goes (posts u) card u) (eqb u card.place) (eqb-true u card.place) h

pub passes : (z : Map) (posts : Posts) (card : Card) (u : ℕ) (r : End) → r ≡ walk_of z posts card u → Passes z posts card u r
passes z posts card u r e c h =
    let t = came (2 * z.n) z posts card 0 u c (sym e ∙ h) in
    let s : t.0 ≡ c = omega (arith, t.1) in
    subst (λ x. Along z card.place u x (trail_of z posts card u)) s t.2

-- ---- places noted behind one another
pub noted_all : (places : List ℕ) (before after : Vec ℕ Global) → FoldsTo Noted before places after → vec_items after ≡ vec_items before ++ places
noted_all [] before after h = ap vec_items (sym h) ∙ sym (append-nil (vec_items before))
noted_all (x ∷ places) before after h = noted_all places h.0 after h.2 ∙ ap (λ xs. xs ++ places) h.1.0 ∙ append_assoc (vec_items before) (x ∷ []) places
