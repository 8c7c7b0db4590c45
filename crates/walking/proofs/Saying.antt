-- What the posts and the card of a map say is the rule of what is near and the landmark of the card. Assumes nothing.
use Rattle.std.proofs.Common.{◌≡◌, ℕ, zero, suc, ◌+◌, ◌<◌, Bool, true, false, cond, ◌||◌, eqb, ltb, Some, Option, sym, refl, ap, ◌∙◌, inl, inr}
use Rattle.std.proofs.lemmas.Bool.{cases_Bool, cases_eq, eq-eqb, ne_eqb, cond-true, cond-false}
use Rattle.ways.specs.Map.{Map, Hop, Nowhere, To, hop}
use Rattle.ways.specs.Ways.{Joined}
use Rattle.ways.proofs.NextPlaces.{next_place}
use Rattle.distances.specs.Rows.{hop_number}
use Rattle.landmarks.specs.Landmarks.{Marks, mark_of, place_of, near, on_post}
use Rattle.landmarks.proofs.Near.{post_has}
use Rattle.posts.specs.declared.kinds.Line.{Line}
use Rattle.posts.specs.Posts.{line_of, post_of, find_in}
use Rattle.cards.specs.declared.kinds.Card.{Card}
use Rattle.cards.specs.Cards.{hint_of, card_of}
use Rattle.walking.specs.Walks.{Posts, as_line, as_hint, as_near, goes, onward, travels, posts_of}
use Rattle.walking.specs.General.{saying, journey, rule_of}
use Rattle.walking.specs.declared.kinds.End.{End}
use Rattle.walking.specs.declared.kinds.End.TheVariants.{Arrived, Stuck}
use Rattle.posts.proofs.Finding.{post_some, post_none}

-- ---- a walk by posts and a card is a journey by what they say
onward_like : (f g : ℕ → ℕ → End) (z : Map) (cost u : ℕ) (h : Hop) → ((c e : ℕ) → f c e ≡ g c e) → onward f z cost u h ≡ onward g z cost u h
onward_like f g z cost u Nowhere same = refl
onward_like f g z cost u (To e) same = ap (λ x. cond (ltb 0 (z.cost u e)) x (Stuck u)) (same (cost + z.cost u e) e)

pub travels_journey : (k : ℕ) (z : Map) (posts : Posts) (card : Card) (cost u : ℕ) → travels k z posts card cost u ≡ journey k z (saying posts card) card.place cost u
unfolding travels journey
travels_journey zero z posts card cost u = refl
travels_journey (suc k) z posts card cost u =
    ap (cond (eqb u card.place) (Arrived cost))
    (onward_like (travels k z posts card) (journey k z (saying posts card) card.place) z cost u (goes (posts u) card u) (λ c e. travels_journey k z posts card c e))

-- ---- what lines and hints say
pub hint_says : (h : Hop) → as_hint (hint_of h) ≡ h
hint_says Nowhere = refl
hint_says (To e) = refl

-- a line that is there says the next place, which is there too
line_says : (z : Map) (l : Marks) (u v : ℕ) (x : Option Line) (w : ℕ) → x ≡ Some (line_of z l u v) → hop z v u ≡ To w → as_line x ≡ hop z v u
line_says z l u v x w e g = ap as_line e ∙ ap (λ t. To (hop_number t)) g ∙ sym g

near_says : (z : Map) (l : Marks) (u v : ℕ) (x : Option Line) (h : Hop) (w : ℕ) → x ≡ Some (line_of z l u v) → near z l u v ≡ true → hop z v u ≡ To w → as_near x h ≡ hop z v u
near_says z l u v x h w e t g =
    ap (λ y. as_near y h) e ∙ ap (λ b. cond b (To (hop_number (hop z v u))) h) t ∙ ap (λ t. To (hop_number t)) g ∙ sym g

far_says : (z : Map) (l : Marks) (u v : ℕ) (x : Option Line) (h : Hop) → x ≡ Some (line_of z l u v) → near z l u v ≡ false → as_near x h ≡ h
far_says z l u v x h e t = ap (λ y. as_near y h) e ∙ ap (λ b. cond b (To (hop_number (hop z v u))) h) t

or_off : (x y : Bool) → y ≡ false → (x || y) ≡ x
or_off true y h = refl
or_off false y h = h

-- ---- the set of places at which v is near, with v itself; and the landmark of v
abbrev pub known : Map → Marks → ℕ → ℕ → Bool
known z l v u = near z l u v || eqb u v

abbrev pub mark_place : Map → Marks → ℕ → ℕ
mark_place z l v = place_of (mark_of z l v)

module _ (z : Map) (l : Marks) (joined : Joined z) (v : ℕ) (vn : v < z.n) where
  abbrev mark : ℕ
  mark = mark_place z l v

  -- the next place towards x is there
  next_there : (u x : ℕ) → u < z.n → x < z.n → (u ≡ x → ⊥) → (w : ℕ) × (hop z x u ≡ To w)
  next_there u x un xn ne = let d = joined x u xn un in (next_place z x u xn un).there d.0 d.1 ne

  -- where v has no line as near one goes by the rest
  not_near : (u : ℕ) (h : Hop) → near z l u v ≡ false → as_near (find_in v (post_of z l u)) h ≡ h
  not_near u h t = elim (cases_Bool (on_post z l u v)) [
    | inl p ↦ far_says z l u v (find_in v (post_of z l u)) h (post_some z l u v vn p) t
    | inr p ↦ ap (λ y. as_near y h) (post_none z l u v p)
  ]

  -- where it isn't near one goes as from the landmark, or as towards it
  rest : (u : ℕ) → mark < z.n → l mark ≡ true → u < z.n → cond (eqb u mark) (as_hint (hint_of (hop z v mark))) (as_line (find_in mark (post_of z l u))) ≡ cond (eqb u mark) (hop z v mark) (hop z mark u)
  rest u mn marked un = elim (cases_eq u mark) [
    | inl e ↦ ap (λ h. cond (eqb u mark) h (as_line (find_in mark (post_of z l u)))) (hint_says (hop z v mark))
        ∙ cond-true (eqb u mark) (hop z v mark) (as_line (find_in mark (post_of z l u))) (eq-eqb u mark e)
        ∙ sym (cond-true (eqb u mark) (hop z v mark) (hop z mark u) (eq-eqb u mark e))
    | inr ne ↦ (let w = next_there u mark un mn ne in
        cond-false (eqb u mark) (as_hint (hint_of (hop z v mark))) (as_line (find_in mark (post_of z l u))) (ne_eqb u mark ne)
        ∙ line_says z l u mark (find_in mark (post_of z l u)) w.0 (post_some z l u mark mn (post_has z l u mark ne (inl marked))) w.1
        ∙ sym (cond-false (eqb u mark) (hop z v mark) (hop z mark u) (ne_eqb u mark ne)))
  ]

  -- off v it comes to what is near
  pub known_off : (u : ℕ) → (u ≡ v → ⊥) → known z l v u ≡ near z l u v
  known_off u ne = or_off (near z l u v) (eqb u v) (ne_eqb u v ne)

  -- what posts and card say is the rule of that set and that landmark
  pub saying_rule : (u : ℕ) → mark < z.n → l mark ≡ true → u < z.n → (u ≡ v → ⊥) → saying (posts_of z l) (card_of z l v) u ≡ rule_of z (known z l v) mark v u
  saying_rule u mn marked un ne =
      let past : Hop = cond (eqb u mark) (as_hint (hint_of (hop z v mark))) (as_line (find_in mark (post_of z l u))) in
      elim (cases_Bool (near z l u v)) [
        | inl t ↦ (let w = next_there u v un vn ne in
            near_says z l u v (find_in v (post_of z l u)) past w.0 (post_some z l u v vn (post_has z l u v ne (inr t))) t w.1
            ∙ sym (cond-true (known z l v u) (hop z v u) (cond (eqb u mark) (hop z v mark) (hop z mark u)) (known_off u ne ∙ t)))
        | inr t ↦ not_near u past t
            ∙ rest u mn marked un
            ∙ sym (cond-false (known z l v u) (hop z v u) (cond (eqb u mark) (hop z v mark) (hop z mark u)) (known_off u ne ∙ t))
      ]
