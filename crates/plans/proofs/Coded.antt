-- What the posts and cards of a plan say: the laws of planning and walking. Assumes nothing.
use Rattle.std.proofs.Common.{◌≡◌, ℕ, ◌<◌, true, false, cond, eqb, ltb, List, [], length, sym, refl, ap, ◌∙◌, inl, inr, arith}
use Rattle.std.proofs.lemmas.List.FromFn.{get_or-map-range_with_len}
use Rattle.std.proofs.lemmas.Bool.{cases_Bool, cases_eq, cases_lt, both_ways, eq-eqb, ne_eqb, lt-ltb, cond-true, cond-false}
use Rattle.cards.specs.Cards.{hint_of, card_of}
use Rattle.choosing.specs.Choosing.{Chosen, NoRoom, Marked, chosen}
use Rattle.choosing.proofs.RuleLaws.{has_room}
use Rattle.landmarks.specs.Landmarks.{Marks, Is, mark_of, place_of, near}
use Rattle.landmarks.specs.Laws.{Landmark}
use Rattle.landmarks.proofs.Closest.{landmark_there}
use Rattle.landmarks.proofs.Near.{near_test}
use Rattle.plans.specs.Code.{Outcome, Made, plan_for, outcome_of, post_in, card_in, marks_of_outcome, post_of_outcome, card_of_outcome, goes_on_at, go, Signposts}
use Rattle.plans.specs.Plans.{plan_of}
use Rattle.posts.specs.Posts.{post_of}
use Rattle.posts.specs.declared.kinds.Line.{Line}
use Rattle.posts.proofs.Finding.{post_length}
use Rattle.walking.specs.Walks.{as_hint, goes}
use Rattle.walking.proofs.Saying.{hint_says, known_off, saying_rule}
use Rattle.ways.specs.Map.{Map, Nowhere, At, hop}
use Rattle.ways.specs.Ways.{Joined}
use Rattle.ways.proofs.Certified.{certified}
use Rattle.ways.proofs.Metric.{far_zero}
use Rattle.ways.proofs.NextPlaces.{next_place}

-- ---- the plan of a map has just its posts and cards
pub post_is : (z : Map) (room : ℕ) (l : Marks) (u : ℕ) → u < z.n → post_in (plan_of z room l) u ≡ post_of z l u
post_is z room l u un = get_or-map-range_with_len (post_of z l) 0 z.n u u [] un (omega arith)

pub card_is : (z : Map) (room : ℕ) (l : Marks) (v : ℕ) → v < z.n → card_in (plan_of z room l) v ≡ card_of z l v
card_is z room l v vn = get_or-map-range_with_len (card_of z l) 0 z.n v v _ vn (omega arith)

pub made_by : (z : Map) (room : ℕ) (l : Marks) → chosen z room ≡ Marked l → outcome_of z room ≡ Made l (plan_of z room l)
made_by z room l e = ap (plan_for z room) e

marks_back : (z : Map) (room : ℕ) (c : Chosen) → marks_of_outcome (plan_for z room c) ≡ c
marks_back z room (NoRoom l) = refl
marks_back z room (Marked l) = refl

-- ---- where one goes on
module _ (z : Map) (l : Marks) (joined : Joined z) (some : (m : ℕ) × (m < z.n) × (l m ≡ true)) (v : ℕ) (vn : v < z.n) where
  there : (m : ℕ) × (r : ℕ) × (mark_of z l v ≡ Is m (At r)) × Landmark z l v m r
  there = landmark_there z l joined some v vn

  abbrev mark : ℕ
  mark = place_of (mark_of z l v)

  mark_is : mark ≡ there.0
  mark_is = ap place_of there.2

  mark_there : mark < z.n
  mark_there = omega (arith, mark_is, there.3.there)

  mark_marked : l mark ≡ true
  mark_marked = ap l mark_is ∙ there.3.marked

  home : hop z v v ≡ Nowhere
  home = (next_place z v v vn vn).nowhere_at refl

  -- at v itself: where it isn't near it is its own landmark
  own_mark : near z l v v ≡ false → v ≡ mark
  own_mark f =
      let r = there.1 in
      let e : ltb 0 r ≡ false = sym (near_test z l v there.0 r there.3 v 0 (certified z v vn).here) ∙ f in
      elim (cases_lt 0 r) [
        | inl p ↦ absurd (both_ways (ltb 0 r) e (lt-ltb 0 r p))
        | inr p ↦ (let zero : r ≡ 0 = omega arith in sym (far_zero z v there.0 vn there.3.there (there.3.away ∙ ap At zero)) ∙ sym mark_is)
      ]

  at_home : go z l (card_of z l v) v ≡ Nowhere
  at_home = elim (cases_Bool (near z l v v)) [
    | inl t ↦ cond-true (near z l v v) (hop z v v) (cond (eqb v mark) (as_hint (hint_of (hop z v mark))) (cond (l mark) (hop z mark v) Nowhere)) t ∙ home
    | inr t ↦ (let e = own_mark t in
        cond-false (near z l v v) (hop z v v) (cond (eqb v mark) (as_hint (hint_of (hop z v mark))) (cond (l mark) (hop z mark v) Nowhere)) t
        ∙ cond-true (eqb v mark) (as_hint (hint_of (hop z v mark))) (cond (l mark) (hop z mark v) Nowhere) (eq-eqb v mark e)
        ∙ hint_says (hop z v mark) ∙ ap (hop z v) (sym e) ∙ home)
  ]

  elsewhere : (u : ℕ) → u < z.n → (u ≡ v → ⊥) → goes (post_of z l u) (card_of z l v) u ≡ go z l (card_of z l v) u
  elsewhere u un ne =
      saying_rule z l joined v vn u mark_there mark_marked un ne
      ∙ ap (λ b. cond b (hop z v u) (cond (eqb u mark) (hop z v mark) (hop z mark u))) (known_off z l joined v vn u ne)
      ∙ ap (λ h. cond (near z l u v) (hop z v u) (cond (eqb u mark) h (hop z mark u))) (sym (hint_says (hop z v mark)))
      ∙ ap (λ h. cond (near z l u v) (hop z v u) (cond (eqb u mark) (as_hint (hint_of (hop z v mark))) h)) (sym (cond-true (l mark) (hop z mark u) Nowhere mark_marked))

  pub goes_rightly : (u : ℕ) → u < z.n → goes_on_at (post_of z l u) (card_of z l v) u ≡ go z l (card_of z l v) u
  goes_rightly u un = elim (cases_eq u v) [
    | inl e ↦ cond-true (eqb u v) Nowhere (goes (post_of z l u) (card_of z l v) u) (eq-eqb u v e) ∙ sym (ap (go z l (card_of z l v)) e ∙ at_home)
    | inr ne ↦ cond-false (eqb u v) Nowhere (goes (post_of z l u) (card_of z l v) u) (ne_eqb u v ne) ∙ elsewhere u un ne
  ]

pub signposts : Signposts
signposts = record {
  marks_so = λ z room. marks_back z room (chosen z room);
  card_so = λ z room l v e vn. ap (λ (o : Outcome). card_of_outcome o v) (made_by z room l e) ∙ card_is z room l v vn;
  goes_so = λ z room l u v joined e un vn.
      ap (λ (o : Outcome). goes_on_at (post_of_outcome o u) (card_of z l v) u) (made_by z room l e) ∙ ap (λ (xs : List Line). goes_on_at xs (card_of z l v) u) (post_is z room l u un)
      ∙ goes_rightly z l joined (0, omega arith, (has_room z room l e).0) v vn u un;
  lines_so = λ z room l u e un. ap (λ (o : Outcome). length (post_of_outcome o u)) (made_by z room l e) ∙ ap length (post_is z room l u un) ∙ post_length z l u;
}
