-- By the posts and the card of a map everybody arrives: the walk is the instance of what is near and the landmark of the card. Assumes nothing.
use Rattle.std.proofs.Common.{◌≡◌, ℕ, ◌*◌, ◌<◌, true, eqb, sym, refl, ap, ◌∙◌, inl, inr, arith}
use Rattle.std.proofs.lemmas.Bool.{eq-eqb, eqb-true, or_cases, or_left, or_right}
use Rattle.ways.specs.Map.{Map, At, far, Nowhere, To}
use Rattle.ways.specs.Ways.{Joined}
use Rattle.ways.proofs.Fars.{at_same}
use Rattle.ways.proofs.NextPlaces.{hop_here}
use Rattle.landmarks.specs.Landmarks.{Marks, Is, mark_of, place_of, near}
use Rattle.landmarks.specs.Laws.{Landmark, SomeMark}
use Rattle.landmarks.proofs.Closest.{landmark_there, landmark_own}
use Rattle.landmarks.proofs.Near.{near_so, near_stays, near_from_landmark}
use Rattle.cards.specs.declared.kinds.Card.{Card}
use Rattle.cards.specs.Cards.{card_of}
use Rattle.walking.specs.Walks.{travels, posts_of}
use Rattle.walking.specs.General.{Follow, saying, rule_of, Guide, GuidedWalk, Wide}
use Rattle.walking.specs.Promise.{Promise}
use Rattle.walking.specs.Trees.{TreeCheapest}
use Rattle.walking.specs.declared.kinds.End.TheVariants.{Arrived}
use Rattle.walking.proofs.Following.{follow_like, follow_ends, no_ring}
use Rattle.walking.proofs.Guided.{guided_arrives, guided_thrice}
use Rattle.walking.proofs.Bridges.{guided_tree}
use Rattle.walking.proofs.Saying.{travels_journey, known, mark_place, saying_rule}

-- ---- near, or the place itself; and the landmark of the card: what the lemma on guided walks wants of them
module _ (z : Map) (l : Marks) (joined : Joined z) (some : SomeMark z l) (v : ℕ) (vn : v < z.n) where
  abbrev mark : ℕ
  mark = mark_place z l v

  abbrev card : Card
  card = card_of z l v

  own : (m : ℕ) × (r : ℕ) × (mark_of z l v ≡ Is m (At r)) × Landmark z l v m r
  own = landmark_there z l joined some v vn

  mark_own : mark ≡ own.0
  mark_own = ap place_of own.2

  pub mark_there : mark < z.n
  mark_there = omega (arith, mark_own, own.3.there)

  mark_marked : l mark ≡ true
  mark_marked = ap l mark_own ∙ own.3.marked

  pub guide : Guide z (known z l v) mark v
  guide = record {
    place = vn;
    landmark = mark_there;
    home = or_right (near z l v v) (eqb v v) (eq-eqb v v refl);
    stays = λ u w un k h. elim (or_cases (near z l u v) (eqb u v) k) [
      | inl t ↦ or_left (near z l w v) (eqb w v) (near_stays z l u v w un vn t h)
      | inr t ↦ absurd (let x : Nowhere ≡ To w = sym (hop_here z v u (eqb-true u v t)) ∙ h in let y : ◌≡◌ {A = ℕ} 0 1 = cc in omega arith)
    ];
    starts = λ w h. or_left (near z l w v) (eqb w v) (near_from_landmark z l v w vn h);
  }

  pub wide : Wide z (known z l v) mark v
  wide u p r un h g lt =
      let s = at_same own.1 r (sym own.3.away ∙ sym (ap (far z v) mark_own) ∙ g) in
      or_left (near z l u v) (eqb u v) (near_so z l v own.0 own.1 own.3 u p h (omega (arith, s)))

  -- the walk by posts and card is the guided walk
  pub walk_follows : (u : ℕ) (w : GuidedWalk z (known z l v) mark v u) → Follow z (saying (posts_of z l) card) v u w.cost w.roads
  walk_follows u w =
      follow_like z (rule_of z (known z l v) mark v) (saying (posts_of z l) card) v u w.cost w.roads
      (λ a an ne. saying_rule z l joined v vn a mark_there mark_marked an ne) w.walked.follows

  pub walk_ends : (u : ℕ) (w : GuidedWalk z (known z l v) mark v u) (j : ℕ) → w.roads < j → travels j z (posts_of z l) card 0 u ≡ Arrived w.cost
  walk_ends u w j lt =
      travels_journey j z (posts_of z l) card 0 u
      ∙ follow_ends z (saying (posts_of z l) card) v u w.cost w.roads (walk_follows u w) j 0 lt ∙ ap Arrived (omega arith)

  pub guided : (u : ℕ) → u < z.n → GuidedWalk z (known z l v) mark v u
  guided u un = guided_arrives z (known z l v) mark v joined guide u un

pub promise : Promise
promise z l sound u v un vn =
    let w = guided z l sound.joined sound.some_mark v vn u un in
    let d = sound.joined v u vn un in
    record {
      cost = w.cost;
      roads = w.roads;
      away = d.0;
      away_is = d.1;
      arrives = walk_ends z l sound.joined sound.some_mark v vn u w (2 * z.n) (omega (arith, w.walked.few));
      no_ring = λ x i j. no_ring z (saying (posts_of z l) (card_of z l v)) v u x w.cost w.roads i j (walk_follows z l sound.joined sound.some_mark v vn u w);
      few = w.walked.few;
      in_time = walk_ends z l sound.joined sound.some_mark v vn u w;
      way = w.walked.way;
      thrice = guided_thrice z (known z l v) (mark_place z l v) v u d.0 sound.both sound.joined (mark_there z l sound.joined sound.some_mark v vn) vn un (wide z l sound.joined sound.some_mark v vn) w d.1;
      from_near = λ t. w.cheapest d.0 d.1 (inl (or_left (near z l u v) (eqb u v) t));
      to_landmark = λ t. w.cheapest d.0 d.1 (inr (ap place_of (landmark_own z l v vn t)));
    }

-- ---- on a tree
pub tree_cheapest : TreeCheapest
tree_cheapest z l sound tree u v d un vn h =
    let w = guided z l sound.joined sound.some_mark v vn u un in
    let t = guided_tree z (known z l v) (mark_place z l v) v tree sound.joined (guide z l sound.joined sound.some_mark v vn) (wide z l sound.joined sound.some_mark v vn) u w in
    walk_ends z l sound.joined sound.some_mark v vn u w (2 * z.n) (omega (arith, w.walked.few)) ∙ ap Arrived (at_same w.cost d (sym t ∙ h))
