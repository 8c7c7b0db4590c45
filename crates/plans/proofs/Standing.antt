-- A plan that is made for a map stands. Assumes nothing.
use Rattle.std.proofs.Common.{◌≡◌, ℕ, ◌<◌, Bool, true, List, length, Err, vec_items, sym, refl, ap, ◌∙◌, arith}
use Rattle.std.proofs.lemmas.Bool.{both_ways}
use Rattle.choosing.specs.Choosing.{Marked, chosen}
use Rattle.choosing.specs.Laws.{Roomy}
use Rattle.choosing.proofs.RuleLaws.{has_room}
use Rattle.distances.proofs.Surveyed.{ground_few, ground_both}
use Rattle.distances.specs.declared.survey.Survey.{Survey}
use Rattle.landmarks.specs.Landmarks.{Marks, marks_in}
use Rattle.landmarks.specs.Lands.{Settled}
use Rattle.maps.specs.Arcs.{Arcs, Meaning}
use Rattle.maps.specs.Charts.{ground_of}
use Rattle.maps.specs.declared.buf.RoadMapBuf.{RoadMapBuf}
use Rattle.maps.specs.declared.kinds.Fault.{Fault}
use Rattle.maps.specs.declared.kinds.Fault.TheVariants.{Apart, Cost, Form, Memory, Order, Plan, Range, Room, Same}
use Rattle.maps.proofs.Costs.{meaning}
use Rattle.maps.proofs.SoundArcs.{arcs_of_lem}
use Rattle.plans.specs.Code.{Made, post_in, card_in}
use Rattle.plans.specs.Plans.{Planned, plan_of}
use Rattle.plans.specs.Stands.{Listed, Stands}
use Rattle.plans.proofs.Coded.{post_is, card_is, made_by}
use Rattle.posts.specs.Posts.{post_of}
use Rattle.posts.proofs.Finding.{post_length}
use Rattle.walking.specs.Walks.{walk_of}
use Rattle.walking.proofs.Turns.{keeps}
use Rattle.ways.specs.Map.{Map}
use Rattle.ways.specs.Ways.{Joined, hangs_together}
use Rattle.ways.proofs.Hanging.{hanging_together}

-- the map of an owner means what every map in memory means
module _ (b : RoadMapBuf) where
  arcs : Arcs b.n (vec_items b.starts) (vec_items b.places) (vec_items b.costs)
  arcs = arcs_of_lem b.n (vec_items b.starts) (vec_items b.places) (vec_items b.costs) b.sound

  ground_means : Meaning (ground_of b)
  ground_means =
      let m = meaning b.n (vec_items b.starts) (vec_items b.places) (vec_items b.costs) arcs in
      record {
        both = ground_both b;
        outside = λ a e h. sym (b.same a e) ∙ m.outside a e h;
        itself = λ a. sym (b.same a a) ∙ m.itself a;
        cheap = λ a e. omega (arith, b.same a e, m.cheap a e);
      }

  pub stands : (room : ℕ) (l : Marks) (p : Planned) → hangs_together (ground_of b) ≡ true → chosen (ground_of b) room ≡ Marked l → p ≡ plan_of (ground_of b) room l → Stands (ground_of b) room p
  stands room l p hangs e is =
      let z = ground_of b in
      let joined : Joined z = (hanging_together z (ground_both b) (ground_few b).0).0 hangs in
      let room-there = has_room z room l e in
      let posts : (u : ℕ) → u < z.n → post_in p u ≡ post_of z l u = λ u un. ap (λ (q : Planned). post_in q u) is ∙ post_is z room l u un in
      record {
        marks = l;
        made = made_by z room l e ∙ ap (Made l) (sym is);
        plan_is = is;
        first = room-there.0;
        roomy = λ u un. omega (arith, ap length (posts u un), post_length z l u, room-there.1 u un);
        walks = λ u v un vn. keeps z (post_in p) (card_in p v) u (walk_of z (post_in p) (card_in p v) u) ground_means refl l v
            (record { both = ground_both b; joined = joined; some_mark = (0, (ground_few b).0, room-there.0) }) un vn posts (ap (λ (q : Planned). card_in q v) is ∙ card_is z room l v vn);
      }

-- ---- what is left to go wrong once landmarks are chosen
pub settled_memory : (s : Survey) (marks : List Bool) (f : Fault) → Settled s marks (Err f) → marks_in marks 0 ≡ true → 0 < (ground_of s.map).n → f ≡ Memory
settled_memory s marks Range h t n = absurd (both_ways (marks_in marks 0) (h 0 n) t)
settled_memory s marks Memory h t n = refl
settled_memory s marks Form h t n = absurd h
settled_memory s marks Order h t n = absurd h
settled_memory s marks Cost h t n = absurd h
settled_memory s marks Apart h t n = absurd h
settled_memory s marks Room h t n = absurd h
settled_memory s marks Plan h t n = absurd h
settled_memory s marks Same h t n = absurd h

pub listed_memory : (z : Map) (room : ℕ) (l : Marks) (f : Fault) → Listed z room l (Err f) → Roomy z room l → f ≡ Memory
listed_memory z room l Range h r = absurd h
listed_memory z room l Memory h r = refl
listed_memory z room l Form h r = absurd h
listed_memory z room l Order h r = absurd h
listed_memory z room l Cost h r = absurd h
listed_memory z room l Apart h r = absurd h
listed_memory z room l Room h r = absurd (omega (arith, r h.0 h.1, h.2))
listed_memory z room l Plan h r = absurd h
listed_memory z room l Same h r = absurd h
