-- The worked cases hold: computed, all at once. Assumes nothing.
use Rattle.std.proofs.Common.{◌≡◌, ℕ, Bool, true, false, cond, ◌&&◌, ◌||◌, eqb, List, [], ◌∷◌, refl, ap, ◌∙◌, arith}
use Rattle.ways.specs.Map.{within, lowest, first_on_way}
use Rattle.ways.specs.Ways.{BothWays, all_below}
use Rattle.ways.proofs.Hanging.{hanging_together}
use Rattle.landmarks.specs.Landmarks.{nearest}
use Rattle.landmarks.proofs.Near.{lines_few}
use Rattle.posts.specs.Posts.{lines_of}
use Rattle.posts.proofs.Finding.{post_length}
use Rattle.walking.specs.Walks.{travels, trail}
use Rattle.walking.specs.SmallMaps.{Road, leads, priced, road_map, flat_roads, flat, only}
use Rattle.walking.specs.Cases.{same_list, all_hold, none_near, CasesHold, LandmarksEverywhere, NinePlaces, Thrice}

pub cases_hold : CasesHold
unfolding within lowest first_on_way nearest lines_of travels trail priced same_list all_hold
cases_hold = refl

pub landmarks_everywhere : LandmarksEverywhere
unfolding within lowest first_on_way nearest lines_of travels priced all_below none_near
landmarks_everywhere = refl

pub nine_places : NinePlaces
nine_places z u n9 un = omega (arith, post_length z (only 0) u, lines_few z (only 0) u (omega arith))

-- ---- roads cost the same both ways
or_swap : (x y : Bool) → (x || y) ≡ (y || x)
or_swap true true = refl
or_swap true false = refl
or_swap false true = refl
or_swap false false = refl

leads_both : (r : Road) (a e : ℕ) → leads r a e ≡ leads r e a
leads_both r a e = or_swap (eqb r.one a && eqb r.other e) (eqb r.one e && eqb r.other a)

priced_both : (rs : List Road) (a e : ℕ) → priced rs a e ≡ priced rs e a
unfolding priced
priced_both [] a e = refl
priced_both (r ∷ rs) a e = ap (λ t. cond t r.price (priced rs a e)) (leads_both r a e) ∙ ap (cond (leads r e a) r.price) (priced_both rs a e)

pub road_map_both : (n : ℕ) (rs : List Road) → BothWays (road_map n rs)
road_map_both n rs a e = priced_both rs a e

pub thrice_reached : Thrice
unfolding within lowest first_on_way nearest lines_of travels priced all_below
thrice_reached = record {
  z = flat;
  l = only 0;
  u = 2;
  v = 1;
  away = 1;
  sound = record { both = road_map_both 3 flat_roads; joined = (hanging_together flat (road_map_both 3 flat_roads) (omega arith)).0 refl; some_mark = (0, omega arith, refl) };
  u_there = omega arith;
  v_there = omega arith;
  away_is = refl;
  some = omega arith;
  reached = refl;
}
