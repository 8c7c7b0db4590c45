use Rattle.std.proofs.Common.{◌≡◌, ◌<◌, Bool, cond, None, sym, ap, ◌∙◌, arith, rules, tests}
use Rattle.std.proofs.lemmas.Iterator.{YieldsList-from_map, YieldsList-from_range}
use Rattle.std.proofs.lemmas.Iterator.Consumers.{YieldsList-at, YieldsList-from_filter}
use Rattle.std.proofs.lemmas.Bool.{lt-ltb}
use Rattle.distances.proofs.Surveyed.{ground_fits}
use Rattle.landmarks.proofs.Least.{away_to, least_from_min_by_key, least_landmark}
use Rattle.landmarks.proofs.nearest.landmark_of.Goals as goal
use Rattle.landmarks.specs.Landmarks.{mark_of, marks_in}
use Rattle.landmarks.specs.Numbers.{mark_numbers}
use Rattle.maps.specs.Charts.{ground_of}
use Rattle.maps.specs.declared.buf.RoadMapBuf.{RoadMapBuf}

pub returns : goal.returns
returns c =
    let b = c.args.survey.now.map in
    let z = ground_of b in
    let l = marks_in c.args.marks.now in
    let v = c.args.v in
    let n : c.len-n.result ≡ b.n = c.len-n.ensures ∙ ap (λ (x : RoadMapBuf). x.n) c.map.ensures in
    let vn : v < b.n = omega (arith, n, c.if-v-n.false) in
    least_from_min_by_key _ _ (λ x k q e. search (rules, tests)) _ c.min_by_key.ensures.ran
    (YieldsList-from_map _ (away_to z v) (YieldsList-at c.map-2.ensures.source (YieldsList-from_filter _ l (YieldsList-from_range 0 b.n b.n (c.filter.ensures.source ∙ ap (λ k. record { start = 0; end = k }) n) (omega arith)) c.filter.ensures.closure (λ x r q k. search (rules, tests)))) c.map-2.ensures.closure (λ x r q k. search (rules, tests)))
    ∙ least_landmark z l v vn (λ a e an h. ground_fits b v a e vn an h)
    ∙ ap (λ (t : Bool). cond t (mark_numbers (mark_of z l v)) None) (sym (lt-ltb v b.n vn))
