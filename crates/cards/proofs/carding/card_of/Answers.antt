use Rattle.std.proofs.Common.{◌≡◌, ℕ, ◌<◌, Bool, cond, ltb, Some, None, sym, ap, ◌∙◌}
use Rattle.cards.proofs.Hinted.{hint_is, place_number}
use Rattle.cards.proofs.carding.card_of.Goals as goal
use Rattle.cards.specs.Cards.{card_of, hint_from}
use Rattle.cards.specs.declared.kinds.Hint.{Hint}
use Rattle.distances.proofs.Surveyed.{ground_few}
use Rattle.distances.specs.Surveys.{hop_in}
use Rattle.distances.specs.declared.survey.Survey.{Survey}
use Rattle.landmarks.proofs.Numbered.{found_at}
use Rattle.landmarks.specs.Landmarks.{mark_of, place_of}
use Rattle.landmarks.specs.Lands.{map_in, marks_of}
use Rattle.landmarks.specs.Numbers.{mark_number}
use Rattle.landmarks.specs.declared.kinds.Nearest.{Nearest}
use Rattle.maps.specs.Charts.{ground_of}
use Rattle.std.proofs.lemmas.Bool.{ltb-true}

pub returns : goal.returns
returns c =
    let s = c.args.land.now in
    let z = map_in s in
    let l = marks_of s in
    let v = c.args.v in
    let f = found_at (ltb v z.n) c.in_ok-found.found (mark_number (mark_of z l v)) c.in_ok-found.ensures in
    let vn : v < z.n = ltb-true v z.n f.0 in
    let few = ground_few s.survey.map in
    let p : c.in_ok-found.found.place ≡ place_of (mark_of z l v) = ap (λ (x : Nearest). x.place) f.1 ∙ place_number (mark_of z l v) in
    let h : c.from.result ≡ (card_of z l v).hint =
    c.from.ensures.0
    ∙ ap hint_from (c.hop-next.ensures ∙ ap (λ (x : Survey). hop_in (ground_of x.map) v c.in_ok-found.found.place) c.survey.ensures ∙ ap (λ (k : ℕ). hop_in z v k) p)
    ∙ hint_is z l v few.0 few.1 vn in
    ap (λ (k : ℕ). Some (record { place = v; landmark = k; hint = c.from.result })) p
    ∙ ap (λ (x : Hint). Some (record { place = v; landmark = place_of (mark_of z l v); hint = x })) h
    ∙ ap (λ (t : Bool). cond t (Some (card_of z l v)) None) (sym f.0)
