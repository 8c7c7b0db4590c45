use Rattle.std.proofs.Common.{◌≡◌, ℕ, ◌<◌, Bool, List, [], ◌∷◌, ◌++◌, length, get_or, None, Some, Err, vec_items, Result, sym, refl, ap, ◌∙◌, subst, inl, inr, arith}
use Rattle.std.proofs.lemmas.List.{get_or_append_left, get_or_push, length_push}
use Rattle.std.proofs.lemmas.Slice.{pushed}
use Rattle.std.proofs.lemmas.Result.{err_from_is_err_and}
use Rattle.std.proofs.lemmas.Bool.{cases_eq}
use Rattle.distances.proofs.Surveyed.{ground_few}
use Rattle.landmarks.proofs.Numbered.{found_mark, found_none, found_some}
use Rattle.landmarks.proofs.land.Land.new.Goals as goal
use Rattle.landmarks.specs.Landmarks.{mark_of, marks_in}
use Rattle.landmarks.specs.Lands.{Settled}
use Rattle.landmarks.specs.Numbers.{landmark_in, mark_number}
use Rattle.landmarks.specs.declared.kinds.Nearest.{Nearest}
use Rattle.landmarks.specs.declared.land.Land.{Land}
use Rattle.maps.specs.Charts.{ground_of}
use Rattle.maps.specs.declared.buf.RoadMapBuf.{RoadMapBuf}
use Rattle.maps.specs.declared.kinds.Fault.{Fault}
use Rattle.maps.specs.declared.kinds.Fault.TheVariants.{Range}

pub returns-in_err-found : goal.returns-in_err-found
returns-in_err-found c =
    let b = c.args.survey.map in
    let n : c.len-n.result ≡ b.n = c.len-n.ensures ∙ ap (λ (x : RoadMapBuf). x.n) c.map.ensures in
    let none : c.landmark_of.result ≡ None = c.in_err-found.ensures.ok_part in
    let said : ◌≡◌ {A = Result Nearest Fault} (Err c.in_err-found.field-0.0) (Err Range) = rw none at c.in_err-found.ensures.value in
    let is : c.in_err-found.field-0.0 ≡ Range = cc in
    let p = err_from_is_err_and c.from_residual.result c.from_residual.ensures.1 in
    subst (λ (r : Result Land Fault). Settled c.args.survey (vec_items c.args.marks) r) (sym (p.1 ∙ ap (λ (f : Fault). Err f) (p.2 ∙ is)))
    (found_none (ground_of b) (marks_in (vec_items c.args.marks)) c.loop-v.v (omega (arith, n, c.loop-v-test.true))
    (sym none ∙ c.landmark_of.ensures ∙ ap (λ (xs : List Bool). landmark_in (ground_of b) (marks_in xs) c.loop-v.v) c.deref.ensures.value))

pub loop-v-preserved : goal.loop-v-preserved
loop-v-preserved c =
    let b = c.args.survey.map in
    let z = ground_of b in
    let l = marks_in (vec_items c.args.marks) in
    let v = c.loop-v.v in
    let none : Nearest = record { place = 0; away = 0 } in
    let found = c.in_ok-found.found in
    let old = vec_items c.loop-v.nearest in
    let n : c.len-n.result ≡ b.n = c.len-n.ensures ∙ ap (λ (x : RoadMapBuf). x.n) c.map.ensures in
    let j : vec_items c.push.new.self ≡ old ++ found ∷ [] = pushed (found ∷ []) refl c.in_ok-push.was c.push.ensures.items in
    let long : length old ≡ v = sym c.loop-v.nearest.ok.0 ∙ c.loop-v.invariant.0 in
    let told : Some found ≡ landmark_in z l v = sym c.in_ok-found.ensures.ok_part ∙ c.landmark_of.ensures ∙ ap (λ (xs : List Bool). landmark_in z (marks_in xs) v) c.deref.ensures.value in
    let vn : v < z.n = omega (arith, n, c.loop-v-test.true) in
    let is : found ≡ mark_number (mark_of z l v) = found_some z l v found vn told in (
      omega (arith, c.push.new.self.ok.0, ap length j, length_push old found, long),
      λ h. found_mark z l v found vn told,
      λ w h. ap (λ (xs : List Nearest). get_or xs w none) j
          ∙ elim (cases_eq w v) [
            | inl e ↦ get_or_push old found none w (long ∙ sym e) ∙ is ∙ ap (λ (k : ℕ). mark_number (mark_of z l k)) (sym e)
            | inr e ↦ get_or_append_left old (found ∷ []) none w (omega (arith, long)) ∙ c.loop-v.invariant.2 w (omega arith)
          ],
    )

pub returns : goal.returns
returns c =
    let b = c.args.survey.map in
    let n : c.len-n.result ≡ b.n = c.len-n.ensures ∙ ap (λ (x : RoadMapBuf). x.n) c.map.ensures in
    (refl, refl, c.loop-v.invariant.1 (omega (arith, n, (ground_few b).0, c.loop-v-test.false)))
