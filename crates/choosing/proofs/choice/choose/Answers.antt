use Rattle.std.proofs.Common.{◌≡◌, ℕ, Bool, true, List, length, Some, None, Ok, Err, Result, Vec, vec_items, sym, ap, ◌∙◌, subst, rules}
use Rattle.std.proofs.lemmas.List.{take_at}
use Rattle.ways.specs.Map.{Map}
use Rattle.ways.specs.Ways.{hangs_together}
use Rattle.maps.specs.Charts.{chart, ground_of}
use Rattle.maps.specs.Roads.{cost_in}
use Rattle.maps.specs.declared.buf.RoadMapBuf.{RoadMapBuf}
use Rattle.maps.specs.declared.map.RoadMap.{RoadMap}
use Rattle.maps.proofs.Views.{view_is}
use Rattle.distances.specs.Unreached.{Lowest}
use Rattle.landmarks.specs.Landmarks.{marks_in}
use Rattle.choosing.specs.Choosing.{Marked}
use Rattle.choosing.specs.Chosen.{Chose}
use Rattle.choosing.specs.declared.kinds.Crowd.{Crowd}
use Rattle.choosing.specs.declared.kinds.Unchosen.{Unchosen}
use Rattle.choosing.specs.declared.kinds.Unchosen.TheVariants.{Crowded}
use Rattle.std.specs.Result.{IsErrAnd}
use Rattle.std.specs.declared.alloc.Global.{Global}
use Rattle.choosing.specs.Tables.{Table}
use Rattle.choosing.specs.Turns.{Ranked}
use Rattle.choosing.proofs.Surveys.{survey_table, survey_ranked}
use Rattle.choosing.proofs.choice.choose.Goals as goal

-- the map that is lent is that of the survey
lent : (view : RoadMap) (b m : RoadMapBuf) → view.n ≡ b.n → ((a e : ℕ) → (chart view).cost a e ≡ cost_in (vec_items b.roads) a e) → b ≡ m → chart view ≡ ground_of m
lent view b m n same e = view_is view b.n (vec_items b.roads) n same ∙ ap ground_of e

pub returns-in-Some : goal.returns-in-Some
returns-in-Some c = subst (λ (z : Map). Lowest z (Some c.in-Some.place)) (lent c.map-2.result c.map.result.now c.args.survey.now.map c.map-2.ensures.n c.map-2.ensures.same c.map.ensures) c.in-Some.ensures.lowest

-- the same tables under other names
table_as : (z : Map) (n m : ℕ) (xs ys : List ℕ) → m ≡ n → ys ≡ xs → Table z n xs → Table z m ys
table_as z n m xs ys e p t = subst (λ (k : ℕ). Table z k ys) (sym e) (subst (λ (q : List ℕ). Table z n q) (sym p) t)

ranked_as : (n m : ℕ) (xs ys os ps : List ℕ) → m ≡ n → ys ≡ xs → ps ≡ os → Ranked n xs os → Ranked m ys ps
ranked_as n m xs ys os ps e p q o =
    subst (λ (k : ℕ). Ranked k ys ps) (sym e) (subst (λ (y : List ℕ). Ranked n y ps) (sym p) (subst (λ (y : List ℕ). Ranked n xs y) (sym q) o))

-- the map that was surveyed hangs together
hangs : (view : RoadMap) (b m : RoadMapBuf) → view.n ≡ b.n → ((a e : ℕ) → (chart view).cost a e ≡ cost_in (vec_items b.roads) a e) → b ≡ m → Lowest (chart view) None → hangs_together (ground_of m) ≡ true
hangs view b m n same e h = subst (λ (z : Map). hangs_together z ≡ true) (lent view b m n same e) h

pub invariant_of-map : goal.invariant_of-map
invariant_of-map c =
    let s = c.args.survey.now in
    let r = c.rows.result in
    record {
      sorted = ranked_as s.map.n r.n (vec_items s.dist) r.dist.now (vec_items s.order) r.order.now c.rows.ensures.n c.rows.ensures.dist c.rows.ensures.order
          (survey_ranked s (hangs c.map-2.result c.map.result.now s.map c.map-2.ensures.n c.map-2.ensures.same c.map.ensures c.in_default.ensures.lowest));
    }

-- a crowd that is passed on by `?`
passed : (z : Map) (room : ℕ) (crowd : Crowd) (r : Result (Vec Bool Global) Unchosen) → IsErrAnd r (λ u. u ≡ Crowded crowd) → Chose z room (Err (Crowded crowd)) → Chose z room r
passed z room crowd (Ok marks) e h = absurd e
passed z room crowd (Err u) e h = subst (λ (x : Unchosen). Chose z room (Err x)) (sym e) h

pub returns-in_err-choose_on : goal.returns-in_err-choose_on
returns-in_err-choose_on c =
    let s = c.args.survey.now in
    let r = c.rows.result in
    let h = hangs c.map-2.result c.map.result.now s.map c.map-2.ensures.n c.map-2.ensures.same c.map.ensures c.in_default.ensures.lowest in
    let t = table_as (ground_of s.map) s.map.n r.n (vec_items s.dist) r.dist.now c.rows.ensures.n c.rows.ensures.dist (survey_table s h) in
    let crowd = c.in_err-choose_on.field-0.0 in
    let w = c.in_err-choose_on.ensures (ground_of s.map) t in
    passed (ground_of s.map) c.args.room crowd c.from_residual-in_err-choose_on.result c.from_residual-in_err-choose_on.ensures.1
    (h, marks_in c.choose_on.new.marks, w.0, w.1)

pub returns : goal.returns
returns c =
    let s = c.args.survey.now in
    let r = c.rows.result in
    let h = hangs c.map-2.result c.map.result.now s.map c.map-2.ensures.n c.map-2.ensures.same c.map.ensures c.in_default.ensures.lowest in
    let t = table_as (ground_of s.map) s.map.n r.n (vec_items s.dist) r.dist.now c.rows.ensures.n c.rows.ensures.dist (survey_table s h) in
    let l : length c.choose_on.new.marks ≡ c.in_ok-marks.marks.len = c.choose_on.auto.marks ∙ c.deref_mut.ensures.len in
    let len : c.in_ok-marks.marks.len ≡ r.n = search rules in (
      h,
      len ∙ c.rows.ensures.n,
      c.in_ok-choose_on.ensures (ground_of s.map) t ∙ ap (λ (xs : List Bool). Marked (marks_in xs)) (sym (take_at c.choose_on.new.marks _ c.in_ok-marks.marks.len l)),
    )
