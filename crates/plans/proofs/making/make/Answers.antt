use Rattle.std.proofs.Common.{◌≡◌, ℕ, Bool, true, List, Ok, Err, Result, vec_items, sym, refl, ap, ◌∙◌, subst, arith}
use Rattle.choosing.specs.Choosing.{Marked, chosen}
use Rattle.choosing.proofs.RuleLaws.{has_room}
use Rattle.distances.specs.Surveys.{Surveyed}
use Rattle.distances.specs.declared.survey.Survey.{Survey}
use Rattle.distances.proofs.Surveyed.{ground_few}
use Rattle.landmarks.specs.Landmarks.{marks_in}
use Rattle.landmarks.specs.Lands.{Settled, map_in, marks_of}
use Rattle.std.specs.Result.{IsErrAnd, MatchResult}
use Rattle.maps.specs.declared.kinds.Fault.{Fault}
use Rattle.plans.specs.declared.kinds.Plan.{Plan}
use Rattle.plans.specs.declared.kinds.NoPlan.{NoPlan}
use Rattle.plans.specs.declared.kinds.NoPlan.TheVariants.{Memory}
use Rattle.ways.specs.Map.{Map}
use Rattle.landmarks.specs.declared.land.Land.{Land}
use Rattle.maps.specs.Charts.{ground_of}
use Rattle.maps.specs.declared.buf.RoadMapBuf.{RoadMapBuf}
use Rattle.plans.specs.Plans.{planned}
use Rattle.plans.specs.Stands.{Listed, Planning, Stands}
use Rattle.plans.proofs.Standing.{stands, settled_memory, listed_memory}
use Rattle.plans.proofs.making.make.Goals as goal
use Rattle.ways.specs.Ways.{hangs_together}

-- the land is that of the survey and the marks, so what was chosen for the map of the survey was chosen for its own
chosen_in : (s : Land) (t : Survey) (marks : List Bool) (room : ℕ) → s.survey ≡ t → vec_items s.marks ≡ marks → chosen (ground_of t.map) room ≡ Marked (marks_in marks) → chosen (map_in s) room ≡ Marked (marks_of s)
chosen_in s t marks room e f c = ap (λ (x : Survey). chosen (ground_of x.map) room) e ∙ c ∙ ap (λ (xs : List Bool). Marked (marks_in xs)) (sym f)

-- what went through `map_err` as it was
through : {T E : Type 0} (self : Result T E) (x : T) → MatchResult self (λ y. ◌≡◌ {A = Result T NoPlan} (Ok x) (Ok y)) (λ e. ⊥) → self ≡ Ok x
through (Ok y) x h = let e : x ≡ y = cc in ap (λ z. Ok z) (sym e)
through (Err f) x h = absurd h

-- a plan, or a fault that can only be want of memory
ends : (z : Map) (room : ℕ) (self : Result Plan Fault) (r : Result Plan NoPlan) → MatchResult self (λ p. r ≡ Ok p) (λ f. IsErrAnd r (λ e. e ≡ Memory)) → ((p : Plan) → self ≡ Ok p → Planning z room (Ok p)) → Planning z room r
ends z room (Ok p) r h go = subst (λ (x : Result Plan NoPlan). Planning z room x) (sym h) (go p refl)
ends z room (Err f) (Ok p) h go = absurd h
ends z room (Err f) (Err d) h go = subst (λ (e : NoPlan). Planning z room (Err e)) (sym h) tt

pub map_err-requires-2 : goal.map_err-requires-2
map_err-requires-2 c =
    let s = c.in_ok-survey.survey in
    let marks = vec_items c.in_ok-marks.marks in
    λ e is. settled_memory s marks e (subst (λ (r : Result Land Fault). Settled s marks r) is c.new-2.ensures) (has_room (ground_of s.map) c.args.room (marks_in marks) c.in_ok-marks.ensures.2).0 (ground_few s.map).0

pub map_err-requires-3 : goal.map_err-requires-3
map_err-requires-3 c =
    let s = c.in_ok-survey.survey in
    let l = c.in_ok-land.land in
    let marks = vec_items c.in_ok-marks.marks in
    let g = subst (λ (r : Result Land Fault). Settled s marks r) (through c.new-2.result l c.in_ok-land.ensures.cases) c.new-2.ensures in
    λ e is. listed_memory (map_in l) c.args.room (marks_of l) e (subst (λ (r : Result Plan Fault). Listed (map_in l) c.args.room (marks_of l) r) is c.plan_of.ensures)
    (has_room (map_in l) c.args.room (marks_of l) (chosen_in l s marks c.args.room g.0 g.1 c.in_ok-marks.ensures.2)).1

pub returns : goal.returns
returns c =
    let s = c.in_ok-survey.survey in
    let l = c.in_ok-land.land in
    let marks = vec_items c.in_ok-marks.marks in
    let g = subst (λ (r : Result Land Fault). Settled s marks r) (through c.new-2.result l c.in_ok-land.ensures.cases) c.new-2.ensures in
    let of = subst (λ (r : Result Survey Fault). Surveyed c.args.map r) (through c.new.result s c.in_ok-survey.ensures.cases) c.new.ensures in
    let same : l.survey.map ≡ c.args.map = ap (λ (x : Survey). x.map) g.0 ∙ of in
    let hangs : hangs_together (map_in l) ≡ true = ap (λ (x : Survey). hangs_together (ground_of x.map)) g.0 ∙ c.in_ok-marks.ensures.0 in
    let e = chosen_in l s marks c.args.room g.0 g.1 c.in_ok-marks.ensures.2 in
    ends (ground_of c.args.map) c.args.room c.plan_of.result c.map_err-3.result c.map_err-3.ensures.cases
    (λ p is. (let q = subst (λ (r : Result Plan Fault). Listed (map_in l) c.args.room (marks_of l) r) is c.plan_of.ensures in
    (omega arith, subst (λ (b : RoadMapBuf). Stands (ground_of b) c.args.room (planned p)) same (stands l.survey.map c.args.room (marks_of l) (planned p) hangs e q.0))))
