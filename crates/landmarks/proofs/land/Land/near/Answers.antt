use Rattle.std.proofs.Common.{rules}
use Rattle.distances.proofs.Surveyed.{ground_fits}
use Rattle.landmarks.proofs.Numbered.{near_by}
use Rattle.landmarks.proofs.land.Land.near.Goals as goal
use Rattle.landmarks.specs.Lands.{map_in, marks_of}

pub returns : goal.returns
returns c =
    let s = c.args.self.now in
    let said = c.is_some_and.ensures in
    near_by (map_in s) (marks_of s) c.args.u c.args.v (λ a e vn an. ground_fits s.survey.map c.args.v a e vn an) c.landmark.result c.is_some_and.result c.landmark.ensures (λ e. rw e at said) (λ x e. let h = rw e at said in search rules)
