use Rattle.std.proofs.Common.{ℕ, get_or, vec_items, ap, refl, ◌∙◌, arith}
use Rattle.std.proofs.lemmas.List.{get_or_read_under}
use Rattle.ways.specs.Map.{far}
use Rattle.maps.specs.Charts.{ground_of}
use Rattle.distances.specs.Rows.{far_number}
use Rattle.distances.proofs.Surveyed.{chosen_in, entry_fits}
use Rattle.distances.proofs.survey.Survey.far.Goals as goal

pub returns-in-Some : goal.returns-in-Some
returns-in-Some c =
    let s = c.args.self.now in
    let d = c.args.d in
    let a = c.args.a in
    let there = c.in-Some.ensures in
    let fits = entry_fits s.map.n d a s.map.n s.dist.len refl s.dists there.0 there.1 in
    get_or_read_under s.dist.items c.in-Some.at s.dist.len c.index.result.now 0 c.index.ensures (omega (arith, fits, there)) s.dist.ok.0
    ∙ ap (λ (k : ℕ). get_or (vec_items s.dist) k 0) there.2
    ∙ s.fars d a (there.0, there.1)
    ∙ chosen_in s.map.n d a (far_number (far (ground_of s.map) d a)) 4294967295 there.0 there.1
