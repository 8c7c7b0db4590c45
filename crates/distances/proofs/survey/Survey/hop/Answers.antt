use Rattle.std.proofs.Common.{ℕ, get_or, vec_items, ap, refl, ◌∙◌, arith}
use Rattle.std.proofs.lemmas.List.{get_or_read_under}
use Rattle.ways.specs.Map.{hop}
use Rattle.maps.specs.Charts.{ground_of}
use Rattle.distances.specs.Rows.{hop_number}
use Rattle.distances.proofs.Surveyed.{chosen_in, entry_fits}
use Rattle.distances.proofs.survey.Survey.hop.Goals as goal

pub returns-in-Some : goal.returns-in-Some
returns-in-Some c =
    let s = c.args.self.now in
    let d = c.args.d in
    let a = c.args.a in
    let there = c.in-Some.ensures in
    let fits = entry_fits s.map.n d a s.map.n s.next.len refl s.nexts there.0 there.1 in
    get_or_read_under s.next.items c.in-Some.at s.next.len c.index.result.now 0 c.index.ensures (omega (arith, fits, there)) s.next.ok.0
    ∙ ap (λ (k : ℕ). get_or (vec_items s.next) k 0) there.2
    ∙ s.hops d a (there.0, there.1)
    ∙ chosen_in s.map.n d a (hop_number (hop (ground_of s.map) d a)) 65535 there.0 there.1
