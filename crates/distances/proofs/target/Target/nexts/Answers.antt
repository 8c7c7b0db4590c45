use Rattle.std.proofs.Common.{get_or, set, ap, sym, ◌∙◌, inl, inr, arith, get_or-set_other, get_or-set_same}
use Rattle.std.proofs.lemmas.Bool.{cases_eq}
use Rattle.ways.specs.Map.{hop}
use Rattle.maps.specs.Charts.{chart}
use Rattle.distances.specs.Rows.{hop_number}
use Rattle.distances.proofs.FirstArcs.{arcs_inside, first_is_hop}
use Rattle.distances.proofs.target.Target.nexts.Goals as goal

pub first_on-requires : goal.first_on-requires
first_on-requires c =
    let t = c.args.self.now in
    record {
      inside = λ k l. omega (
        arith,
        c.requires.dists,
        arcs_inside t.map t.place t.there c.args.dist.now c.requires.far c.loop-a.a (omega arith) (c.type_inv.dist c.loop-a.a).fits c.arcs.result.places.now c.arcs.result.costs.now c.arcs.ensures.places c.arcs.ensures.costs k l,
      );
    }

pub loop-a-preserved : goal.loop-a-preserved
loop-a-preserved c =
    let t = c.args.self.now in
    let next = set c.loop-a.next c.loop-a.a c.unwrap_or.result in
    λ b l. elim (cases_eq b c.loop-a.a) [
      | inl e ↦ ap (λ k. get_or next k 0) e ∙ get_or-set_same c.loop-a.next c.loop-a.a c.unwrap_or.result 0 (omega arith) ∙ c.unwrap_or.ensures
          ∙ first_is_hop t.map t.place t.there c.args.dist.now c.requires.far c.loop-a.a (omega arith) (c.type_inv.dist c.loop-a.a).fits c.arcs.result.places.now c.arcs.result.costs.now c.arcs.ensures.places c.arcs.ensures.costs c.first_on.result c.first_on.ensures
          ∙ ap (λ k. hop_number (hop (chart t.map) t.place k)) (sym e)
      | inr e ↦ get_or-set_other c.loop-a.next c.loop-a.a b c.unwrap_or.result 0 e ∙ c.loop-a.invariant b (omega arith)
    ]
