use Rattle.std.proofs.Common.{vec_items}
use Rattle.maps.proofs.SoundArcs.{arcs_of_lem}
use Rattle.maps.proofs.Costs.{meaning}
use Rattle.maps.proofs.buf.RoadMapBuf.map.Goals as goal

pub returns-clause-means : goal.returns-clause-means
returns-clause-means c =
    let m = c.args.self.now in
    let means = meaning m.n (vec_items m.starts) (vec_items m.places) (vec_items m.costs) (arcs_of_lem m.n (vec_items m.starts) (vec_items m.places) (vec_items m.costs) m.sound) in
    simp (c.deref.ensures.value, c.deref-2.ensures.value, c.deref-3.ensures.value) means
