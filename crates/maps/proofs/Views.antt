-- What is known of every map in memory. Assumes nothing.
use Rattle.std.proofs.Common.{◌≡◌, ℕ, List, ap, ◌∙◌}
use mathlib.Core.Path.{fun_ext}
use Rattle.maps.specs.Charts.{chart}
use Rattle.maps.specs.Roads.{cost_in, map_of}
use Rattle.maps.specs.declared.kinds.Road.{Road}
use Rattle.maps.specs.declared.map.RoadMap.{RoadMap}
use Rattle.maps.specs.Arcs.{map_in, Arcs, Meaning}
use Rattle.maps.proofs.SoundArcs.{arcs_of_lem}
use Rattle.maps.proofs.Costs.{meaning}

pub view_arcs : (m : RoadMap) → Arcs m.n m.starts.now m.places.now m.costs.now
view_arcs m = arcs_of_lem m.n m.starts.now m.places.now m.costs.now m.sound

pub view_means : (m : RoadMap) → Meaning (map_in m.n m.starts.now m.places.now m.costs.now)
view_means m = meaning m.n m.starts.now m.places.now m.costs.now (view_arcs m)

-- a map in memory that costs what some roads cost stands for the map of these roads
pub view_is : (m : RoadMap) (n : ℕ) (roads : List Road) → m.n ≡ n → ((a e : ℕ) → (map_in m.n m.starts.now m.places.now m.costs.now).cost a e ≡ cost_in roads a e) → chart m ≡ map_of n roads
view_is m n roads p q =
    ap (λ (f : ℕ → ℕ → ℕ). record { n = m.n; cost = f }) (fun_ext (λ a. fun_ext (λ e. q a e)))
    ∙ ap (λ (k : ℕ). record { n = k; cost = cost_in roads }) p
