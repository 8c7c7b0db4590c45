-- What the code reads of a map, step by step, is what is to be read. Assumes nothing.
use Rattle.std.proofs.Common.{◌≡◌, ℕ, List, None, Ok, Err, Result, sym, ap, ◌∙◌}
use Rattle.maps.specs.declared.buf.RoadMapBuf.{RoadMapBuf}
use Rattle.maps.specs.declared.kinds.Road.{Road}
use Rattle.reading.specs.declared.kinds.Place.{Place}
use Rattle.reading.specs.declared.kinds.Refusal.{Refusal}
use Rattle.reading.specs.declared.kinds.Stop.{Stop}
use Rattle.reading.specs.Reading.{Read, Got, one, many, fresh}
use Rattle.reading.specs.Roads.{road_shape}
use Rattle.reading.specs.Telling.{answer, stands, Told}
use Rattle.reading.proofs.Endings.{told_got, told_ok, both_got}
use Rattle.reading.proofs.Steps.{got}
use Rattle.documents.specs.declared.kinds.MapHead.{MapHead}
use Rattle.documents.specs.Views.{charted, Built}
use Rattle.documents.specs.Maps.{Charted, head_shape, read_roads}

-- the first record, and then the roads: b is the input as it was, b' as the reader has it later
pub roads_got : {V : Type 0} (view : V → List Road) (b b' : List ℕ) (at p p' q : Place) (h : MapHead) (v : V) (r : Result MapHead Refusal) (s : Result V Stop)
    → r ≡ Ok h → r ≡ answer (one head_shape 0 b None at) → p ≡ stands (one head_shape 0 b None at) at → b' ≡ b → p' ≡ fresh p
    → s ≡ Ok v → Told view (many (one road_shape h.places b') h.roads None p') s q
    → read_roads b at ≡ Got (record { places = h.places; roads = view v }) q
roads_got view b b' at p p' q h v r s was says stood same begun was' told =
    both_got (λ x roads. record { places = x.places; roads = roads }) (one head_shape 0 b None) (λ x. many (one road_shape x.places b) x.roads None) at p q h (view v)
    (got (one head_shape 0 b None at) at h r was says ∙ ap (λ z. Got h z) (sym stood))
    (ap (λ (z : Place). many (one road_shape h.places b) h.roads None z) (sym begun)
    ∙ ap (λ (z : List ℕ). many (one road_shape h.places z) h.roads None p') (sym same)
    ∙ told_got view (many (one road_shape h.places b') h.roads None p') q s v told was')

-- a map that is built tells what was read
pub told_built : (x : Read Charted) (m : Charted) (q : Place) (r : Result RoadMapBuf Stop) → x ≡ Got m q → Built m r → Told charted x r q
told_built x m q (Ok b) e h = told_ok charted x b q (e ∙ ap (λ z. Got z q) (sym h))
told_built x m q (Err d) e h = (rw (e, h) tt, λ _. sym (ap (λ y. stands y q) e))
