-- The roads that are read are those of a map without a fault, which can be built. Assumes nothing.
use Rattle.std.proofs.Common.{vec_items, ◌∙◌}
use Rattle.maps.proofs.RoadLists.{sound_map}
use Rattle.documents.specs.Maps.{read_roads}
use Rattle.documents.proofs.Charts.{chart_sound}
use Rattle.documents.proofs.ChartsRead.{roads_got, told_built}
use Rattle.documents.proofs.map.roads_at.Goals as goal

pub built-requires : goal.built-requires
built-requires c =
    let h = c.in_ok-head.head in
    let roads = vec_items c.in_ok-roads.roads in
    let b = c.args.from.now.bytes.now in
    let at = c.args.from.now.at in
    sound_map h.places roads
    (chart_sound b at c.read_records.new.from.at (record { places = h.places; roads = roads })
    (roads_got vec_items b c.begin.new.self.bytes.now at c.read_record.new.from.at c.begin.new.self.at c.read_records.new.from.at h c.in_ok-roads.roads
    c.read_record.result c.read_records.result
    c.in_ok-head.was c.read_record.ensures.value c.read_record.ensures.at (c.begin.ensures.same ∙ c.read_record.ensures.same) c.begin.ensures.at
    c.in_ok-roads.was c.read_records.ensures.told))

pub returns-clause-told : goal.returns-clause-told
returns-clause-told c =
    let h = c.in_ok-head.head in
    let b = c.args.from.now.bytes.now in
    let at = c.args.from.now.at in
    let q = c.read_records.new.from.at in
    told_built (read_roads b at) (record { places = h.places; roads = vec_items c.in_ok-roads.roads }) q c.built.result
    (roads_got vec_items b c.begin.new.self.bytes.now at c.read_record.new.from.at c.begin.new.self.at q h c.in_ok-roads.roads
    c.read_record.result c.read_records.result
    c.in_ok-head.was c.read_record.ensures.value c.read_record.ensures.at (c.begin.ensures.same ∙ c.read_record.ensures.same) c.begin.ensures.at
    c.in_ok-roads.was c.read_records.ensures.told)
    c.built.ensures
