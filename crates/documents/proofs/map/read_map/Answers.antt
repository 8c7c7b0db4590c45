-- A map that is the whole input: it is told, and written again gives the input. Assumes nothing.
use Rattle.reading.specs.Reading.{start}
use Rattle.reading.specs.Telling.{Tells}
use Rattle.reading.proofs.Steps.{retold}
use Rattle.documents.specs.Maps.{read_last_map, read_whole_map}
use Rattle.documents.specs.Views.{charted}
use Rattle.documents.proofs.MapLaws.{written_again}
use Rattle.documents.proofs.map.read_map.Goals as goal

pub returns : goal.returns
returns c =
    let t : Tells charted (read_whole_map c.args.bytes.now) c.last_map_at.result =
    retold charted read_last_map c.new-from.result.bytes.now c.args.bytes.now c.new-from.result.at start c.last_map_at.result
    c.new-from.ensures.0 c.new-from.ensures.1 c.last_map_at.ensures.told.0 in
    record { told = t; again = written_again charted c.args.bytes.now (λ k. (c.type_inv.bytes k).fits) c.last_map_at.result t }
