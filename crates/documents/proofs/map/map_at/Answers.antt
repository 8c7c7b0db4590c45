-- A map that something else may follow: its end. Assumes nothing.
use Rattle.std.specs.Result.{result_err}
use Rattle.std.proofs.lemmas.Result.{err_from_is_err_and}
use Rattle.reading.proofs.Endings.{end_bad}
use Rattle.documents.specs.Maps.{read_roads, apart}
use Rattle.documents.specs.Views.{charted}
use Rattle.documents.proofs.map.map_at.Goals as goal

pub returns-in_err-close-clause-told : goal.returns-in_err-close-clause-told
returns-in_err-close-clause-told c =
    let p = err_from_is_err_and c.from_residual-in_err-close.result c.from_residual-in_err-close.ensures.1 in
    end_bad charted (read_roads c.args.from.now.bytes.now c.args.from.now.at) (λ m p. apart m) c.roads_at.new.from.at c.close.new.self.at
    c.roads_at.result c.in_ok-map.map (result_err c.check_whole.result) c.close.result
    c.roads_at.ensures.told c.in_ok-map.was c.check_whole.ensures c.close.ensures.value
    c.in_err-close.was p.1 p.2
