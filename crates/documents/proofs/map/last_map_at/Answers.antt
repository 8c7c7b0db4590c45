-- A map with which the input has to end: its end. Assumes nothing.
use Rattle.std.proofs.Common.{ℕ, List, ap, ◌∙◌}
use Rattle.std.specs.Result.{result_err}
use Rattle.std.proofs.lemmas.Result.{err_from_is_err_and}
use Rattle.reading.proofs.Endings.{end_bad}
use Rattle.documents.specs.Maps.{read_roads, last_fault}
use Rattle.documents.specs.Views.{charted}
use Rattle.documents.proofs.map.last_map_at.Goals as goal

pub returns-in_err-close-clause-told : goal.returns-in_err-close-clause-told
returns-in_err-close-clause-told c =
    let p = err_from_is_err_and c.from_residual-in_err-close.result c.from_residual-in_err-close.ensures.1 in
    let m = c.in_ok-map.map in
    let at = c.roads_at.new.from.at in
    end_bad charted (read_roads c.args.from.now.bytes.now c.args.from.now.at) (last_fault c.args.from.now.bytes.now) at c.close.new.self.at
    c.roads_at.result m (result_err c.check_last-check.result) c.close.result
    c.roads_at.ensures.told c.in_ok-map.was
    (c.check_last-check.ensures ∙ ap (λ (b : List ℕ). last_fault b (charted m) at) c.roads_at.ensures.same) c.close.ensures.value
    c.in_err-close.was p.1 p.2
