use Rattle.std.proofs.Common.{sym, ap, ◌∙◌, arith}
use Rattle.std.specs.Result.{result_err}
use Rattle.std.proofs.lemmas.Result.{err_from_is_err_and}
use Rattle.maps.specs.Laying.{no_road}
use Rattle.maps.proofs.RoadLists.{step_bad, size_passes}
use Rattle.maps.proofs.roads.check_roads.Goals as goal

pub returns-in_err-check : goal.returns-in_err-check
returns-in_err-check c =
    let p = err_from_is_err_and c.from_residual-in_err-check.result c.from_residual-in_err-check.ensures.1 in
    let bad = step_bad c.args.n c.loop-road.last c.args.roads.now c.loop-road.road-index no_road c.in_err-check.field-0.0 c.loop-road-test.true (sym c.check.ensures ∙ ap result_err c.in_err-check.was) in
    rw (p.1, p.2) (grind (arith, bad, size_passes))
