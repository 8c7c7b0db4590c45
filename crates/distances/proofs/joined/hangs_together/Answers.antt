use Rattle.distances.proofs.LowestApart.{together_is}
use Rattle.maps.specs.Charts.{chart}
use Rattle.distances.proofs.joined.hangs_together.Goals as goal

pub returns : goal.returns
returns c = together_is (chart c.args.map.now) c.unreached.result c.is_none.result c.is_none.ensures c.unreached.ensures.lowest
