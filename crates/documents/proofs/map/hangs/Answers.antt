-- The map that is lent is the map of the roads. Assumes nothing.
use Rattle.std.proofs.Common.{vec_items, ap, ◌∙◌}
use Rattle.ways.specs.Ways.{hangs_together}
use Rattle.maps.proofs.Views.{view_is}
use Rattle.documents.proofs.map.hangs.Goals as goal

pub returns : goal.returns
returns c =
    c.hangs_together.ensures ∙ ap hangs_together (view_is c.map.result c.args.map.now.n (vec_items c.args.map.now.roads) c.map.ensures.n c.map.ensures.same)
