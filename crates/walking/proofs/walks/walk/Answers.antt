-- The end of a walk keeps the promise. Assumes nothing.
use Rattle.maps.proofs.Views.{view_means}
use Rattle.maps.specs.Charts.{chart}
use Rattle.walking.proofs.Turns.{keeps}
use Rattle.walking.proofs.walks.walk.Goals as goal
use Rattle.walking.specs.Walks.{posts_in}

pub returns-clause-promise : goal.returns-clause-promise
returns-clause-promise c = keeps (chart c.args.map.now) (posts_in c.args.posts.now) c.args.card c.args.from c.walk_with.result (view_means c.args.map.now) c.walk_with.ensures.end
