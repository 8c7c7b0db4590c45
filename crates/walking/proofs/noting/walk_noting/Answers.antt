-- The end of a walk keeps the promise, and what is noted is its trail. Assumes nothing.
use Rattle.std.proofs.Common.{◌++◌, ap, ◌∙◌}
use Rattle.maps.proofs.Views.{view_means}
use Rattle.maps.specs.Charts.{chart}
use Rattle.walking.proofs.Trails.{noted_all, passes}
use Rattle.walking.proofs.Turns.{keeps}
use Rattle.walking.proofs.noting.walk_noting.Goals as goal
use Rattle.walking.specs.Walks.{posts_in, trail_of}

pub returns : goal.returns
returns c =
    let z = chart c.args.map.now in
    let posts = posts_in c.args.posts.now in
    let end = c.walk_with.result in
    record {
      end = c.walk_with.ensures.end;
      promise = keeps z posts c.args.card c.args.from end (view_means c.args.map.now) c.walk_with.ensures.end;
      way = passes z posts c.args.card c.args.from end c.walk_with.ensures.end;
      passed = noted_all (trail_of z posts c.args.card c.args.from) _ _ c.walk_with.ensures.noted ∙ ap (λ xs. xs ++ trail_of z posts c.args.card c.args.from) c.reserve.ensures.items;
    }
