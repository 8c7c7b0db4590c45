use Rattle.choosing.proofs.Ordering.{closest_inside}
use Rattle.choosing.proofs.turn.Ordered.closest.Goals as goal

pub returns-clause-inside : goal.returns-clause-inside
returns-clause-inside c = closest_inside c.args.self.now c.args.v c.requires.there c.args.ball c.requires.few
