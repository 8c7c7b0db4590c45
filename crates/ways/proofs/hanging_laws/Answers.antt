use Rattle.std.proofs.Common.{refl}
use Rattle.ways.proofs.Metric.{joined_by_one}
use Rattle.ways.proofs.Hanging.{hanging_together}
use Rattle.ways.proofs.hanging_laws.Goals as goal

pub returns : goal.returns
returns c = record { count = refl; one = joined_by_one; zero = hanging_together }
