use Rattle.std.proofs.Common.{refl}
use Rattle.landmarks.proofs.Near.{near_means, near_no_landmark, near_stays, near_from_landmark, near_less, lines_few}
use Rattle.landmarks.proofs.laws.near_laws.Goals as goal

pub returns : goal.returns
returns c = record { count = refl; means = near_means; landmarks = near_no_landmark; stays = near_stays; starts = near_from_landmark; less = near_less; few = lines_few }
