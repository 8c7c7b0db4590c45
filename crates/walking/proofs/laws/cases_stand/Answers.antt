use Rattle.std.proofs.Common.{refl}
use Rattle.walking.proofs.Worked.{cases_hold, landmarks_everywhere, nine_places, thrice_reached}
use Rattle.walking.proofs.TreesThere.{trees_there}
use Rattle.walking.proofs.laws.cases_stand.Goals as goal

pub returns : goal.returns
returns c = record { count = refl; table = cases_hold; everywhere = landmarks_everywhere; nine = nine_places; trees = trees_there; thrice = thrice_reached }
