use Rattle.std.proofs.Common.{refl}
use Rattle.ways.proofs.NextPlaces.{next_places}
use Rattle.ways.proofs.next_place_laws.Goals as goal

pub returns : goal.returns
returns c = record { count = refl; next = next_places }
