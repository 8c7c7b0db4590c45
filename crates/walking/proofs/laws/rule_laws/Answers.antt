use Rattle.std.proofs.Common.{refl}
use Rattle.walking.proofs.Following.{followed_arrives, no_ring}
use Rattle.walking.proofs.Arriving.{arrived_followed, walks_ways}
use Rattle.walking.proofs.laws.rule_laws.Goals as goal

pub returns : goal.returns
returns c = record { count = refl; arrives = followed_arrives; followed = arrived_followed; ring = no_ring; ways = walks_ways }
