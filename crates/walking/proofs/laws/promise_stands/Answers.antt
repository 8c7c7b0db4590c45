use Rattle.std.proofs.Common.{refl}
use Rattle.walking.proofs.Promised.{promise}
use Rattle.walking.proofs.laws.promise_stands.Goals as goal

pub returns : goal.returns
returns c = record { most = refl; promise = promise }
