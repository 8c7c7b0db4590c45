use Rattle.std.proofs.Common.{refl}
use Rattle.walking.proofs.Guided.{guided_arrives, guided_thrice, wide_starts}
use Rattle.walking.proofs.laws.guided_laws.Goals as goal

pub returns : goal.returns
returns c = record { count = refl; arrives = guided_arrives; thrice = guided_thrice; starts = wide_starts }
