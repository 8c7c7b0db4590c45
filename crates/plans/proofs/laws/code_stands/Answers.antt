use Rattle.std.proofs.Common.{refl}
use Rattle.plans.proofs.Coded.{signposts}
use Rattle.plans.proofs.laws.code_stands.Goals as goal

pub returns : goal.returns
returns c = record { count = refl; code = signposts }
