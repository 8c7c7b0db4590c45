use Rattle.std.proofs.Common.{refl}
use Rattle.walking.proofs.Bridges.{guided_tree}
use Rattle.walking.proofs.Promised.{tree_cheapest}
use Rattle.walking.proofs.laws.tree_laws.Goals as goal

pub returns : goal.returns
returns c = record { count = refl; guided = guided_tree; cheapest = tree_cheapest }
