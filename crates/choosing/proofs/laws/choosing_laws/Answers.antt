use Rattle.std.proofs.Common.{refl}
use Rattle.choosing.proofs.RuleLaws.{by_the_rule, rule_alone, has_room, no_room, turns_suffice, few_places, others_may_fit}
use Rattle.choosing.proofs.laws.choosing_laws.Goals as goal

pub returns : goal.returns
returns c = record { count = refl; rule = by_the_rule; alone = rule_alone; room = has_room; none = no_room; turns = turns_suffice; few = few_places; others = others_may_fit }
