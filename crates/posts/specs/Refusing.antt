-- The fault that a refused line stands for. Assumes nothing.
use Rattle.maps.specs.declared.kinds.Fault.{Fault}
use Rattle.maps.specs.declared.kinds.Fault.TheVariants.{Order as Unordered, Room}
use Rattle.posts.specs.declared.kinds.Refused.{Refused}
use Rattle.posts.specs.declared.kinds.Refused.TheVariants.{Full, Order}

abbrev pub refused_as : Refused → Fault
refused_as Full = Room
refused_as Order = Unordered
