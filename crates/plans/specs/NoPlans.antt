-- Why there is no plan: the fault of each reason, and what choosing says as one. Assumes nothing.
use Rattle.choosing.specs.declared.kinds.Unchosen.{Unchosen}
use Rattle.choosing.specs.declared.kinds.Unchosen.TheVariants.{Apart as Apart₀, Crowded as Crowded₀, Memory as Memory₀}
use Rattle.maps.specs.declared.kinds.Fault.{Fault}
use Rattle.maps.specs.declared.kinds.Fault.TheVariants.{Apart as ApartFault, Memory as MemoryFault, Range as RangeFault, Room as RoomFault}
use Rattle.plans.specs.declared.kinds.NoPlan.{NoPlan}
use Rattle.plans.specs.declared.kinds.NoPlan.TheVariants.{Apart, Crowded, Memory, Range}

abbrev pub no_plan_fault : NoPlan → Fault
no_plan_fault Range = RangeFault
no_plan_fault (Apart a) = ApartFault
no_plan_fault (Crowded crowd) = RoomFault
no_plan_fault Memory = MemoryFault

abbrev pub unchosen_as : Unchosen → NoPlan
unchosen_as (Apart₀ a) = Apart a
unchosen_as (Crowded₀ crowd) = Crowded crowd
unchosen_as Memory₀ = Memory
