-- The middle is the one that is found, or half of the list is done with. Assumes nothing.
use Rattle.std.proofs.Common.{◌≡◌, ◌<◌, sym, ◌∙◌, arith}
use Rattle.std.proofs.lemmas.List.Elements.{at_read}
use Rattle.maps.proofs.Halves.{halved_whole, halved_low, halved_high, halved_none}
use Rattle.maps.proofs.placed.search.Goals.{else-low-high-via-then-low-high+else-place, else-low-high-via-else-low-high}
use Rattle.maps.proofs.placed.search.Goals as goal

pub loop-high-init : goal.loop-high-init
loop-high-init g c = (omega arith, omega arith, halved_whole g.T.Placed.stands c.args.items.now c.args.place)

pub returns-then-here-place : goal.returns-then-here-place
returns-then-here-place g c = (
  omega arith,
  at_read c.args.items.now (λ y. g.T.Placed.stands y ≡ c.args.place) _ c.index-items-middle.result (omega arith) c.index-items-middle.is
      (sym c.place-here.ensures ∙ c.if-here-place.true),
)

pub loop-high-preserved-then-here-place-2 : goal.loop-high-preserved-then-here-place-2
loop-high-preserved-then-here-place-2 g c = (
  omega arith,
  omega arith,
  halved_low g.T.Placed.stands c.args.items.now c.args.place c.loop-high.low c.loop-high.high _ (omega arith) c.loop-high.invariant.2
      (at_read c.args.items.now (λ y. g.T.Placed.stands y < c.args.place) _ c.index-items-middle.result (omega arith) c.index-items-middle.is
      (omega (arith, c.place-here.ensures, c.if-here-place-2.true))),
)

pub loop-high-preserved : goal.loop-high-preserved
loop-high-preserved g c = (
  omega arith,
  omega arith,
  halved_high g.T.Placed.stands c.args.items.now c.args.place c.loop-high.low c.loop-high.high _ c.loop-high.invariant.2
      (at_read c.args.items.now (λ y. c.args.place < g.T.Placed.stands y) _ c.index-items-middle.result (omega arith) c.index-items-middle.is
      (omega (arith, c.place-here.ensures, c.if-here-place.false, c.if-here-place-2.false))),
)

pub returns-then-place : goal.returns-then-place
returns-then-place g c = (
  omega arith,
  at_read c.args.items.now (λ y. g.T.Placed.stands y ≡ c.args.place) _ c.index-items-low.result (omega arith) c.index-items-low.is
      (sym c.place.ensures ∙ c.if-place.true),
)

pub returns : goal.returns
returns g c =
    halved_none g.T.Placed.stands c.args.items.now c.args.place c.loop-high.low c.loop-high.high (omega arith)
    (λ l. elim c.else-low-high.branch [
      | else-low-high-via-then-low-high+else-place w ↦
          at_read c.args.items.now (λ y. g.T.Placed.stands y ≡ c.args.place → ⊥) _ w.index-items-low.result (omega arith) w.index-items-low.is
          (λ e. w.if-place.false (w.place.ensures ∙ e))
      | else-low-high-via-else-low-high w ↦ absurd (omega (arith, w.if-low-high.false))
    ])
    c.loop-high.invariant.2
