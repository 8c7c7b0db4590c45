use Rattle.std.proofs.Common.{◌≡◌, ℕ, ◌+◌, ◌<◌, List, length, get_or, set, replicate, sym, refl, ap, ◌∙◌, subst, arith}
use Rattle.maps.specs.Charts.{chart}
use Rattle.maps.proofs.Views.{view_arcs}
use Rattle.distances.specs.Keys.{key_of, Moved}
use Rattle.distances.proofs.Ordering.{Ordering}
use Rattle.distances.proofs.OrdersOf.{noting_more}
use Rattle.distances.proofs.Searching.{none, settled, Searching, searching_start, order_start}
use Rattle.distances.proofs.Turns.{turn_places, turn_place, turn_more, turn_ordered, turn_less, turn_end, turn_sorted}
use Rattle.distances.proofs.target.Target.distances.Goals as goal

pub loop-u-init : goal.loop-u-init
loop-u-init g c =
    let t = c.args.self.now in
    let n = t.map.n in
    let e : c.fill.new.self ≡ replicate n none = c.fill.ensures.after (λ y e. e) ∙ ap (λ k. replicate k none) c.requires.dists in
    let moved : Moved n c.args.queue.now.keys c.put.new.self.keys t.place (key_of 0 t.place) = subst (λ k. Moved k c.args.queue.now.keys c.put.new.self.keys t.place (key_of 0 t.place)) c.requires.size c.put.ensures.moved in
    record {
      size = c.put.ensures.size ∙ c.requires.size;
      searching = subst (λ (xs : List ℕ). Searching (chart t.map) n t.place (set xs t.place 0) c.put.new.self.keys) (sym e)
          (searching_start (chart t.map) n t.place refl (view_arcs t.map).few t.there c.args.queue.now.keys c.put.new.self.keys moved c.requires.idle);
      noting = λ xs h l. (
        xs,
        h,
        record {
          long = refl;
          rest = λ j m. refl;
          order = subst (λ (ds : List ℕ). Ordering n (λ a. get_or (set ds t.place 0) a 0) (settled n (set ds t.place 0) c.put.new.self.keys) (λ j. get_or xs (c.args.from + j) 0) 0) (sym e)
              (order_start (chart t.map) n t.place refl (view_arcs t.map).few t.there c.args.queue.now.keys c.put.new.self.keys moved c.requires.idle (λ j. get_or xs (c.args.from + j) 0));
        },
      );
      few = omega arith;
    }

pub note-requires : goal.note-requires
note-requires g c =
    let t = c.args.self.now in
    let i = c.loop-u.invariant in
    let r = c.requires.room in
    let o = i.noting r.0 r.1 r.2 in
    (o.0, o.1, omega (arith, r.2, o.2.long, turn_place t.map t.place t.there c.loop-u.dist c.loop-u.queue.keys i.searching c.loop-u.queue.n i.size c.in-Some.u c.pop.new.self.keys c.in-Some.ensures.popped (λ j. get_or o.0 (c.args.from + j) 0) c.loop-u.count o.2.order))

pub follow-requires-clause-inside : goal.follow-requires-clause-inside
follow-requires-clause-inside g c =
    let t = c.args.self.now in
    let i = c.loop-u.invariant in
    let s = c.in-Some.ensures in
    λ k l. omega (arith, s.size, i.size, turn_places t.map t.place t.there c.loop-u.dist c.loop-u.queue.keys i.searching c.loop-u.queue.n i.size c.in-Some.u c.pop.new.self.keys s.popped c.arcs.result.places.now c.arcs.result.costs.now c.arcs.ensures.places c.arcs.ensures.costs k l)

pub loop-u-smaller : goal.loop-u-smaller
loop-u-smaller g c =
    let t = c.args.self.now in
    let i = c.loop-u.invariant in
    let s = c.in-Some.ensures in
    turn_less t.map t.place t.there c.loop-u.dist c.loop-u.queue.keys i.searching c.loop-u.queue.n i.size c.in-Some.u c.pop.new.self.keys s.popped c.arcs.result.places.now c.arcs.result.costs.now c.arcs.ensures.places c.arcs.ensures.costs
    c.pop.new.self.n (s.size ∙ i.size) c.follow.new.dist c.follow.new.queue.keys c.follow.ensures.followed c.follow.auto.dist

pub loop-u-preserved : goal.loop-u-preserved
loop-u-preserved g c =
    let t = c.args.self.now in
    let i = c.loop-u.invariant in
    let s = c.in-Some.ensures in
    let n = t.map.n in
    record {
      size = c.follow.ensures.size ∙ s.size ∙ i.size;
      searching = turn_more t.map t.place t.there c.loop-u.dist c.loop-u.queue.keys i.searching c.loop-u.queue.n i.size c.in-Some.u c.pop.new.self.keys s.popped c.arcs.result.places.now c.arcs.result.costs.now c.arcs.ensures.places c.arcs.ensures.costs
          c.pop.new.self.n (s.size ∙ i.size) c.follow.new.dist c.follow.new.queue.keys c.follow.ensures.followed c.follow.auto.dist;
      noting = λ xs h l.
          let o = i.noting xs h l in
          let room : c.args.from + c.loop-u.count < length o.0 = omega (arith, l, o.2.long, turn_place t.map t.place t.there c.loop-u.dist c.loop-u.queue.keys i.searching c.loop-u.queue.n i.size c.in-Some.u c.pop.new.self.keys s.popped (λ j. get_or o.0 (c.args.from + j) 0) c.loop-u.count o.2.order) in (
            set o.0 (c.args.from + c.loop-u.count) c.in-Some.u,
            c.note.ensures o.0 o.1,
            noting_more n c.args.from (λ a. get_or c.loop-u.dist a 0) (λ a. get_or c.follow.new.dist a 0) (settled n c.loop-u.dist c.loop-u.queue.keys) (settled n c.follow.new.dist c.follow.new.queue.keys) c.loop-u.count c.in-Some.u xs o.0 o.2 room
                (turn_ordered t.map t.place t.there c.loop-u.dist c.loop-u.queue.keys i.searching c.loop-u.queue.n i.size c.in-Some.u c.pop.new.self.keys s.popped c.arcs.result.places.now c.arcs.result.costs.now c.arcs.ensures.places c.arcs.ensures.costs
                c.pop.new.self.n (s.size ∙ i.size) c.follow.new.dist c.follow.new.queue.keys c.follow.ensures.followed c.follow.auto.dist),
          );
      few = (let r = c.requires.room in let o = i.noting r.0 r.1 r.2 in
          omega (arith, turn_place t.map t.place t.there c.loop-u.dist c.loop-u.queue.keys i.searching c.loop-u.queue.n i.size c.in-Some.u c.pop.new.self.keys s.popped (λ j. get_or o.0 (c.args.from + j) 0) c.loop-u.count o.2.order));
    }

pub returns-clause-far : goal.returns-clause-far
returns-clause-far g c =
    let t = c.args.self.now in
    let i = c.loop-u.invariant in
    turn_end t.map t.place t.there c.loop-u.dist c.loop-u.queue.keys i.searching c.loop-u.queue.n i.size c.pop.new.self.keys c.in_default.ensures.popped

pub returns-clause-order : goal.returns-clause-order
returns-clause-order g c =
    let t = c.args.self.now in
    let i = c.loop-u.invariant in
    λ xs h l. (let o = i.noting xs h l in (
      o.0,
      o.1,
      record {
        long = o.2.long;
        rest = o.2.rest;
        row = turn_sorted t.map t.place t.there c.loop-u.dist c.loop-u.queue.keys i.searching c.loop-u.queue.n i.size c.pop.new.self.keys c.in_default.ensures.popped (λ j. get_or o.0 (c.args.from + j) 0) c.loop-u.count o.2.order;
      },
    ))
