-- The loop of a walk: a road gone, the end, and the budget spent. Assumes nothing.
use Rattle.std.proofs.Common.{◌≡◌, ℕ, List, ◌+◌, ◌-◌, ◌*◌, sym, refl, ◌∙◌, subst, arith}
use Rattle.std.specs.List.{FoldsTo}
use Rattle.maps.specs.Charts.{chart}
use Rattle.maps.proofs.Views.{view_arcs, view_means}
use Rattle.walking.specs.Walks.{posts_in, step_of}
use Rattle.walking.proofs.Turns.{turn_over, turn_gone, travels_none, gone_cheap}
use Rattle.walking.proofs.Trails.{trail_ends, trail_over, trail_gone}
use Rattle.walking.proofs.walks.walk_with.Goals as goal

pub overflow_add-cost : goal.overflow_add-cost
overflow_add-cost g c =
    let z = chart c.args.map.now in
    let cheap = gone_cheap z c.loop-i.cost c.loop-i.walker.at c.in-Ok.leg (step_of (posts_in c.args.posts.now c.loop-i.walker.at) c.loop-i.walker.card c.loop-i.walker.at) (view_means c.args.map.now).cheap c.in-Ok.ensures in
    omega (arith, c.loop-i.invariant.1, cheap, (view_arcs c.args.map.now).few, c.loop-i-test.true)

pub note-requires : goal.note-requires
note-requires g c =
    let m = 2 * c.args.map.now.n in
    let e : m - c.loop-i._i ≡ (m - (c.loop-i._i + 1)) + 1 = omega (arith, c.loop-i-test.true) in
    (m - (c.loop-i._i + 1), subst (λ (k : ℕ). g.N.Notes.room c.loop-i.notes k) e c.loop-i.invariant.2)

pub loop-i-preserved : goal.loop-i-preserved
loop-i-preserved g c =
    let z = chart c.args.map.now in
    let posts = posts_in c.args.posts.now in
    let card = c.loop-i.walker.card in
    let m = 2 * c.args.map.now.n in
    let i = c.loop-i._i in
    let at = c.loop-i.walker.at in
    let leg = c.in-Ok.leg in
    let cheap = gone_cheap z c.loop-i.cost at leg (step_of (posts at) card at) (view_means c.args.map.now).cheap c.in-Ok.ensures in
    let e : m - i ≡ (m - (i + 1)) + 1 = omega (arith, c.loop-i-test.true) in (
      turn_gone z posts card m i c.loop-i.cost at c.loop-i-test.true leg c.in-Ok.ensures ∙ c.loop-i.invariant.0,
      omega (arith, c.loop-i.invariant.1, cheap),
      g.met.N.Notes.leaves c.loop-i.notes c.note.new.self leg.place (m - (i + 1)) (subst (λ (k : ℕ). g.N.Notes.room c.loop-i.notes k) e c.loop-i.invariant.2) c.note.ensures,
      λ last rest. c.loop-i.invariant.3 last
          (subst (λ (places : List ℕ). FoldsTo g.N.Notes.noted c.loop-i.notes places last) (sym (trail_gone z posts card m i c.loop-i.cost at c.loop-i-test.true leg c.in-Ok.ensures)) (c.note.new.self, c.note.ensures, rest)),
    )

pub returns-in-Err : goal.returns-in-Err
returns-in-Err g c =
    let z = chart c.args.map.now in
    let posts = posts_in c.args.posts.now in
    let m = 2 * c.args.map.now.n in
    let none = trail_over z posts c.loop-i.walker.card m c.loop-i._i c.loop-i.cost c.loop-i.walker.at c.loop-i-test.true c.in-Err.end c.in-Err.ensures in
    record {
      end = turn_over z posts c.loop-i.walker.card m c.loop-i._i c.loop-i.cost c.loop-i.walker.at c.loop-i-test.true c.in-Err.end c.in-Err.ensures ∙ c.loop-i.invariant.0;
      noted = c.loop-i.invariant.3 c.loop-i.notes (subst (λ (places : List ℕ). FoldsTo g.N.Notes.noted c.loop-i.notes places c.loop-i.notes) (sym none) refl);
    }

pub returns : goal.returns
returns g c =
    let z = chart c.args.map.now in
    let posts = posts_in c.args.posts.now in
    let m = 2 * c.args.map.now.n in
    let spent : m - c.loop-i._i ≡ 0 = omega (arith, c.loop-i-test.false) in
    let none = trail_ends (m - c.loop-i._i) z posts c.loop-i.walker.card c.loop-i.walker.at spent in
    record {
      end = sym (travels_none (m - c.loop-i._i) z posts c.loop-i.walker.card c.loop-i.cost c.loop-i.walker.at spent) ∙ c.loop-i.invariant.0;
      noted = c.loop-i.invariant.3 c.loop-i.notes (subst (λ (places : List ℕ). FoldsTo g.N.Notes.noted c.loop-i.notes places c.loop-i.notes) (sym none) refl);
    }
