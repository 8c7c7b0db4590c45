use Rattle.std.proofs.Common.{◌≡◌, ℕ, ◌<◌, ◌≤◌, List, [], map, length, get_or, vec_items, ap, ◌∙◌, arith}
use Rattle.std.proofs.lemmas.List.FromFn.{fill_by_all, length-map-range_with_len}
use Rattle.std.proofs.lemmas.List.{length-map}
use Rattle.std.specs.List.{range_with_len}
use Rattle.std.proofs.lemmas.Bool.{MatchBool-at_true, MatchBool-at_false}
use Rattle.cards.specs.Cards.{card_of}
use Rattle.cards.specs.declared.kinds.Card.{Card}
use Rattle.distances.proofs.Surveyed.{ground_few}
use Rattle.landmarks.specs.Lands.{map_in, marks_of}
use Rattle.plans.specs.Plans.{Planned, marked}
use Rattle.plans.proofs.Marking.{marked_few}
use Rattle.posts.specs.Posts.{post_of, told}
use Rattle.posts.specs.declared.kinds.Line.{Line}
use Rattle.posts.specs.declared.kinds.Post.{Post}
use Rattle.posts.proofs.Finding.{post_length}
use Rattle.plans.proofs.listing.plan_of.Goals as goal

-- the parts make the plan
parts : (room : ℕ) (ls ks : List ℕ) (ps qs : List (List Line)) (cs ds : List Card) → ls ≡ ks → ps ≡ qs → cs ≡ ds
    → ◌≡◌ {A = Planned} (record { room = room; landmarks = ls; posts = ps; cards = cs }) (record { room = room; landmarks = ks; posts = qs; cards = ds })
parts room ls ks ps qs cs ds e f g =
    ap (λ (x : List ℕ). record { room = room; landmarks = x; posts = ps; cards = cs }) e
    ∙ ap (λ (x : List (List Line)). record { room = room; landmarks = ks; posts = x; cards = cs }) f
    ∙ ap (λ (x : List Card). record { room = room; landmarks = ks; posts = qs; cards = x }) g

pub returns-then-any_full : goal.returns-then-any_full
returns-then-any_full c =
    let s = c.args.land.now in
    let f = MatchBool-at_true _ _ c.if-any_full.true c.any_full.ensures in
    let w = c.in_ok-posts.ensures in
    let e = c.deref.ensures.value in
    let un : f.0 < (map_in s).n = omega (arith, f.1, c.deref.ensures.len, w.0) in
    (f.0, un, omega (arith, f.2, ap (λ (xs : List Post). length (get_or (map told xs) f.0 [])) e, ap length (w.1 f.0 un), post_length (map_in s) (marks_of s) f.0))

pub invariant_of-result : goal.invariant_of-result
invariant_of-result c =
    let s = c.args.land.now in
    let w = c.in_ok-posts.ensures in
    let few = ground_few s.survey.map in
    record {
      some = omega (arith, w.0, few.0);
      few = omega (arith, w.0, few.1);
      level = omega (arith, w.0, c.in_ok-cards.cards.ok.0, ap length c.in_ok-cards.ensures, length-map-range_with_len (card_of (map_in s) (marks_of s)) 0 (map_in s).n);
      fewer = omega (arith, w.0, c.in_ok-landmarks.landmarks.ok.0, ap length c.in_ok-landmarks.ensures, marked_few (marks_of s) (map_in s).n 0);
    }

pub returns : goal.returns
returns c =
    let s = c.args.land.now in
    let w = c.in_ok-posts.ensures in
    let ps = vec_items c.in_ok-posts.posts in
    let long : length (map told ps) ≡ (map_in s).n = omega (arith, length-map ps told, c.in_ok-posts.posts.ok.0, w.0) in
    let e = c.deref.ensures.value in
    let rest : (u : ℕ) → u < length c.deref.result.now → length (get_or (map told c.deref.result.now) u []) ≤ c.args.room = MatchBool-at_false _ _ c.if-any_full.false c.any_full.ensures in (
      parts c.args.room (vec_items c.in_ok-landmarks.landmarks) (marked (marks_of s) 0 (map_in s).n) (map told ps) (map (post_of (map_in s) (marks_of s)) (range_with_len 0 (map_in s).n))
          (vec_items c.in_ok-cards.cards) (map (card_of (map_in s) (marks_of s)) (range_with_len 0 (map_in s).n))
          c.in_ok-landmarks.ensures (fill_by_all (post_of (map_in s) (marks_of s)) (map told ps) (map_in s).n [] long w.1) c.in_ok-cards.ensures,
      λ u un. omega (
        arith,
        rest u (omega (arith, c.deref.ensures.len, w.0, un)),
        ap (λ (xs : List Post). length (get_or (map told xs) u [])) e,
        ap length (w.1 u un),
        post_length (map_in s) (marks_of s) u,
      ),
    )
