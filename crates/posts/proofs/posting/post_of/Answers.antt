use Rattle.std.proofs.Common.{◌≡◌, ◌<◌, Err, Result, true, sym, ap, ◌∙◌, subst, arith}
use Rattle.std.proofs.lemmas.Result.{err_from_is_err_and}
use Rattle.landmarks.specs.Landmarks.{on_post}
use Rattle.landmarks.specs.Lands.{map_in, marks_of}
use Rattle.maps.specs.declared.kinds.Fault.{Fault}
use Rattle.posts.proofs.LineByLine.{lines_start}
use Rattle.posts.proofs.Turns.{turn_off, turn_on, turn_refused, within_test}
use Rattle.posts.proofs.posting.post_of.Goals as goal
use Rattle.posts.proofs.posting.post_of.Goals.{else-on_post, then-on_post+in_ok-push}
use Rattle.posts.specs.Posting.{Posted}
use Rattle.posts.specs.Posts.{told}
use Rattle.posts.specs.declared.kinds.Post.{Post}

pub loop-v-init : goal.loop-v-init
loop-v-init c = c.new-post.ensures ∙ sym (lines_start (map_in c.args.land.now) (marks_of c.args.land.now) c.args.u)

pub returns-in_err-push : goal.returns-in_err-push
returns-in_err-push c =
    let s = c.args.land.now in
    let z = map_in s in
    let un : c.args.u < z.n = omega (arith, c.len-n.ensures, c.if-u-n.false) in
    let vn : c.loop-v.v < z.n = omega (arith, c.len-n.ensures, c.loop-v-test.true) in
    let on : on_post z (marks_of s) c.args.u c.loop-v.v ≡ true = within_test z.n c.args.u c.loop-v.v _ _ un vn c.on_post.ensures ∙ c.if-on_post.true in
    let p = err_from_is_err_and c.from_residual.result c.from_residual.ensures.1 in
    subst (λ (r : Result Post Fault). Posted z (marks_of s) c.args.u r) (sym (p.1 ∙ ap (λ (f : Fault). Err f) p.2))
    (turn_refused z (marks_of s) c.args.u c.loop-v.v vn (told c.loop-v.post) c.loop-v.invariant un on c.line_of.result (told c.push.new.self) c.in_err-push.field-0.0 c.line_of.ensures c.in_err-push.ensures)

pub loop-v-preserved : goal.loop-v-preserved
loop-v-preserved c =
    let s = c.args.land.now in
    let z = map_in s in
    let un : c.args.u < z.n = omega (arith, c.len-n.ensures, c.if-u-n.false) in
    let vn : c.loop-v.v < z.n = omega (arith, c.len-n.ensures, c.loop-v-test.true) in
    let on = within_test z.n c.args.u c.loop-v.v (on_post z (marks_of s) c.args.u c.loop-v.v) c.on_post.result un vn c.on_post.ensures in
    elim c.if-on_post.branch [
      | then-on_post+in_ok-push w ↦
          ap told w.post-is ∙ turn_on z (marks_of s) c.args.u c.loop-v.v vn (told c.loop-v.post) c.loop-v.invariant w.line_of.result (told w.push.new.self) w.line_of.ensures (on ∙ w.if-on_post.true) w.in_ok-push.ensures.2
      | else-on_post w ↦
          ap told w.post-is ∙ turn_off z (marks_of s) c.args.u c.loop-v.v vn (told c.loop-v.post) c.loop-v.invariant (on ∙ w.if-on_post.false)
    ]
