-- The last line decides, since the places rise; the line set right after it is the one line more. Assumes nothing.
use Rattle.std.proofs.Common.{◌<◌, length, arith, rules, tests}
use Rattle.std.proofs.lemmas.List.{take_more_set}
use Rattle.posts.proofs.Rising.{told_length, last_below}
use Rattle.posts.proofs.kinds.Post.push.Goals as goal

pub returns : goal.returns
returns c =
    let p = c.args.self.now in
    let said = c.if-is_some_and.ensures in
    let h : p.count < length p.lines = omega arith in (
      omega (arith, told_length p),
      last_below p c.args.line.place c.last.result (rw c.lines.ensures at c.last.ensures.value) (λ x e. let t = rw e at said in search (rules, tests)),
      take_more_set p.lines p.count c.args.line h,
    )
