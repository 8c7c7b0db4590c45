-- A search of the lines by their places, which rise. Assumes nothing.
use Rattle.std.proofs.Common.{◌≡◌, ℕ, List, get_or, Option, Some, None, MatchOption, sym, subst, ◌∙◌}
use Rattle.maps.specs.Sought.{Sought}
use Rattle.posts.specs.declared.kinds.Line.{Line}
use Rattle.posts.specs.declared.kinds.Post.{Post}
use Rattle.posts.specs.Posts.{told, find_in}
use Rattle.posts.proofs.Rising.{blank, searched}
use Rattle.posts.proofs.kinds.Post.find.Goals as goal

-- the same of lines that are lent
lent_line : (p : Post) (q s : ℕ) (lines : List Line) (r : Option ℕ) → lines ≡ told p → s ≡ q → Sought (λ (x : Line). x.place) lines s r
    → MatchOption r (find_in q (told p) ≡ None) (λ i. find_in q (told p) ≡ Some (get_or lines i blank))
lent_line p q s lines r e f h =
    subst (λ (ls : List Line). MatchOption r (find_in q (told p) ≡ None) (λ i. find_in q (told p) ≡ Some (get_or ls i blank))) (sym e)
    (searched p q r (rw f at (rw e at h)))

pub bounds-lines-at : goal.bounds-lines-at
bounds-lines-at c = let found = c.in_ok-at.was in (rw found at c.search.ensures).0

pub returns-in_err-at : goal.returns-in_err-at
returns-in_err-at c =
    let missing = c.in_err-at.was in
    c.from_residual.ensures
    ∙ sym (rw missing at (lent_line c.args.self.now c.args.place c.from.result c.lines-lines.result.now c.search.result c.lines-lines.ensures c.from.ensures c.search.ensures))

pub returns : goal.returns
returns c =
    let found = c.in_ok-at.was in
    sym (rw found at (lent_line c.args.self.now c.args.place c.from.result c.lines-lines.result.now c.search.result c.lines-lines.ensures c.from.ensures c.search.ensures))
