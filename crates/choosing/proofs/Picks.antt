-- Looking for the best place, one after the other: what holds on the way. Assumes nothing.
use Rattle.std.proofs.Common.{◌≡◌, ℕ, ◌+◌, ◌<◌, ◌≤◌, min, ltb, Bool, true, false, List, get_or, Some, None, Option, sym, refl, ap, ◌∙◌, add-one, arith}
use Rattle.std.proofs.lemmas.Bool.{both_ways, lt-ltb, le-ltb, ltb-true, ltb-false}
use Rattle.std.specs.Option.{MatchOption}
use Rattle.ways.specs.Map.{Map}
use Rattle.ways.specs.Ways.{count_below}
use Rattle.landmarks.specs.Landmarks.{Marks, marks_in}
use Rattle.choosing.specs.Choosing.{above, with_mark, NoPlace, Place, or_better, best}
use Rattle.choosing.specs.Tables.{Aways}
use Rattle.choosing.specs.Turns.{read_best, Open}
use Rattle.choosing.specs.declared.turn.Best.{Best}

-- x is fewer lines than those of the best so far, if any; and is no fewer
abbrev pub Fewer : ℕ → Option Best → Type 0
Fewer x None = Unit {0}
Fewer x (Some b) = x < b.lines

abbrev pub NoFewer : ℕ → Option Best → Type 0
NoFewer x None = ⊥
NoFewer x (Some b) = b.lines ≤ x

-- what a test of the best so far says
pub fewer : (o : Option Best) (x : ℕ) (r : Bool) → MatchOption o (r ≡ true) (λ b. r ≡ ltb x b.lines) → r ≡ true → Fewer x o
fewer None x r h t = tt
fewer (Some b) x r h t = ltb-true x b.lines (sym h ∙ t)

pub no_fewer : (o : Option Best) (x : ℕ) (r : Bool) → MatchOption o (r ≡ true) (λ b. r ≡ ltb x b.lines) → r ≡ false → NoFewer x o
no_fewer None x r h f = both_ways r f h
no_fewer (Some b) x r h f = ltb-false x b.lines (sym h ∙ f)

-- the same of a bound
pub no_fewer_bound : (o : Option Best) (most total x : ℕ) (r : Bool) → MatchOption o (r ≡ true) (λ b. r ≡ ltb most (min (b.lines + total) 4294967295)) → r ≡ false → most < 4294967295 → most ≤ x + total → NoFewer x o
no_fewer_bound None most total x r h f fits b = both_ways r f h
no_fewer_bound (Some o) most total x r h f fits b = omega (arith, ltb-false most (min (o.lines + total) 4294967295) (sym h ∙ f))

pub open_more : (marks : List Bool) (i : ℕ) (o : Option Best) → Open marks i o → Open marks (i + 1) o
open_more marks i None h = h
open_more marks i (Some b) h = (omega arith, h.1)

pub best_none : (z : Map) (room : ℕ) (l : Marks) → best z room l 0 ≡ NoPlace
unfolding best
best_none z room l = refl

pub best_mark : (z : Map) (room : ℕ) (l : Marks) (i : ℕ) → l i ≡ true → best z room l (i + 1) ≡ best z room l i
unfolding best
best_mark z room l i t = rw (add-one, t) refl

best_open : (z : Map) (room : ℕ) (l : Marks) (i : ℕ) → l i ≡ false → best z room l (i + 1) ≡ or_better i (above z room (with_mark i l)) (best z room l i)
unfolding best
best_open z room l i f = rw (add-one, f) refl

takes : (o : Option Best) (i x : ℕ) → Fewer x o → or_better i x (read_best o) ≡ Place i x
takes None i x h = refl
takes (Some b) i x h = rw (lt-ltb x b.lines h) refl

stays : (o : Option Best) (i x : ℕ) → NoFewer x o → or_better i x (read_best o) ≡ read_best o
stays None i x h = absurd h
stays (Some b) i x h = rw (le-ltb x b.lines h) refl

-- what the next place makes of the best so far: it takes its place, or leaves it
pub best_takes : (z : Map) (room : ℕ) (l : Marks) (i : ℕ) (o : Option Best) (x : ℕ) → l i ≡ false → x ≡ above z room (with_mark i l) → best z room l i ≡ read_best o → Fewer x o → best z room l (i + 1) ≡ Place i x
best_takes z room l i o x f e b h = best_open z room l i f ∙ ap (λ w. or_better i w (best z room l i)) (sym e) ∙ ap (or_better i x) b ∙ takes o i x h

pub best_stays : (z : Map) (room : ℕ) (l : Marks) (i : ℕ) (o : Option Best) (x : ℕ) → l i ≡ false → x ≡ above z room (with_mark i l) → best z room l i ≡ read_best o → NoFewer x o → best z room l (i + 1) ≡ read_best o
best_stays z room l i o x f e b h = best_open z room l i f ∙ ap (λ w. or_better i w (best z room l i)) (sym e) ∙ ap (or_better i x) b ∙ stays o i x h

-- a place that needs no judging: it can't be better
pub best_keeps : (z : Map) (room : ℕ) (l : Marks) (i d y : ℕ) → l i ≡ false → best z room l i ≡ Place d y → y ≤ above z room (with_mark i l) → best z room l (i + 1) ≡ Place d y
best_keeps z room l i d y f b h = best_open z room l i f ∙ ap (or_better i (above z room (with_mark i l))) b ∙ rw (le-ltb (above z room (with_mark i l)) y h) refl

-- ---- the loop over places
pub record Picking (n : ℕ) (table : List ℕ) (marks : List Bool) (away : List ℕ) (count room i : ℕ) (found : Option Best) : Type 0 where
  pub so_far : (z : Map) → Aways z (marks_in marks) n table away → count_below n (marks_in marks) ≡ count → best z room (marks_in marks) i ≡ read_best found
  pub unmarked : Open marks i found

pub picking_start : (n : ℕ) (table : List ℕ) (marks : List Bool) (away : List ℕ) (count room : ℕ) → Picking n table marks away count room 0 None
picking_start n table marks away count room = record { so_far = λ z a k. best_none z room (marks_in marks); unmarked = tt }

module _ (n : ℕ) (table : List ℕ) (marks : List Bool) (away : List ℕ) (count room i : ℕ) (found : Option Best) (p : Picking n table marks away count room i found) where
  pub picking_mark : get_or marks i false ≡ true → Picking n table marks away count room (i + 1) found
  picking_mark t = record { so_far = λ z a k. best_mark z room (marks_in marks) i t ∙ p.so_far z a k; unmarked = open_more marks i found p.unmarked }

  module _ (f : get_or marks i false ≡ false) where
    module _ (x : ℕ) (is : (z : Map) (l : Marks) → Aways z l n table away → count_below n l ≡ count → l i ≡ false → x ≡ above z room (with_mark i l)) where
      pub picking_takes : Fewer x found → Picking n table marks away count room (i + 1) (Some (record { place = i; lines = x }))
      picking_takes h = record { so_far = λ z a k. best_takes z room (marks_in marks) i found x f (is z (marks_in marks) a k f) (p.so_far z a k) h; unmarked = (omega arith, f) }

    -- a place that leaves no fewer lines, whether it was judged or not
    pub picking_stays : ((z : Map) → Aways z (marks_in marks) n table away → count_below n (marks_in marks) ≡ count → NoFewer (above z room (with_mark i (marks_in marks))) found) → Picking n table marks away count room (i + 1) found
    picking_stays h = record { so_far = λ z a k. best_stays z room (marks_in marks) i found (above z room (with_mark i (marks_in marks))) f refl (p.so_far z a k) (h z a k); unmarked = open_more marks i found p.unmarked }
