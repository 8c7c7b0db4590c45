-- The turns of the loop that chooses: what holds of the landmarks so far, and what it ends with. Assumes nothing.
use Rattle.std.proofs.Common.{◌≡◌, ℕ, suc, ◌+◌, ◌-◌, ◌<◌, ◌≤◌, min, Bool, true, false, ◌||◌, eqb, List, length, get_or, set, replicate, Some, None, sym, refl, ap, ◌∙◌, subst, inl, inr, arith, get_or-set_other, get_or-set_same}
use mathlib.Core.Path.{fun_ext}
use Rattle.std.proofs.lemmas.List.{get_or-replicate, length-replicate, get_or_past}
use Rattle.std.proofs.lemmas.Bool.{cases_lt, cases_eq, eq-eqb, ne_eqb, or_left}
use Rattle.ways.specs.Map.{Map}
use Rattle.ways.specs.Ways.{count_below}
use Rattle.landmarks.specs.Landmarks.{Marks, marks_in, line_count}
use Rattle.choosing.specs.Choosing.{above, with_mark, NoRoom, Marked, go_on, choose, chosen, first}
use Rattle.choosing.specs.Chosen.{Crowding, Fullest}
use Rattle.choosing.specs.Tables.{apart, Table, Aways, Nears, over_below}
use Rattle.choosing.specs.Turns.{Picked}
use Rattle.choosing.specs.declared.kinds.Crowd.{Crowd}
use Rattle.choosing.proofs.RuleLaws.{with_count, choose_done, choose_full, choose_on}
use Rattle.choosing.proofs.Sums.{count_one}
use Rattle.choosing.proofs.Tabled.{over_nears, lines_now, aways_more, aways_first}

-- the landmarks so far, how far each place is from its own, how many there are, and that the rule goes on from them
pub record Choosing (z : Map) (room n : ℕ) (table : List ℕ) (marks : List Bool) (away : List ℕ) (count : ℕ) : Type 0 where
  pub aways : Aways z (marks_in marks) n table away
  pub counts : count_below n (marks_in marks) ≡ count
  pub rest : chosen z room ≡ choose (room + 3 - count) z room (marks_in marks)

marks_with : (marks : List Bool) (c : ℕ) → c < length marks → marks_in (set marks c true) ≡ with_mark c (marks_in marks)
marks_with marks c h = fun_ext (λ v. elim (cases_eq v c) [
  | inl e ↦ subst (λ y. get_or (set marks c true) y false ≡ (eqb y c || get_or marks y false)) (sym e) (get_or-set_same marks c true false h ∙ sym (or_left (eqb c c) (get_or marks c false) (eq-eqb c c refl)))
  | inr ne ↦ get_or-set_other marks c v true false ne ∙ ap (λ b. b || get_or marks v false) (sym (ne_eqb v c ne))
])

-- ---- the start
rep_false : (m v : ℕ) → get_or (replicate m false) v false ≡ false
rep_false m v = elim (cases_lt v m) [ inl h ↦ get_or-replicate m v false false h | inr h ↦ get_or_past (replicate m false) v false (omega (arith, length-replicate m false)) ]

pub marks_first : (m : ℕ) (marks : List Bool) → 0 < m → marks ≡ replicate m false → (v : ℕ) → get_or (set marks 0 true) v false ≡ first v
marks_first m marks h e v =
    let ln : length marks ≡ m = ap length e ∙ length-replicate m false in
    elim (cases_eq v 0) [
      | inl q ↦ subst (λ y. get_or (set marks 0 true) y false ≡ eqb y 0) (sym q) (get_or-set_same marks 0 true false (omega arith))
      | inr ne ↦ get_or-set_other marks 0 v true false ne ∙ ap (λ (xs : List Bool). get_or xs v false) e ∙ rep_false m v ∙ sym (ne_eqb v 0 ne)
    ]

pub turn_start : (z : Map) (room n : ℕ) (table : List ℕ) (marks : List Bool) (away : List ℕ) → Table z n table → 0 < n → ((v : ℕ) → marks_in marks v ≡ first v)
    → ((v : ℕ) → v < n → get_or away v 0 ≡ apart n table 0 v) → Choosing z room n table marks away 1
turn_start z room n table marks away t zn ms h =
    let e : first ≡ marks_in marks = fun_ext (λ v. sym (ms v)) in
    let k : suc (suc room) ≡ room + 3 - 1 = omega arith in
    record {
      aways = subst (λ (l : Marks). Aways z l n table away) e (aways_first z n table away t zn h);
      counts = subst (λ (l : Marks). count_below n l ≡ 1) e (count_one n 0 zn);
      rest = ap (λ j. choose j z room first) k ∙ ap (choose (room + 3 - 1) z room) e;
    }

module _ (z : Map) (room n : ℕ) (table : List ℕ) (marks : List Bool) (away : List ℕ) (count : ℕ) (g : Choosing z room n table marks away count) (le : count ≤ room + 1) (near : List ℕ) (ns : Nears n table away near) where
  -- a turn is left
  fuel : (k : ℕ) × (room + 3 - count ≡ suc k) × (k ≡ room + 3 - (count + 1))
  fuel = (room + 2 - count, omega arith, omega arith)

  goes : chosen z room ≡ choose (suc fuel.0) z room (marks_in marks)
  goes = g.rest ∙ ap (λ k. choose k z room (marks_in marks)) fuel.1

  pub turn_done : over_below near count room n ≡ 0 → chosen z room ≡ Marked (marks_in marks)
  turn_done h = goes ∙ choose_done fuel.0 z room (marks_in marks) (sym (over_nears z (marks_in marks) n table away g.aways near ns room count g.counts) ∙ h)

  module _ (some : over_below near count room n ≡ 0 → ⊥) where
    still : above z room (marks_in marks) ≡ 0 → ⊥
    still h = some (over_nears z (marks_in marks) n table away g.aways near ns room count g.counts ∙ h)

    count_there : count_below z.n (marks_in marks) ≡ count
    count_there = ap (λ m. count_below m (marks_in marks)) g.aways.tabled.places ∙ g.counts

    pub turn_full : room < count → chosen z room ≡ NoRoom (marks_in marks)
    turn_full h = goes ∙ choose_full fuel.0 z room (marks_in marks) still (omega (arith, count_there))

    pub turn_none : count ≤ room → Picked z room (marks_in marks) None → chosen z room ≡ NoRoom (marks_in marks)
    turn_none h p = goes ∙ choose_on fuel.0 z room (marks_in marks) still (omega (arith, count_there)) ∙ ap (go_on (choose fuel.0 z room) (marks_in marks)) p

    pub turn_on : (c x : ℕ) (after : List ℕ) → count ≤ room → Picked z room (marks_in marks) (Some (record { place = c; lines = x })) → c < n → c < length marks → get_or marks c false ≡ false
        → ((v : ℕ) → v < n → get_or after v 0 ≡ min (get_or away v 0) (apart n table c v)) → Choosing z room n table (set marks c true) after (count + 1)
    turn_on c x after h p cn cl f0 af =
        let e : with_mark c (marks_in marks) ≡ marks_in (set marks c true) = sym (marks_with marks c cl) in
        let zn = g.aways.tabled.places in
        let w : count_below n (with_mark c (marks_in marks)) ≡ count + 1 = subst (λ m. count_below m (with_mark c (marks_in marks)) ≡ count_below m (marks_in marks) + 1) zn (with_count z (marks_in marks) c (omega arith) f0) ∙ ap (λ y. y + 1) g.counts in
        record {
          aways = subst (λ (l : Marks). Aways z l n table after) e (aways_more z (marks_in marks) n table away g.aways c after cn af);
          counts = subst (λ (l : Marks). count_below n l ≡ count + 1) e w;
          rest = goes ∙ choose_on fuel.0 z room (marks_in marks) still (omega (arith, count_there)) ∙ ap (go_on (choose fuel.0 z room) (marks_in marks)) p
              ∙ ap (λ k. choose k z room (with_mark c (marks_in marks))) fuel.2 ∙ ap (choose (room + 3 - (count + 1)) z room) e;
        }

    -- the post that most places are near has most lines
    pub turn_crowd : (crowd : Crowd) → length near ≡ n → Fullest near count crowd → Crowding z (marks_in marks) crowd
    turn_crowd crowd ln f =
        let zn = g.aways.tabled.places in
        let pn : crowd.post < n = omega (arith, f.there) in
        let lines : (u : ℕ) → u < n → line_count z (marks_in marks) u + 1 ≡ count + get_or near u 0 = λ u un. lines_now z (marks_in marks) n table away g.aways count g.counts u un ∙ ap (λ x. count + x) (sym (ns u un)) in
        record {
          there = omega (arith, pn);
          lines = omega (arith, lines crowd.post pn, f.lines);
          most = λ u un. omega (arith, lines crowd.post pn, lines u (omega arith), f.most u (omega arith));
          lowest = λ u h. omega (arith, lines crowd.post pn, lines u (omega arith), f.lowest u h);
          landmarks = f.landmarks ∙ sym count_there;
        }
