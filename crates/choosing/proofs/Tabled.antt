-- From lists to the rule: what the lists say of lines above room, and of one landmark more. Assumes nothing.
use Rattle.std.proofs.Common.{◌≡◌, ℕ, ◌+◌, ◌-◌, ◌<◌, min, false, ltb, List, get_or, sym, ap, ◌∙◌, subst, arith}
use Rattle.ways.specs.Map.{Map, At, far}
use Rattle.ways.specs.Ways.{count_below}
use Rattle.landmarks.specs.Landmarks.{Marks, line_count}
use Rattle.choosing.specs.Choosing.{sum_below, above, with_mark, first}
use Rattle.choosing.specs.Tables.{apart, Table, Aways, Nears, near_to, over_below}
use Rattle.choosing.proofs.Lines.{Away, away_of_lem, away_first, away_more, away_from, lines, over_is}
use Rattle.choosing.proofs.RuleLaws.{with_count}
use Rattle.choosing.proofs.Sums.{sum_same}

-- lines above room, by the table
abbrev pub over_table : ℕ → List ℕ → List ℕ → ℕ → ℕ → ℕ
over_table n table away count room = sum_below n (λ u. (count + near_to n table away u) - (room + 1))

module _ (z : Map) (l : Marks) (n : ℕ) (table away : List ℕ) (a : Aways z l n table away) where
  far_of : (v u : ℕ) → v < z.n → u < z.n → far z v u ≡ At (apart n table v u)
  far_of v u p q = let e = a.tabled.places in a.tabled.is v u (omega arith) (omega arith)

  both_of : (v u : ℕ) → v < z.n → u < z.n → apart n table v u ≡ apart n table u v
  both_of v u p q = let e = a.tabled.places in a.tabled.both v u (omega arith) (omega arith)

  way : (v : ℕ) → v < z.n → Away z l v (get_or away v 0)
  way v vn = let e = a.tabled.places in away_from z l v (get_or away v 0) (λ j jn. (apart n table v j, far_of v j vn jn)) (a.aways v (omega arith))

  -- the lines of a post, as the code counts them
  pub lines_now : (count : ℕ) → count_below n l ≡ count → (u : ℕ) → u < n → line_count z l u + 1 ≡ count + near_to n table away u
  lines_now count h u un =
      let e = a.tabled.places in
      let g = lines z (apart n table) far_of both_of l (λ v. get_or away v 0) way u (omega arith) in
      let k = subst (λ m. line_count z l u + 1 ≡ count_below m l + count_below m (λ v. ltb (apart n table u v) (get_or away v 0))) e g in
      omega (arith, h)

  -- lines above room, as the code counts them
  pub over_now : (room count : ℕ) → count_below n l ≡ count → over_table n table away count room ≡ above z room l
  over_now room count h =
      let e = a.tabled.places in
      let g = over_is z (apart n table) far_of both_of l (λ v. get_or away v 0) way room in
      let k = subst (λ m. above z room l ≡ sum_below m (λ u. (count_below m l + count_below m (λ v. ltb (apart n table u v) (get_or away v 0))) - (room + 1))) e g in
      sym (subst (λ x. above z room l ≡ sum_below n (λ u. (x + count_below n (λ v. ltb (apart n table u v) (get_or away v 0))) - (room + 1))) h k)

  -- the same, where a list has what is near
  pub over_nears : (near : List ℕ) → Nears n table away near → (room count : ℕ) → count_below n l ≡ count → over_below near count room n ≡ above z room l
  over_nears near ns room count h =
      sum_same n (λ u. (count + get_or near u 0) - (room + 1)) (λ u. (count + near_to n table away u) - (room + 1)) (λ u un. omega (arith, ns u un)) ∙ over_now room count h

  pub aways_more : (c : ℕ) (after : List ℕ) → c < n → ((v : ℕ) → v < n → get_or after v 0 ≡ min (get_or away v 0) (apart n table c v)) → Aways z (with_mark c l) n table after
  aways_more c after cn h = record {
    tabled = a.tabled;
    aways = λ v vn. (let e = a.tabled.places in
        let w = away_of_lem z (with_mark c l) v (min (get_or away v 0) (apart n table v c)) (away_more z l v (get_or away v 0) c (apart n table v c) (way v (omega arith)) (omega arith) (far_of v c (omega arith) (omega arith))) in
        w ∙ ap (λ x. At (min (get_or away v 0) x)) (a.tabled.both v c vn cn) ∙ ap At (sym (h v vn)));
  }

-- judging one place
pub judged : (z : Map) (l : Marks) (n : ℕ) (table away after : List ℕ) (count room c : ℕ) → Aways z l n table away → count_below n l ≡ count → l c ≡ false → c < n
    → ((v : ℕ) → v < n → get_or after v 0 ≡ min (get_or away v 0) (apart n table c v)) → over_table n table after (count + 1) room ≡ above z room (with_mark c l)
judged z l n table away after count room c a k f cn h =
    let e = a.tabled.places in
    let w = with_count z l c (omega arith) f in
    let x : count_below n (with_mark c l) ≡ count + 1 = subst (λ m. count_below m (with_mark c l) ≡ count_below m l + 1) e w ∙ ap (λ y. y + 1) k in
    over_now z (with_mark c l) n table after (aways_more z l n table away a c after cn h) room (count + 1) x

-- place 0 alone
pub aways_first : (z : Map) (n : ℕ) (table away : List ℕ) → Table z n table → 0 < n → ((v : ℕ) → v < n → get_or away v 0 ≡ apart n table 0 v) → Aways z first n table away
aways_first z n table away t zn h = record {
  tabled = t;
  aways = λ v vn. (let p = t.places in
      away_of_lem z first v (get_or away v 0) (away_first z v (get_or away v 0) (omega arith) (t.is v 0 vn zn ∙ ap At (t.both v 0 vn zn ∙ sym (h v vn)))));
}
