-- The laws of the rule by which landmarks are chosen. Assumes nothing.
use Rattle.std.proofs.Common.{◌≡◌, ℕ, zero, suc, ◌+◌, ◌-◌, ◌<◌, ◌≤◌, Bool, true, false, cond, ◌||◌, eqb, ltb, sym, refl, ap, ◌∙◌, subst, inl, inr, arith}
use Rattle.std.proofs.lemmas.Bool.{cases_lt, cases_eq, cases_Bool, both_ways, eq-eqb, ne_eqb, lt-ltb, le-ltb, or_left, or_right}
use Rattle.ways.specs.Map.{Map, within, lowest}
use Rattle.ways.specs.Ways.{count_below}
use Rattle.ways.proofs.Counting.{count_more, count_within}
use Rattle.landmarks.specs.Landmarks.{Marks, nearest, line_count}
use Rattle.landmarks.proofs.Near.{lines_few}
use Rattle.choosing.specs.Choosing.{sum_below, above, with_mark, Best, NoPlace, Place, or_better, best, Chosen, NoRoom, Marked, go_on, choose, chosen, first}
use Rattle.choosing.specs.Laws.{BestPlace, Roomy, Crowded, Rule, fits, gives_up, goes_on, ByTheRule, RuleAlone, HasRoom, NoRoomFound, TurnsSuffice, FewPlaces, three_in_a_row, OthersMayFit}
use Rattle.choosing.proofs.Sums.{sum_none, sum_each}

-- ---- lines above room, and posts that have more
pub roomy_none : (z : Map) (room : ℕ) (l : Marks) → Roomy z room l → above z room l ≡ 0
roomy_none z room l h = sum_none z.n (λ u. line_count z l u - room) (λ u un. omega (arith, h u un))

pub none_roomy : (z : Map) (room : ℕ) (l : Marks) → above z room l ≡ 0 → Roomy z room l
none_roomy z room l e u un = omega (arith, sum_each z.n (λ u. line_count z l u - room) e u un)

-- a sum that isn't 0 has a part that isn't
sum_some : (n : ℕ) (f : ℕ → ℕ) → (sum_below n f ≡ 0 → ⊥) → (u : ℕ) × (u < n) × (0 < f u)
unfolding sum_below
sum_some zero f h = absurd (h refl)
sum_some (suc n) f h = elim (cases_lt 0 (f n)) [
  | inl p ↦ (n, omega arith, p)
  | inr p ↦ (let r = sum_some n f (λ e. h (omega (arith, e))) in (r.0, omega (arith, r.1), r.2))
]

pub some_crowded : (z : Map) (room : ℕ) (l : Marks) → (above z room l ≡ 0 → ⊥) → Crowded z room l
some_crowded z room l h = let r = sum_some z.n (λ u. line_count z l u - room) h in (r.0, r.1, omega (arith, r.2))

count_true : (k : ℕ) → count_below k (λ _. true) ≡ k
unfolding count_below
count_true zero = refl
count_true (suc k) = omega (arith, count_true k)

-- ---- the best place
-- what is found among the places below k: none if all are landmarks; else the one after which fewest lines are above room, the lowest such
abbrev Sought : Map → ℕ → Marks → ℕ → Best → Type 0
Sought z room l k NoPlace = (e : ℕ) → e < k → l e ≡ true
Sought z room l k (Place c x) =
    (c < k) × (l c ≡ false) × (x ≡ above z room (with_mark c l))
    × ((e : ℕ) → e < k → l e ≡ false → x ≤ above z room (with_mark e l)) × ((e : ℕ) → e < c → l e ≡ false → x < above z room (with_mark e l))

module _ (z : Map) (room : ℕ) (l : Marks) where
  taken : (k : ℕ) → l k ≡ false → (B : Best) → Sought z room l k B → Sought z room l (suc k) (or_better k (above z room (with_mark k l)) B)
  taken k f NoPlace h = (
    omega arith,
    f,
    refl,
    λ e ek fe. elim (cases_eq e k) [ inl q ↦ omega (arith, ap (λ y. above z room (with_mark y l)) q) | inr q ↦ absurd (both_ways (l e) fe (h e (omega arith))) ],
    λ e ek fe. absurd (both_ways (l e) fe (h e ek)),
  )
  taken k f (Place c x) h = either (ltb (above z room (with_mark k l)) x) refl
    where
      either : (b : Bool) → ltb (above z room (with_mark k l)) x ≡ b → Sought z room l (suc k) (cond b (Place k (above z room (with_mark k l))) (Place c x))
      either true t = (let lt = ltb_is t in (
        omega arith,
        f,
        refl,
        λ e ek fe. elim (cases_eq e k) [ inl q ↦ omega (arith, ap (λ y. above z room (with_mark y l)) q) | inr q ↦ omega (arith, h.3 e (omega arith) fe) ],
        λ e ek fe. omega (arith, h.3 e ek fe),
      ))
        where
          ltb_is : ltb (above z room (with_mark k l)) x ≡ true → above z room (with_mark k l) < x
          ltb_is t = elim (cases_lt (above z room (with_mark k l)) x) [ inl p ↦ p | inr p ↦ absurd (both_ways (ltb (above z room (with_mark k l)) x) (le-ltb (above z room (with_mark k l)) x p) t) ]
      either false t = (let le = ltb_not t in (
        omega (arith, h.0),
        h.1,
        h.2,
        λ e ek fe. elim (cases_eq e k) [ inl q ↦ omega (arith, ap (λ y. above z room (with_mark y l)) q) | inr q ↦ h.3 e (omega arith) fe ],
        h.4,
      ))
        where
          ltb_not : ltb (above z room (with_mark k l)) x ≡ false → x ≤ above z room (with_mark k l)
          ltb_not t = elim (cases_lt (above z room (with_mark k l)) x) [ inl p ↦ absurd (both_ways (ltb (above z room (with_mark k l)) x) t (lt-ltb (above z room (with_mark k l)) x p)) | inr p ↦ p ]

  passed : (k : ℕ) → l k ≡ true → (B : Best) → Sought z room l k B → Sought z room l (suc k) B
  passed k t NoPlace h = λ e ek. elim (cases_eq e k) [ inl q ↦ ap l q ∙ t | inr q ↦ h e (omega arith) ]
  passed k t (Place c x) h = (
    omega (arith, h.0),
    h.1,
    h.2,
    λ e ek fe. elim (cases_eq e k) [ inl q ↦ absurd (both_ways (l k) (sym (ap l q) ∙ fe) t) | inr q ↦ h.3 e (omega arith) fe ],
    h.4,
  )

  sought : (k : ℕ) → Sought z room l k (best z room l k)
  unfolding best
  sought zero = λ e h. absurd (omega arith)
  sought (suc k) = elim (cases_Bool (l k)) [
    | inl t ↦ rw t (passed k t (best z room l k) (sought k))
    | inr t ↦ rw t (taken k t (best z room l k) (sought k))
  ]

  -- if all places are landmarks, there are as many as places, and no post has a line for each
  pub best_there : Crowded z room l → count_below z.n l ≤ room → (B : Best) → best z room l z.n ≡ B → (c : ℕ) × (x : ℕ) × (B ≡ Place c x) × BestPlace z room l c
  best_there h le NoPlace e =
      let all : (e : ℕ) → e < z.n → l e ≡ true = subst (Sought z room l z.n) e (sought z.n) in
      absurd (omega (arith, h.2, lines_few z l h.0 h.1, count_within z.n (λ _. true) l (λ i il t. all i il), count_true z.n))
  best_there h le (Place c x) e =
      let s = subst (Sought z room l z.n) e (sought z.n) in (
        c,
        x,
        refl,
        record {
          there = s.0;
          unmarked = s.1;
          fewest = λ e en fe. omega (arith, s.2, s.3 e en fe);
          lowest = λ e ec fe. omega (arith, s.2, s.4 e ec fe);
        },
      )

-- ---- one landmark more
pub with_count : (z : Map) (l : Marks) (c : ℕ) → c < z.n → l c ≡ false → count_below z.n (with_mark c l) ≡ count_below z.n l + 1
with_count z l c cn f = count_more z.n c l (with_mark c l) cn f (or_left (eqb c c) (l c) (eq-eqb c c refl)) (λ i il ne. ap (λ b. b || l i) (ne_eqb i c ne))

-- ---- the definition, by its cases
module _ (k : ℕ) (z : Map) (room : ℕ) (l : Marks) where
  pub choose_done : above z room l ≡ 0 → choose (suc k) z room l ≡ Marked l
  unfolding choose
  choose_done h = rw (eq-eqb (above z room l) 0 h) refl

  pub choose_full : (above z room l ≡ 0 → ⊥) → room < count_below z.n l → choose (suc k) z room l ≡ NoRoom l
  unfolding choose
  choose_full n h = rw (ne_eqb (above z room l) 0 n, lt-ltb room (count_below z.n l) h) refl

  pub choose_on : (above z room l ≡ 0 → ⊥) → count_below z.n l ≤ room → choose (suc k) z room l ≡ go_on (choose k z room) l (best z room l z.n)
  unfolding choose
  choose_on n h = rw (ne_eqb (above z room l) 0 n, le-ltb room (count_below z.n l) h) refl

-- ---- with enough turns the definition follows the rule
ruled : (k : ℕ) (z : Map) (room : ℕ) (l : Marks) → count_below z.n l ≤ room + 1 → room + 2 ≤ k + count_below z.n l → Rule z room l (choose k z room l)
ruled zero z room l most h = absurd (omega arith)
ruled (suc k) z room l most h = elim (cases_eq (above z room l) 0) [
  | inl e ↦ subst (Rule z room l) (sym (choose_done k z room l e)) (fits l (none_roomy z room l e))
  | inr ne ↦ (let cr = some_crowded z room l ne in elim (cases_lt room (count_below z.n l)) [
    | inl full ↦ subst (Rule z room l) (sym (choose_full k z room l ne full)) (gives_up l cr full)
    | inr le ↦ (let b = best_there z room l cr le (best z room l z.n) refl in
        let w = with_count z l b.0 b.3.there b.3.unmarked in
        let e : choose (suc k) z room l ≡ choose k z room (with_mark b.0 l) = choose_on k z room l ne le ∙ ap (go_on (choose k z room) l) b.2 in
        subst (Rule z room l) (sym e) (goes_on l b.0 (choose k z room (with_mark b.0 l)) cr le b.3 (ruled k z room (with_mark b.0 l) (omega (arith, w)) (omega (arith, w)))))
  ])
]

-- place 0 is one landmark at the most
first_count : (n : ℕ) → count_below n first ≤ 1
unfolding count_below
first_count zero = omega arith
first_count (suc n) = elim (cases_eq n 0) [
  | inl e ↦ rw e (omega arith)
  | inr ne ↦ rw (ne_eqb n 0 ne) (omega (arith, first_count n))
]

started : (z : Map) (room k : ℕ) → room + 2 ≤ k → Rule z room first (choose k z room first)
started z room k h = ruled k z room first (omega (arith, first_count z.n)) (omega arith)

pub by_the_rule : ByTheRule
by_the_rule z room = started z room (suc (suc room)) (omega arith)

-- ---- it comes to one thing only
not_both : (z : Map) (room : ℕ) (l : Marks) → Roomy z room l → Crowded z room l → ⊥
not_both z room l r c = omega (arith, r c.0 c.1, c.2)

best_alone : (z : Map) (room : ℕ) (l : Marks) (c e : ℕ) → BestPlace z room l c → BestPlace z room l e → e ≡ c
best_alone z room l c e p q = elim (cases_lt c e) [
  | inl h ↦ absurd (omega (arith, q.lowest c h p.unmarked, p.fewest e q.there q.unmarked))
  | inr h ↦ elim (cases_eq e c) [
    | inl s ↦ s
    | inr ne ↦ absurd (omega (arith, p.lowest e (omega arith) q.unmarked, q.fewest c p.there p.unmarked))
  ]
]

alone : (z : Map) (room : ℕ) (l m : Marks) (r s : Chosen) → m ≡ l → Rule z room l r → Rule z room m s → r ≡ s
alone z room l m r s e (fits _ h) (fits _ g) = ap Marked (sym e)
alone z room l m r s e (fits _ h) (gives_up _ g f) = absurd (not_both z room l h (subst (Crowded z room) e g))
alone z room l m r s e (fits _ h) (goes_on _ c _ g f b d) = absurd (not_both z room l h (subst (Crowded z room) e g))
alone z room l m r s e (gives_up _ h f) (fits _ g) = absurd (not_both z room l (subst (Roomy z room) e g) h)
alone z room l m r s e (gives_up _ h f) (gives_up _ g i) = ap NoRoom (sym e)
alone z room l m r s e (gives_up _ h f) (goes_on _ c _ g i b d) = absurd (omega (arith, ap (count_below z.n) e))
alone z room l m r s e (goes_on _ c _ h f b d) (fits _ g) = absurd (not_both z room l (subst (Roomy z room) e g) h)
alone z room l m r s e (goes_on _ c _ h f b d) (gives_up _ g i) = absurd (omega (arith, ap (count_below z.n) e))
alone z room l m r s e (goes_on _ c _ h f b d) (goes_on _ a _ g i p q) =
    let same : a ≡ c = best_alone z room l c a b (subst (λ (x : Marks). BestPlace z room x a) e p) in
    alone z room (with_mark c l) (with_mark a m) r s (ap (λ (x : Marks). with_mark a x) e ∙ ap (λ y. with_mark y l) same) d q

pub rule_alone : RuleAlone
rule_alone z room l r s d q = alone z room l l r s refl d q

-- ---- what it comes to
ends_roomy : (z : Map) (room : ℕ) (l m : Marks) (r : Chosen) → Rule z room l r → l 0 ≡ true → r ≡ Marked m → (m 0 ≡ true) × Roomy z room m
ends_roomy z room l m r (fits _ h) z0 e = (let s : l ≡ m = cc in (sym (ap (λ f. f 0) s) ∙ z0, subst (Roomy z room) s h))
ends_roomy z room l m r (gives_up _ h f) z0 e = absurd (let k : ◌≡◌ {A = ℕ} 0 1 = cc in omega arith)
ends_roomy z room l m r (goes_on _ c _ h f b d) z0 e = ends_roomy z room (with_mark c l) m r d (or_right (eqb 0 c) (l 0) z0) e

ends_crowded : (z : Map) (room : ℕ) (l m : Marks) (r : Chosen) → Rule z room l r → l 0 ≡ true → r ≡ NoRoom m → (m 0 ≡ true) × Crowded z room m × (room < count_below z.n m)
ends_crowded z room l m r (fits _ h) z0 e = absurd (let k : ◌≡◌ {A = ℕ} 0 1 = cc in omega arith)
ends_crowded z room l m r (gives_up _ h f) z0 e =
    (let s : l ≡ m = cc in (sym (ap (λ f. f 0) s) ∙ z0, subst (Crowded z room) s h, subst (λ (x : Marks). room < count_below z.n x) s f))
ends_crowded z room l m r (goes_on _ c _ h f b d) z0 e = ends_crowded z room (with_mark c l) m r d (or_right (eqb 0 c) (l 0) z0) e

pub has_room : HasRoom
has_room z room l e = ends_roomy z room first l (chosen z room) (by_the_rule z room) refl e

pub no_room : NoRoomFound
no_room z room l e = ends_crowded z room first l (chosen z room) (by_the_rule z room) refl e

pub turns_suffice : TurnsSuffice
turns_suffice z room k h = rule_alone z room first (choose k z room first) (chosen z room) (started z room k h) (by_the_rule z room)

pub few_places : FewPlaces
few_places z room h = rule_alone z room first (chosen z room) (Marked first) (by_the_rule z room) (fits first (λ u un. omega (arith, lines_few z first u un)))

pub others_may_fit : OthersMayFit
unfolding choose best sum_below count_below within lowest nearest
others_may_fit = (refl, each)
  where
    each : (u : ℕ) → u < 3 → line_count three_in_a_row (λ v. eqb v 1) u ≤ 1
    each zero h = omega arith
    each (suc zero) h = omega arith
    each (suc (suc zero)) h = omega arith
    each (suc (suc (suc u))) h = absurd (omega arith)
