-- From what is read to what the code answers, and the turns of a loop that reads. Assumes nothing.
use Rattle.std.proofs.Common.{◌≡◌, ℕ, suc, ◌+◌, ◌-◌, ◌<◌, true, cond, List, [], ◌∷◌, ◌++◌, is_ok, Some, Ok, Err, Option, Result, sym, refl, ap, ◌∙◌, subst, arith}
use Rattle.std.proofs.lemmas.List.{append_assoc}
use Rattle.std.proofs.lemmas.Slice.{pushed}
use Rattle.reading.specs.declared.kinds.Place.{Place}
use Rattle.reading.specs.declared.kinds.Refusal.{Refusal}
use Rattle.reading.specs.declared.kinds.Stop.{Stop}
use Rattle.reading.specs.declared.kinds.Stop.TheVariants.{Input}
use Rattle.reading.specs.Reading.{Read, Got, Bad, then, many}
use Rattle.reading.specs.Telling.{answer, stands, Told, Tells}

-- what a reader's answer says of what is read
pub got : {A : Type 0} (x : Read A) (at : Place) (a : A) (r : Result A Refusal) → r ≡ Ok a → r ≡ answer x → x ≡ Got a (stands x at)
got (Got b p) at a r e f = let z : a ≡ b = cc in ap (λ v. Got v p) (sym z)
got (Bad b) at a r e f = let z : ◌≡◌ {A = ℕ} 0 1 = cc in absurd (omega arith)

pub bad : {A : Type 0} (x : Read A) (d : Refusal) (r : Result A Refusal) → r ≡ Err d → r ≡ answer x → x ≡ Bad d
bad (Got b p) d r e f = let z : ◌≡◌ {A = ℕ} 0 1 = cc in absurd (omega arith)
bad (Bad b) d r e f = let z : d ≡ b = cc in ap Bad (sym z)

-- some elements, and then what is read
abbrev pub onto : {A : Type 0} → List A → Read (List A) → Read (List A)
onto xs r = then r (λ ys q. Got (xs ++ ys) q)

onto_cons : {A : Type 0} (xs : List A) (a : A) (r : Read (List A))
    → onto xs (then r (λ ys q. Got (a ∷ ys) q)) ≡ onto (xs ++ a ∷ []) r
onto_cons xs a (Got ys q) = ap (λ z. Got z q) (sym (append_assoc xs (a ∷ []) ys))
onto_cons xs a (Bad d) = refl

-- one turn of the loop: n - i are left
pub many_more : {A : Type 0} (step : Option A → Place → Read A) (n i : ℕ) (last : Option A) (at : Place) (xs : List A) (a : A) (q : Place)
    → i < n → step last at ≡ Got a q
    → onto xs (many step (n - i) last at) ≡ onto (xs ++ a ∷ []) (many step (n - (i + 1)) (Some a) q)
many_more step n i last at xs a q l e =
    let k : n - i ≡ suc (n - (i + 1)) = omega arith in
    ap (λ m. onto xs (many step m last at)) k
    ∙ ap (λ r. onto xs (then r (λ b p. then (many step (n - (i + 1)) (Some b) p) (λ rest z. Got (b ∷ rest) z)))) e
    ∙ onto_cons xs a (many step (n - (i + 1)) (Some a) q)

pub many_bad : {A : Type 0} (step : Option A → Place → Read A) (n i : ℕ) (last : Option A) (at : Place) (xs : List A) (d : Refusal)
    → i < n → step last at ≡ Bad d → onto xs (many step (n - i) last at) ≡ Bad d
many_bad step n i last at xs d l e =
    let k : n - i ≡ suc (n - (i + 1)) = omega arith in
    ap (λ m. onto xs (many step m last at)) k
    ∙ ap (λ r. onto xs (then r (λ b p. then (many step (n - (i + 1)) (Some b) p) (λ rest z. Got (b ∷ rest) z)))) e

-- what a reader that allocates tells, from what is read
tells_bad : {A B : Type 0} (view : B → A) (x : Read A) (d : Refusal) → x ≡ Bad d → Tells view x (Err (Input d))
tells_bad view x d e = subst (λ y. Tells view y (Err (Input d))) (sym e) refl

err_not_ok : {A E X : Type 0} (r : Result A E) (e : E) → r ≡ Err e → is_ok r ≡ true → X
err_not_ok (Ok a) e p q = let z : ◌≡◌ {A = ℕ} 0 1 = cc in absurd (omega arith)
err_not_ok (Err d) e p q = let z : ◌≡◌ {A = ℕ} 0 1 = cc in absurd (omega arith)

pub told_bad : {A B : Type 0} (view : B → A) (x : Read A) (at : Place) {r : Result B Stop} {e : Stop} {d : Refusal}
    → x ≡ Bad d → r ≡ Err e → e ≡ Input d → Told view x r at
told_bad {A} {B} view x at {r} {e} {d} h p q =
    let z : r ≡ Err (Input d) = p ∙ ap (λ (w : Stop). Err w) q in
    (subst (λ (w : Result B Stop). Tells view x w) (sym z) (tells_bad view x d h), err_not_ok r e p)

-- A turn of a loop that reads by F and pushes: b is the input as the reader has it, b' as it was at the start.
pub turn : {A U E : Type 0} (F : List ℕ → Option A → Place → Read A) {b b' : List ℕ} {n i : ℕ} (last : Option A) (at : Place) (xs : List A)
    {at' : Place} {ys : List A} {a : A} {r : Result A Refusal} {p : Result U E} {u : U} {whole : Read (List A)}
    → i < n → b ≡ b' → onto xs (many (F b') (n - i) last at) ≡ whole
    → r ≡ Ok a → r ≡ answer (F b last at) → at' ≡ stands (F b last at) at
    → p ≡ Ok u → ys ≡ cond (is_ok p) (xs ++ a ∷ []) xs
    → onto ys (many (F b') (n - (i + 1)) (Some a) at') ≡ whole
turn {A} F {b} {b'} {n} {i} last at xs {at'} {ys} {a} {r} {p} l e inv was says stood ok items =
    let g : F b last at ≡ Got a at' = got (F b last at) at a r was says ∙ ap (λ z. Got a z) (sym stood) in
    let h : F b' last at ≡ Got a at' = ap (λ (z : List ℕ). F z last at) (sym e) ∙ g in
    let j : ys ≡ xs ++ a ∷ [] = pushed (a ∷ []) refl ok items in
    ap (λ (z : List A). onto z (many (F b') (n - (i + 1)) (Some a) at')) j ∙ sym (many_more (F b') n i last at xs a at' l h) ∙ inv

-- A turn that meets a refusal.
pub stopped : {A : Type 0} (F : List ℕ → Option A → Place → Read A) {b b' : List ℕ} {n i : ℕ} (last : Option A) (at : Place) (xs : List A)
    {d : Refusal} {r : Result A Refusal} {whole : Read (List A)}
    → i < n → b ≡ b' → onto xs (many (F b') (n - i) last at) ≡ whole
    → r ≡ Err d → r ≡ answer (F b last at) → whole ≡ Bad d
stopped {A} F {b} {b'} {n} {i} last at xs {d} {r} l e inv was says =
    let h : F b' last at ≡ Bad d = ap (λ (z : List ℕ). F z last at) (sym e) ∙ bad (F b last at) d r was says in
    sym inv ∙ many_bad (F b') n i last at xs d l h

-- a value that is told was read
pub tells_got : {A B : Type 0} (view : B → A) (x : Read A) (b : B) → Tells view x (Ok b) → (next : Place) × (x ≡ Got (view b) next)
tells_got view (Got a q) b h = (q, ap (λ z. Got z q) (sym h))
tells_got view (Bad d) b h = absurd h

-- the same input from the same place
pub retold : {A B : Type 0} (view : B → A) (F : List ℕ → Place → Read A) (b b' : List ℕ) (at at' : Place) (r : Result B Stop)
    → b ≡ b' → at ≡ at' → Tells view (F b at) r → Tells view (F b' at') r
retold view F b b' at at' r e f h = subst (λ x. Tells view x r) (ap (λ (z : List ℕ). F z at) e ∙ ap (λ (z : Place). F b' z) f) h
