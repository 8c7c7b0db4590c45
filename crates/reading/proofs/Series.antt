-- Reading and writing fit together in series: two things of different sorts, and many of one. Assumes nothing.
use Rattle.std.proofs.Common.{◌≡◌, ℕ, zero, suc, ◌+◌, ◌<◌, List, [], ◌∷◌, ◌++◌, length, drop, Some, Option, sym, refl, ap, ◌∙◌, subst, inl, inr, arith}
use Rattle.std.proofs.lemmas.List.{append_assoc, length-append}
use Rattle.std.specs.List.{flat_map}
use Rattle.maps.specs.Roads.{Each}
use Rattle.reading.specs.declared.kinds.Place.{Place}
use Rattle.reading.specs.Reading.{Read, Got, then, both, many, fresh, Bytes, Cut, Reads}
use Rattle.reading.proofs.Fitting.{Fits, past, then_got, then_cut, parted}

-- the bytes of two things
on_by : (w v : List ℕ) (at p q : ℕ) → p ≡ at + length w → q ≡ p + length v → q ≡ at + length (w ++ v)
on_by w v at p q e f = omega (arith, length-append w v)

-- One thing, and then another where it ends.
module _ {A B C : Type 0} (r₁ : List ℕ → Place → Read A) (w₁ : A → List ℕ) (V₁ : A → Type 0)
    (r₂ : List ℕ → A → Place → Read B) (w₂ : B → List ℕ) (V₂ : A → B → Type 0)
    (make : A → B → C) (fst : C → A) (snd : C → B) (V : C → Type 0)
    (f : Fits r₁ w₁ V₁) (g : (a : A) → V₁ a → Fits (λ bytes. r₂ bytes a) w₂ (V₂ a))
    (whole : (c : C) → V c → V₁ (fst c) × V₂ (fst c) (snd c) × (make (fst c) (snd c) ≡ c))
    (parts : (a : A) (b : B) → V₁ a → V₂ a b → V (make a b) × (fst (make a b) ≡ a) × (snd (make a b) ≡ b)) where
  -- what comes after the first, and after both
  abbrev go_on : List ℕ → A → Place → Read C
  go_on bytes a p = then (r₂ bytes a (fresh p)) (λ b q. Got (make a b) q)

  seq_trip : (bytes rest : List ℕ) (at : Place) (c : C) → V c → drop at.byte bytes ≡ (w₁ (fst c) ++ w₂ (snd c)) ++ rest
      → Reads (both make (r₁ bytes) (r₂ bytes) at) c (at.byte + length (w₁ (fst c) ++ w₂ (snd c)))
  seq_trip bytes rest at c v e =
      let h = whole c v in
      let e₁ : drop at.byte bytes ≡ w₁ (fst c) ++ (w₂ (snd c) ++ rest) = e ∙ append_assoc (w₁ (fst c)) (w₂ (snd c)) rest in
      let x = f.trip bytes (w₂ (snd c) ++ rest) at (fst c) h.0 e₁ in
      let e₂ = past bytes (w₁ (fst c)) (w₂ (snd c) ++ rest) at.byte x.0.byte e₁ x.2 in
      let y = (g (fst c) h.0).trip bytes rest (fresh x.0) (snd c) h.1 e₂ in (
        y.0,
        ap (λ z. then z (go_on bytes)) x.1
            ∙ ap (λ z. then z (λ b q. Got (make (fst c) b) q)) y.1
            ∙ ap (λ z. Got z y.0) h.2,
        on_by (w₁ (fst c)) (w₂ (snd c)) at.byte x.0.byte y.0.byte x.2 y.2,
      )

  seq_back : (bytes : List ℕ) → Bytes bytes → (at next : Place) (c : C) → both make (r₁ bytes) (r₂ bytes) at ≡ Got c next
      → V c × (drop at.byte bytes ≡ (w₁ (fst c) ++ w₂ (snd c)) ++ drop next.byte bytes)
  seq_back bytes all at next c e =
      let x = then_got (r₁ bytes at) (go_on bytes) c next e in
      let y = then_got (r₂ bytes x.0 (fresh x.1)) (λ b q. Got (make x.0 b) q) c next x.3 in
      let p = f.back bytes all at x.1 x.0 x.2 in
      let q = (g x.0 p.0).back bytes all (fresh x.1) y.1 y.0 y.2 in
      let m = parts x.0 y.0 p.0 q.0 in
      let same : make x.0 y.0 ≡ c = let z = y.3 in cc in
      let ends : y.1 ≡ next = let z = y.3 in cc in (
        subst V same m.0,
        p.1
            ∙ ap (λ z. w₁ x.0 ++ z) q.1
            ∙ sym (append_assoc (w₁ x.0) (w₂ y.0) (drop y.1.byte bytes))
            ∙ ap (λ (z : Place). (w₁ x.0 ++ w₂ y.0) ++ drop z.byte bytes) ends
            ∙ ap (λ z. (w₁ z ++ w₂ y.0) ++ drop next.byte bytes) (sym m.1 ∙ ap fst same)
            ∙ ap (λ z. (w₁ (fst c) ++ w₂ z) ++ drop next.byte bytes) (sym m.2 ∙ ap snd same),
      )

  seq_cut : (bytes s t : List ℕ) (at : Place) (c : C) → V c → drop at.byte bytes ≡ s → w₁ (fst c) ++ w₂ (snd c) ≡ s ++ t → 0 < length t
      → Cut (both make (r₁ bytes) (r₂ bytes) at)
  seq_cut bytes s t at c v e k l =
      let h = whole c v in
      elim (parted (w₁ (fst c)) (w₂ (snd c)) s t k) [
        | inl u ↦ then_cut (r₁ bytes at) (go_on bytes) (f.cut bytes s (drop (length s) (w₁ (fst c))) at (fst c) h.0 e u.0 u.1)
        | inr u ↦
            let left = drop (length (w₁ (fst c))) s in
            let x = f.trip bytes left at (fst c) h.0 (e ∙ u.0) in
            let e₂ = past bytes (w₁ (fst c)) left at.byte x.0.byte (e ∙ u.0) x.2 in
            subst (λ z. Cut (then z (go_on bytes))) (sym x.1)
            (then_cut (r₂ bytes (fst c) (fresh x.0)) (λ b q. Got (make (fst c) b) q)
            ((g (fst c) h.0).cut bytes left t (fresh x.0) (snd c) h.1 e₂ u.1 l))
      ]

  pub seq_fits : Fits (λ bytes. both make (r₁ bytes) (r₂ bytes)) (λ c. w₁ (fst c) ++ w₂ (snd c)) V
  seq_fits = record { trip = seq_trip; back = seq_back; cut = seq_cut }

-- Some things of one sort.
module _ {A : Type 0} (F : List ℕ → Option A → Place → Read A) (write : A → List ℕ) (Valid : Option A → A → Type 0)
    (fits : (last : Option A) → Fits (λ bytes. F bytes last) write (Valid last)) where
  -- what comes after the first of them
  abbrev others : List ℕ → ℕ → A → Place → Read (List A)
  others bytes k a p = then (many (F bytes) k (Some a) p) (λ rest q. Got (a ∷ rest) q)

  many_trip : (xs : List A) (last : Option A) (bytes rest : List ℕ) (at : Place) → Each Valid last xs → drop at.byte bytes ≡ flat_map write xs ++ rest
      → Reads (many (F bytes) (length xs) last at) xs (at.byte + length (flat_map write xs))
  many_trip [] last bytes rest at v e = (at, refl, omega arith)
  many_trip (a ∷ xs) last bytes rest at v e =
      let e₁ : drop at.byte bytes ≡ write a ++ (flat_map write xs ++ rest) = e ∙ append_assoc (write a) (flat_map write xs) rest in
      let x = (fits last).trip bytes (flat_map write xs ++ rest) at a v.0 e₁ in
      let e₂ = past bytes (write a) (flat_map write xs ++ rest) at.byte x.0.byte e₁ x.2 in
      let y = many_trip xs (Some a) bytes rest x.0 v.1 e₂ in (
        y.0,
        ap (λ z. then z (others bytes (length xs))) x.1 ∙ ap (λ z. then z (λ ys q. Got (a ∷ ys) q)) y.1,
        on_by (write a) (flat_map write xs) at.byte x.0.byte y.0.byte x.2 y.2,
      )

  many_back : (k : ℕ) (last : Option A) (bytes : List ℕ) → Bytes bytes → (at next : Place) (xs : List A) → many (F bytes) k last at ≡ Got xs next
      → ((length xs ≡ k) × Each Valid last xs) × (drop at.byte bytes ≡ flat_map write xs ++ drop next.byte bytes)
  many_back zero last bytes all at next [] e = let z : at ≡ next = cc in ((refl, tt), ap (λ (p : Place). drop p.byte bytes) z)
  many_back zero last bytes all at next (a ∷ xs) e = let z : ◌≡◌ {A = ℕ} 0 1 = cc in absurd (omega arith)
  many_back (suc k) last bytes all at next xs e =
      let x = then_got (F bytes last at) (others bytes k) xs next e in
      let y = then_got (many (F bytes) k (Some x.0) x.1) (λ ys q. Got (x.0 ∷ ys) q) xs next x.3 in
      let p = (fits last).back bytes all at x.1 x.0 x.2 in
      let q = many_back k (Some x.0) bytes all x.1 y.1 y.0 y.2 in
      let same : x.0 ∷ y.0 ≡ xs = let z = y.3 in cc in
      let ends : y.1 ≡ next = let z = y.3 in cc in
      subst (λ (zs : List A). ((length zs ≡ suc k) × Each Valid last zs) × (drop at.byte bytes ≡ flat_map write zs ++ drop next.byte bytes)) same (
        (ap suc q.0.0, (p.0, q.0.1)),
        p.1
            ∙ ap (λ z. write x.0 ++ z) q.1
            ∙ sym (append_assoc (write x.0) (flat_map write y.0) (drop y.1.byte bytes))
            ∙ ap (λ (z : Place). (write x.0 ++ flat_map write y.0) ++ drop z.byte bytes) ends,
      )

  many_cut : (xs : List A) (last : Option A) (bytes s t : List ℕ) (at : Place) → Each Valid last xs → drop at.byte bytes ≡ s → flat_map write xs ≡ s ++ t → 0 < length t
      → Cut (many (F bytes) (length xs) last at)
  many_cut [] last bytes s t at v e k l =
      let z : 0 ≡ length s + length t = ap length k ∙ length-append s t in absurd (omega arith)
  many_cut (a ∷ xs) last bytes s t at v e k l =
      elim (parted (write a) (flat_map write xs) s t k) [
        | inl u ↦ then_cut (F bytes last at) (others bytes (length xs)) ((fits last).cut bytes s (drop (length s) (write a)) at a v.0 e u.0 u.1)
        | inr u ↦
            let left = drop (length (write a)) s in
            let x = (fits last).trip bytes left at a v.0 (e ∙ u.0) in
            let e₂ = past bytes (write a) left at.byte x.0.byte (e ∙ u.0) x.2 in
            subst (λ z. Cut (then z (others bytes (length xs)))) (sym x.1)
            (then_cut (many (F bytes) (length xs) (Some a) x.0) (λ ys q. Got (a ∷ ys) q)
            (many_cut xs (Some a) bytes left t x.0 v.1 e₂ u.1 l))
      ]

  pub many_fits : (k : ℕ) (last : Option A) → Fits (λ bytes at. many (F bytes) k last at) (flat_map write) (λ xs. (length xs ≡ k) × Each Valid last xs)
  many_fits k last = record {
    trip = λ bytes rest at xs v e. subst (λ n. Reads (many (F bytes) n last at) xs (at.byte + length (flat_map write xs))) v.0 (many_trip xs last bytes rest at v.1 e);
    back = λ bytes all at next xs e. many_back k last bytes all at next xs e;
    cut = λ bytes s t at xs v e h l. subst (λ n. Cut (many (F bytes) n last at)) v.0 (many_cut xs last bytes s t at v.1 e h l);
  }

-- what holds of each that is read holds of all
pub many_each : {A : Type 0} (F : Option A → Place → Read A) (P : Option A → A → Type 0)
    → ((last : Option A) (at next : Place) (a : A) → F last at ≡ Got a next → P last a)
    → (k : ℕ) (last : Option A) (at next : Place) (xs : List A) → many F k last at ≡ Got xs next → (length xs ≡ k) × Each P last xs
many_each F P h zero last at next [] e = (refl, tt)
many_each F P h zero last at next (a ∷ xs) e = let z : ◌≡◌ {A = ℕ} 0 1 = cc in absurd (omega arith)
many_each {A} F P h (suc k) last at next xs e =
    let x = then_got (F last at) (λ a p. then (many F k (Some a) p) (λ rest q. Got (a ∷ rest) q)) xs next e in
    let y = then_got (many F k (Some x.0) x.1) (λ ys q. Got (x.0 ∷ ys) q) xs next x.3 in
    let q = many_each F P h k (Some x.0) x.1 y.1 y.0 y.2 in
    let same : x.0 ∷ y.0 ≡ xs = let z = y.3 in cc in
    subst (λ (zs : List A). (length zs ≡ suc k) × Each P last zs) same (ap suc q.0, (h last at x.1 x.0 x.2, q.1))
