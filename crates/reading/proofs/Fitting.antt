-- Reading and writing fit together, for one record and for what is made of records. Assumes nothing.
use Rattle.std.proofs.Common.{◌≡◌, ℕ, ◌+◌, ◌-◌, ◌<◌, ◌≤◌, Bool, true, false, cond, ltb, ◌⊎◌, List, ◌++◌, length, get_or, take, drop, Some, None, Option, sym, refl, ap, ◌∙◌, subst, inl, inr, arith}
use Rattle.std.proofs.lemmas.List.{take-append-le, drop-append-le, take_at, drop_at, drop-drop, take-append-drop, length-drop, length-append, length-take-le, get_or-take, get_or-drop}
use Rattle.std.proofs.lemmas.Bool.{cases_lt, lt-ltb, le-ltb, ltb-false}
use Rattle.maps.specs.declared.kinds.Fault.{Fault}
use Rattle.maps.specs.declared.kinds.Fault.TheVariants.{Form}
use Rattle.reading.specs.declared.kinds.Place.{Place}
use Rattle.reading.specs.declared.kinds.Record.{Record}
use Rattle.reading.specs.declared.kinds.Refusal.{Refusal}
use Rattle.reading.specs.Reading.{Read, Got, Bad, Shape, then, one, judged, refuse, after, Bytes, Cut, Reads}

-- What is written is read, what is read was written, and what is cut is refused for its form. All three speak of what is left at a place.
pub record Fits {A : Type 0} (read : List ℕ → Place → Read A) (write : A → List ℕ) (Valid : A → Type 0) : Type 0 where
  pub trip : (bytes rest : List ℕ) (at : Place) (a : A) → Valid a → drop at.byte bytes ≡ write a ++ rest
      → Reads (read bytes at) a (at.byte + length (write a))
  pub back : (bytes : List ℕ) → Bytes bytes → (at next : Place) (a : A) → read bytes at ≡ Got a next
      → Valid a × (drop at.byte bytes ≡ write a ++ drop next.byte bytes)
  pub cut : (bytes s t : List ℕ) (at : Place) (a : A) → Valid a → drop at.byte bytes ≡ s → write a ≡ s ++ t → 0 < length t
      → Cut (read bytes at)

-- what is left after what was written
pub past : (bytes w rest : List ℕ) (at next : ℕ) → drop at bytes ≡ w ++ rest → next ≡ at + length w → drop next bytes ≡ rest
past bytes w rest at next e f =
    ap (λ n. drop n bytes) f ∙ sym (drop-drop (length w) at bytes) ∙ ap (drop (length w)) e ∙ drop_at w rest (length w) refl

-- What one sort of record owes, in a map of n places and after the record `last`.
pub record Written {A : Type 0} (shape : Shape A) (n : ℕ) (last : Option A) (write : A → List ℕ) (Valid : A → Type 0) : Type 0 where
  pub some : 0 < shape.size
  pub wide : (a : A) → length (write a) ≡ shape.size
  pub told : (a : A) → Valid a → shape.value (write a) ≡ a
  pub fair : (a : A) → Valid a → shape.fault n last a ≡ None
  pub sure : (bs : List ℕ) → length bs ≡ shape.size → ((k : ℕ) → k < shape.size → get_or bs k 0 < 256)
      → shape.fault n last (shape.value bs) ≡ None → Valid (shape.value bs)
  pub same : (bs : List ℕ) → length bs ≡ shape.size → ((k : ℕ) → k < shape.size → get_or bs k 0 < 256) → write (shape.value bs) ≡ bs

judged_got : {A : Type 0} (f : Option Fault) (sort : Record) (v a : A) (at p next : Place) → judged f sort v at p ≡ Got a next → (f ≡ None) × (v ≡ a) × (p ≡ next)
judged_got None sort v a at p next e = (refl, cc, cc)
judged_got (Some f) sort v a at p next e = let z : ◌≡◌ {A = ℕ} 0 1 = cc in absurd (omega arith)

cond_got : {A : Type 0} (b : Bool) (r : Refusal) (y : Read A) (a : A) (next : Place) → cond b (Bad r) y ≡ Got a next → (b ≡ false) × (y ≡ Got a next)
cond_got true r y a next e = let z : ◌≡◌ {A = ℕ} 0 1 = cc in absurd (omega arith)
cond_got false r y a next e = (refl, e)

-- a record that is read has no fault
pub one_faultless : {A : Type 0} (shape : Shape A) (n : ℕ) (bytes : List ℕ) (last : Option A) (at next : Place) (a : A)
    → one shape n bytes last at ≡ Got a next → shape.fault n last a ≡ None
one_faultless shape n bytes last at next a e =
    let v = shape.value (take shape.size (drop at.byte bytes)) in
    let p = cond_got (ltb (length bytes) (at.byte + shape.size)) (record { fault = Form; «record» = shape.sort; at = at })
    (judged (shape.fault n last v) shape.sort v at (after at shape.size)) a next e in
    let j = judged_got (shape.fault n last v) shape.sort v a at (after at shape.size) next p.1 in
    ap (λ z. shape.fault n last z) (sym j.1) ∙ j.0

-- One record.
module _ {A : Type 0} (shape : Shape A) (n : ℕ) (last : Option A) (write : A → List ℕ) (Valid : A → Type 0) (w : Written shape n last write Valid) where
  -- the record's own bytes, and what they say
  abbrev part : List ℕ → Place → List ℕ
  part bytes at = take shape.size (drop at.byte bytes)

  abbrev verdict : A → Place → Read A
  verdict a at = judged (shape.fault n last a) shape.sort a at (after at shape.size)

  one_trip : (bytes rest : List ℕ) (at : Place) (a : A) → Valid a → drop at.byte bytes ≡ write a ++ rest
      → Reads (one shape n bytes last at) a (at.byte + length (write a))
  one_trip bytes rest at a v e =
      let size_is : length (write a) ≡ shape.size = w.wide a in
      let long : length bytes - at.byte ≡ length (write a) + length rest = sym (length-drop at.byte bytes) ∙ ap length e ∙ length-append (write a) rest in
      let enough : ltb (length bytes) (at.byte + shape.size) ≡ false = le-ltb (length bytes) (at.byte + shape.size) (omega (arith, w.some)) in
      let is : shape.value (part bytes at) ≡ a = ap (λ z. shape.value (take shape.size z)) e ∙ ap shape.value (take_at (write a) rest shape.size size_is) ∙ w.told a v in (
        after at shape.size,
        ap (λ b. cond b (refuse Form shape.sort at) (verdict (shape.value (part bytes at)) at)) enough
            ∙ ap (λ x. verdict x at) is
            ∙ ap (λ f. judged f shape.sort a at (after at shape.size)) (w.fair a v),
        ap (λ k. at.byte + k) (sym size_is),
      )

  one_back : (bytes : List ℕ) → Bytes bytes → (at next : Place) (a : A) → one shape n bytes last at ≡ Got a next
      → Valid a × (drop at.byte bytes ≡ write a ++ drop next.byte bytes)
  one_back bytes all at next a e =
      let p = cond_got (ltb (length bytes) (at.byte + shape.size)) (record { fault = Form; «record» = shape.sort; at = at }) (verdict (shape.value (part bytes at)) at) a next e in
      let j = judged_got (shape.fault n last (shape.value (part bytes at))) shape.sort (shape.value (part bytes at)) a at (after at shape.size) next p.1 in
      let enough : at.byte + shape.size ≤ length bytes = ltb-false (length bytes) (at.byte + shape.size) p.0 in
      let long : length (part bytes at) ≡ shape.size = length-take-le shape.size (drop at.byte bytes) (omega (arith, length-drop at.byte bytes)) in
      let small : (k : ℕ) → k < shape.size → get_or (part bytes at) k 0 < 256 =
      λ k l. subst (λ x. x < 256) (sym (get_or-take shape.size (drop at.byte bytes) k 0 l ∙ get_or-drop at.byte bytes k 0)) (all (at.byte + k)) in (
        subst Valid j.1 (w.sure (part bytes at) long small j.0),
        sym (take-append-drop shape.size (drop at.byte bytes))
            ∙ ap (λ x. x ++ drop shape.size (drop at.byte bytes)) (sym (w.same (part bytes at) long small) ∙ ap write j.1)
            ∙ ap (λ x. write a ++ x) (drop-drop shape.size at.byte bytes ∙ ap (λ (x : Place). drop x.byte bytes) j.2),
      )

  one_cut : (bytes s t : List ℕ) (at : Place) (a : A) → Valid a → drop at.byte bytes ≡ s → write a ≡ s ++ t → 0 < length t
      → Cut (one shape n bytes last at)
  one_cut bytes s t at a v e f l =
      let long : length bytes - at.byte ≡ length s = sym (length-drop at.byte bytes) ∙ ap length e in
      let all : shape.size ≡ length s + length t = sym (w.wide a) ∙ ap length f ∙ length-append s t in
      let few : ltb (length bytes) (at.byte + shape.size) ≡ true = lt-ltb (length bytes) (at.byte + shape.size) (omega arith) in
      subst (λ b. Cut (cond b (refuse Form shape.sort at) (verdict (shape.value (part bytes at)) at))) (sym few) refl

  pub one_fits : Fits (λ bytes. one shape n bytes last) write Valid
  one_fits = record { trip = one_trip; back = one_back; cut = one_cut }

-- One thing after another.
pub then_got : {A B : Type 0} (x : Read A) (f : A → Place → Read B) (b : B) (next : Place) → then x f ≡ Got b next
    → (a : A) × (p : Place) × (x ≡ Got a p) × (f a p ≡ Got b next)
then_got (Got a p) f b next e = (a, p, refl, e)
then_got (Bad r) f b next e = let z : ◌≡◌ {A = ℕ} 0 1 = cc in absurd (omega arith)

pub then_cut : {A B : Type 0} (x : Read A) (f : A → Place → Read B) → Cut x → Cut (then x f)
then_cut (Got a p) f h = absurd h
then_cut (Bad r) f h = h

-- a front of two lists ends in the first, or holds it
pub parted : (w j s t : List ℕ) → w ++ j ≡ s ++ t
    → ((w ≡ s ++ drop (length s) w) × (0 < length (drop (length s) w)))
    ⊎ ((s ≡ w ++ drop (length w) s) × (j ≡ drop (length w) s ++ t))
parted w j s t e =
    elim (cases_lt (length s) (length w)) [
      | inl l ↦
          let l' : length s ≤ length w = omega arith in
          let h : take (length s) w ≡ s = sym (take-append-le (length s) w j l') ∙ ap (take (length s)) e ∙ take_at s t (length s) refl in
          inl (sym (take-append-drop (length s) w) ∙ ap (λ x. x ++ drop (length s) w) h, omega (arith, length-drop (length s) w))
      | inr l ↦
          let h : take (length w) s ≡ w = sym (take-append-le (length w) s t l) ∙ ap (take (length w)) (sym e) ∙ take_at w j (length w) refl in
          inr (
            sym (take-append-drop (length w) s) ∙ ap (λ x. x ++ drop (length w) s) h,
            sym (drop_at w j (length w) refl) ∙ ap (drop (length w)) e ∙ drop-append-le (length w) s t l,
          )
    ]
