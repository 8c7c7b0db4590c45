-- Reading and writing fit together up to the end of a document, where the whole is judged. Assumes nothing.
use Rattle.std.proofs.Common.{◌≡◌, ℕ, ◌+◌, ◌<◌, List, ◌++◌, length, drop, Some, None, Option, sym, refl, ap, ◌∙◌, subst, arith}
use Rattle.maps.specs.declared.kinds.Fault.{Fault}
use Rattle.reading.specs.declared.kinds.Place.{Place}
use Rattle.reading.specs.Reading.{Read, Got, then, fresh, closed, Bytes, Cut, Reads}
use Rattle.reading.proofs.Fitting.{Fits, then_got, then_cut}

closed_got : {A : Type 0} (f : Option Fault) (v a : A) (p next : Place) → closed f v p ≡ Got a next → (f ≡ None) × (v ≡ a) × (fresh p ≡ next)
closed_got None v a p next e = (refl, cc, cc)
closed_got (Some f) v a p next e = let z : ◌≡◌ {A = ℕ} 0 1 = cc in absurd (omega arith)

module _ {A : Type 0} (r : List ℕ → Place → Read A) (write : A → List ℕ) (Valid : A → Type 0) (fits : Fits r write Valid) (fault : List ℕ → A → Place → Option Fault) where
  pub close_trip : (bytes rest : List ℕ) (at : Place) (a : A) → Valid a → ((p : Place) → p.byte ≡ at.byte + length (write a) → fault bytes a p ≡ None)
      → drop at.byte bytes ≡ write a ++ rest
      → Reads (then (r bytes at) (λ b p. closed (fault bytes b p) b p)) a (at.byte + length (write a))
  close_trip bytes rest at a v fair e =
      let x = fits.trip bytes rest at a v e in
      (fresh x.0, ap (λ z. then z (λ b p. closed (fault bytes b p) b p)) x.1 ∙ ap (λ f. closed f a x.0) (fair x.0 x.2), x.2)

  pub close_back : (bytes : List ℕ) → Bytes bytes → (at next : Place) (a : A) → then (r bytes at) (λ b p. closed (fault bytes b p) b p) ≡ Got a next
      → Valid a × (drop at.byte bytes ≡ write a ++ drop next.byte bytes) × (p : Place) × (fault bytes a p ≡ None) × (p.byte ≡ next.byte)
  close_back bytes all at next a e =
      let x = then_got (r bytes at) (λ b p. closed (fault bytes b p) b p) a next e in
      let y = closed_got (fault bytes x.0 x.1) x.0 a x.1 next x.3 in
      let p = fits.back bytes all at x.1 x.0 x.2 in
      let ends : x.1.byte ≡ next.byte = ap (λ (q : Place). q.byte) y.2 in (
        subst Valid y.1 p.0,
        p.1 ∙ ap (λ z. write z ++ drop x.1.byte bytes) y.1 ∙ ap (λ k. write a ++ drop k bytes) ends,
        x.1,
        ap (λ z. fault bytes z x.1) (sym y.1) ∙ y.0,
        ends,
      )

  pub close_cut : (bytes s t : List ℕ) (at : Place) (a : A) → Valid a → drop at.byte bytes ≡ s → write a ≡ s ++ t → 0 < length t
      → Cut (then (r bytes at) (λ b p. closed (fault bytes b p) b p))
  close_cut bytes s t at a v e k l = then_cut (r bytes at) (λ b p. closed (fault bytes b p) b p) (fits.cut bytes s t at a v e k l)
