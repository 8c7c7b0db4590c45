-- What the code answers at the end of a document, from what it was told before. Assumes nothing.
use Rattle.std.proofs.Common.{◌≡◌, ℕ, is_ok, Some, None, Ok, Err, Option, Result, sym, refl, ap, ◌∙◌, subst, arith}
use Rattle.maps.specs.declared.kinds.Fault.{Fault}
use Rattle.reading.specs.declared.kinds.Place.{Place}
use Rattle.reading.specs.declared.kinds.Refusal.{Refusal}
use Rattle.reading.specs.declared.kinds.Stop.{Stop}
use Rattle.reading.specs.declared.kinds.Stop.TheVariants.{Input}
use Rattle.reading.specs.Reading.{Read, Got, Bad, then, both, closed, fresh}
use Rattle.reading.specs.Telling.{answer, stands, Tells, Told}
use Rattle.reading.proofs.Steps.{told_bad}

-- what was read, from what a reader told
got_of : {A B : Type 0} (view : B → A) (x : Read A) (b : B) (at : Place) → Tells view x (Ok b) → at ≡ stands x at → x ≡ Got (view b) at
got_of view (Got a q) b at h s = cc
got_of view (Bad d) b at h s = absurd h

pub told_got : {A B : Type 0} (view : B → A) (x : Read A) (at : Place) (r : Result B Stop) (b : B) → Told view x r at → r ≡ Ok b → x ≡ Got (view b) at
told_got {A} {B} view x at r b h e =
    got_of view x b at (subst (λ (w : Result B Stop). Tells view x w) e h.0) (h.1 (ap is_ok e))

-- what a reader tells, from what was read
pub told_ok : {A B : Type 0} (view : B → A) (x : Read A) (b : B) (at : Place) → x ≡ Got (view b) at → Told view x (Ok b) at
told_ok view x b at e = (subst (λ y. Tells view y (Ok b)) (sym e) refl, λ _. ap (λ y. stands y at) (sym e))

-- one thing and then another were read
pub both_got : {A B C : Type 0} (make : A → B → C) (first : Place → Read A) (second : A → Place → Read B) (at p q : Place) (a : A) (b : B)
    → first at ≡ Got a p → second a (fresh p) ≡ Got b q → both make first second at ≡ Got (make a b) q
both_got make first second at p q a b e f =
    ap (λ z. then z (λ x y. then (second x (fresh y)) (λ v w. Got (make x v) w))) e ∙ ap (λ z. then z (λ v w. Got (make a v) w)) f

-- a document that is closed with a fault
closed_bad : {A : Type 0} (f : Option Fault) (p : Place) (a : A) (t : Result (Unit {0}) Refusal) (d : Refusal)
    → t ≡ answer (closed f tt p) → t ≡ Err d → closed f a p ≡ Bad d
closed_bad None p a t d says was = let z : ◌≡◌ {A = ℕ} 0 1 = cc in absurd (omega arith)
closed_bad (Some f) p a t d says was = cc

-- A reader told r, of the value v, and stands at p. Then the document was closed, with the fault f if there is one.
module _ {A B : Type 0} (view : B → A) (x : Read A) (fault : A → Place → Option Fault) (p q : Place) (r : Result B Stop) (v : B)
    (f : Option Fault) (t : Result (Unit {0}) Refusal)
    (told : Told view x r p) (was : r ≡ Ok v) (judged : f ≡ fault (view v) p) (says : t ≡ answer (closed f tt p)) where
  read_on : then x (λ a z. closed (fault a z) a z) ≡ closed f (view v) p
  read_on = ap (λ z. then z (λ a y. closed (fault a y) a y)) (told_got view x p r v told was) ∙ ap (λ z. closed z (view v) p) (sym judged)

  pub end_bad : {r' : Result B Stop} {e : Stop} {d : Refusal} → t ≡ Err d → r' ≡ Err e → e ≡ Input d → Told view (then x (λ a z. closed (fault a z) a z)) r' q
  end_bad {r'} {e} {d} err is e-is = told_bad view (then x (λ a z. closed (fault a z) a z)) q (read_on ∙ closed_bad f p (view v) t d says err) is e-is
