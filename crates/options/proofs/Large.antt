-- A number that doesn't fit 64 bits is taken for the highest that does. Assumes nothing.
use Rattle.std.proofs.Common.{◌≡◌, ℕ, ◌^◌, ◌<◌, ◌≤◌, min, true, not, eqb, List, length, Some, None, Ok, Err, Result, sym, ap, ◌∙◌, inl, inr, arith}
use Rattle.std.proofs.lemmas.Str.Parse.{IsNumeralModel, numerals_by_value, tells_all_ascii_digits, parse_digits}
use Rattle.std.proofs.lemmas.Bool.{and_parts, not-true, eqb-false, cases_lt, cond-true}
use Rattle.std.specs.Result.{result_unwrap_or}
use Rattle.std.specs.Str.Parse.{digits_value, ParsesUnsigned}
use Rattle.std.specs.Str.{all_ascii_digits}
use Rattle.options.specs.Numbers.{is_number, number_of}

own : IsNumeralModel (λ ds. all_ascii_digits ds ≡ true) (digits_value 10)
own = numerals_by_value (λ ds. all_ascii_digits ds ≡ true) tells_all_ascii_digits

lesser : (x k : ℕ) → k ≤ x → min x k ≡ k
lesser x k h = omega arith

greater : (x k : ℕ) → x ≤ k → min x k ≡ x
greater x k h = omega arith

some_long : (n : ℕ) → (n ≡ 0 → ⊥) → 0 < n
some_long n h = omega arith

pub highest_at_most : {E : Type 0} (w : List ℕ) (r : Result ℕ E) → is_number w ≡ true → ParsesUnsigned 64 10 w r → Some (result_unwrap_or r 18446744073709551615) ≡ number_of w
highest_at_most {E = E} w (Ok n) is reads =
    let p = and_parts (not (eqb (length w) 0)) (all_ascii_digits w) is in
    let h = parse_digits own {E = E} 64 w (Ok n) reads p.1 in
    sym (cond-true (is_number w) (Some (min (digits_value 10 w) 18446744073709551615)) None is ∙ ap Some (greater (digits_value 10 w) 18446744073709551615 (omega (arith, h)) ∙ sym h.1))
highest_at_most w (Err e) is reads =
    let p = and_parts (not (eqb (length w) 0)) (all_ascii_digits w) is in
    let some : 0 < length w = some_long (length w) (eqb-false (length w) 0 (not-true (eqb (length w) 0) p.0)) in
    let no = parse_digits own 64 w (Err e) reads p.1 in
    let big : 18446744073709551615 ≤ digits_value 10 w = elim (cases_lt (digits_value 10 w) (2 ^ 64)) [ inl l ↦ absurd (no (some, l)) | inr g ↦ omega arith ] in
    sym (cond-true (is_number w) (Some (min (digits_value 10 w) 18446744073709551615)) None is ∙ ap Some (lesser (digits_value 10 w) 18446744073709551615 big))
