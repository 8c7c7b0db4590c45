-- An option among some words, before `--`: as a search finds it, and word by word. Assumes nothing.
use Rattle.std.proofs.Common.{◌≡◌, ℕ, Bool, true, false, cond, ◌||◌, List, [], ◌∷◌, map, codes, refl, Option, Some, None}
use Rattle.std.specs.Option.{MatchOption, option_map}
use Rattle.std.specs.List.{find}
use Rattle.std.specs.Str.{bytes_eq}
use Rattle.options.specs.Asking.{stands_in}

-- the test of what was found
abbrev pub passes : {X : Type 0} → (X → Bool) → Option X → Bool
passes test None = false
passes test (Some x) = test x

-- what a test of the answer says, if it is the test of what was found
pub passed : {A B : Type 0} (v : A → B) (test : B → Bool) (b : Bool) (Post : A → Type 0) (r : Option A) → MatchOption r (b ≡ false) Post → ((x : A) → Post x → b ≡ test (v x)) → b ≡ passes test (option_map v r)
passed v test b Post None none some = none
passed v test b Post (Some x) none some = some x none

-- a word is the option (e), or ends the options (d), or others stand behind it
one : {X : Type 0} (test : X → Bool) (x : X) (later : Option X) (e d rest : Bool) → test x ≡ e → passes test later ≡ rest
    → passes test (cond (e || d) (Some x) later) ≡ cond e true (cond d false rest)
one test x later true d rest is others = is
one test x later false true rest is others = is
one test x later false false rest is others = others

pub stood : {X : Type 0} (f : X → List ℕ) (option : List ℕ) (xs : List X)
    → passes (λ x. bytes_eq (f x) option) (find (λ x. bytes_eq (f x) option || bytes_eq (f x) (codes "--")) xs) ≡ stands_in option (map f xs)
stood f option [] = refl
stood f option (x ∷ xs) =
    one (λ y. bytes_eq (f y) option) x (find (λ y. bytes_eq (f y) option || bytes_eq (f y) (codes "--")) xs) (bytes_eq (f x) option) (bytes_eq (f x) (codes "--")) (stands_in option (map f xs)) refl (stood f option xs)
