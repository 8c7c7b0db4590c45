use Rattle.std.proofs.Common.{ℕ, ◌<◌, ◌≤◌, Bool, true, false, MatchBool, List, [], ◌∷◌, map, length, get_or, ap, arith, rules}
use Rattle.std.proofs.lemmas.Iterator.{YieldsList-from_slice, cases_from_any}
use Rattle.std.proofs.lemmas.List.{get_or-map}
use Rattle.std.specs.List.{AllWithin, HoldsAt}
use borrow.Author.Tests.{tests}
use Rattle.posts.specs.Posts.{told}
use Rattle.posts.specs.declared.kinds.Post.{Post}
use Rattle.plans.proofs.listing.any_full.Goals as goal

-- what holds of the posts holds of their lines
full : (room : ℕ) (posts : List Post) (r : Bool)
    → MatchBool r ((k : ℕ) × (k < length posts) × HoldsAt (λ p. room < length (told p)) posts k) (AllWithin (λ p. length (told p) ≤ room) posts 0 (length posts))
    → MatchBool r ((u : ℕ) × (u < length posts) × (room < length (get_or (map told posts) u []))) ((u : ℕ) → u < length posts → length (get_or (map told posts) u []) ≤ room)
full room [] false h = λ u un. absurd (omega arith)
full room [] true h = absurd (omega (arith, h.1))
full room (p ∷ ps) false h = λ u un. omega (arith, h u p (omega arith) un, ap length (get_or-map told (p ∷ ps) u p [] un))
full room (p ∷ ps) true h = (h.0, h.1, omega (arith, h.2 p, ap length (get_or-map told (p ∷ ps) h.0 p [] h.1)))

pub returns : goal.returns
returns c =
    full c.args.room c.args.posts.now c.any.result
    (cases_from_any _ _ c.any.result (λ p. c.args.room < length (told p)) (λ p. length (told p) ≤ c.args.room) c.any.ensures.ran (YieldsList-from_slice c.args.posts.now cc) (λ x q k. search (rules, tests)) (λ x q k. search (rules, tests)))
