use Rattle.std.proofs.Common.{◌≡◌, ℕ, List, IfOk, vec_items, sym, subst, arith, rules}
use Rattle.std.proofs.lemmas.Iterator.{YieldsList-from_range, items_from_collect}
use Rattle.std.proofs.lemmas.Iterator.Consumers.{YieldsList-from_filter}
use borrow.Author.Tests.{tests}
use Rattle.landmarks.specs.Lands.{map_in, marks_of}
use Rattle.plans.proofs.Marking.{marked_is}
use Rattle.plans.proofs.listing.landmarks_of.Goals as goal

pub returns : goal.returns
returns c =
    let s = c.args.land.now in
    subst (λ (xs : List ℕ). IfOk c.collect.result (λ v. vec_items v ≡ xs)) (sym (marked_is (marks_of s) 0 (map_in s).n))
    (items_from_collect _ c.collect.ensures.ran (YieldsList-from_filter _ (marks_of s) (YieldsList-from_range 0 (map_in s).n (map_in s).n (cc) (omega arith)) c.filter.ensures.closure (λ x b q k. search (rules, tests))))
