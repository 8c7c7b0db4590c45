use Rattle.std.proofs.Common.{◌≡◌, ℕ, List, [], ◌∷◌, ◌++◌, map, codes, decimal, ap, ◌∙◌, refl}
use Rattle.std.proofs.Output.{has_written_append, has_written_of_eq}
use Rattle.std.proofs.lemmas.Iterator.{YieldsList-from_slice, YieldsList-from_zip}
use Rattle.std.proofs.lemmas.Iterator.Consumers.{YieldsList-end}
use Rattle.std.proofs.lemmas.List.{append_assoc}
use Rattle.std.specs.List.{flat_map, zip}
use Rattle.rows.specs.Words.{entry_words}
use Rattle.rows.proofs.row.RowDisplay.fmt.Goals as goal

flat_map-map : {X Y : Type 0} (f : Y → List ℕ) (v : X → Y) (xs : List X) → flat_map (λ x. f (v x)) xs ≡ flat_map f (map v xs)
flat_map-map f v [] = refl
flat_map-map f v (x ∷ xs) = ap (λ ys. f (v x) ++ ys) (flat_map-map f v xs)

pub returns-clause-writes : goal.returns-clause-writes
returns-clause-writes g c plain ok =
    let row = c.args.self.now in
    let lead = c.in_ok-write.ensures.writes plain refl in
    let words : ℕ × ℕ → List ℕ = λ entry. codes " " ++ entry_words entry in
    let all : map (λ p. (p.0.now, p.1.now)) c.loop-dist.yielded ≡ zip row.dist.now row.next.now =
    (YieldsList-end (YieldsList-from_zip {s = c.into_iter-dist-iterator.result} (YieldsList-from_slice row.dist.now cc) (YieldsList-from_slice row.next.now cc)) c.loop-dist.yielded c.loop-dist.dist-iterator c.loop-dist.yielded_by c.next.result c.next.new.self c.in-None.is c.next.ensures.steps).0 in
    has_written_of_eq _ _ _ _ _
    (append_assoc (codes "to ") (decimal row.to ++ codes ":") _
    ∙ ap (λ ys. codes "to " ++ ys) (append_assoc (decimal row.to) (codes ":") _)
    ∙ ap (λ ys. codes "to " ++ (decimal row.to ++ (codes ":" ++ ys))) (flat_map-map words (λ p. (p.0.now, p.1.now)) c.loop-dist.yielded ∙ ap (flat_map words) all))
    (has_written_append _ _ _ _ _ _ lead (c.loop-dist.invariant lead.plain))
