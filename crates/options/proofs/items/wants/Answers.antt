use Rattle.std.proofs.Common.{◌≡◌, ℕ, Bool, true, false, cond, ◌||◌, List, [], ◌∷◌, Bor, map, ◌∙◌, ap, refl}
use Rattle.std.specs.List.{list_any}
use Rattle.std.specs.Str.{bytes_eq}
use Rattle.options.specs.Items.{wants_in}
use Rattle.options.proofs.items.wants.Goals as goal

either : (b rest : Bool) → b || rest ≡ cond b true rest
either true rest = refl
either false rest = refl

-- std's own word for the same
any_name : (option : List ℕ) (names : List (Bor (List ℕ))) → list_any (λ x. bytes_eq x.now option) names ≡ wants_in (map (λ x. x.now) names) option
any_name option [] = refl
any_name option (x ∷ xs) = either (bytes_eq x.now option) (list_any (λ y. bytes_eq y.now option) xs) ∙ ap (cond (bytes_eq x.now option) true) (any_name option xs)

pub returns : goal.returns
returns c = c.contains.ensures.value ∙ any_name c.args.option.now c.args.takes.now
