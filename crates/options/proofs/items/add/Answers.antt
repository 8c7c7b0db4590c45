use Rattle.std.proofs.Common.{◌≡◌, ◌++◌, Option, Some, None, map, vec_items, ap, ◌∙◌, sym, refl}
use Rattle.std.proofs.lemmas.Iterator.Adapters.{fact_from_extend, YieldsList-from_once}
use Rattle.std.proofs.lemmas.List.{map-append, map-id}
use Rattle.std.specs.Option.{option_map, option_to_list}
use Rattle.options.specs.Items.{meant}
use Rattle.options.proofs.items.add.Goals as goal

mapped : {X Y : Type 0} (f : X → Y) (o : Option X) → map f (option_to_list o) ≡ option_to_list (option_map f o)
mapped f None = refl
mapped f (Some x) = refl

pub returns : goal.returns
returns c =
    let old = vec_items c.args.items.now in
    fact_from_extend (λ y. y) c.extend.result c.extend.ensures.ran (λ it b. YieldsList-from_once c.args.item b.0)
    (λ xs given held.
    ap (map meant) held.0
    ∙ map-append meant old xs
    ∙ ap (λ ys. map meant old ++ map meant ys) (sym (map-id xs) ∙ given)
    ∙ ap (λ ys. map meant old ++ ys) (mapped meant c.args.item))
