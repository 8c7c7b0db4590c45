use Rattle.std.proofs.Common.{◌≡◌, ◌++◌, map, drop, vec_items, string_bytes}
use Rattle.options.specs.Items.{meant, awaited, items_from, items_in}
use Rattle.options.proofs.items.items_in.Given as goal

-- what there is, and what is still to come, are all
abbrev pub invariant-loop-word : goal.invariant-loop-word
invariant-loop-word l =
    map meant (vec_items l.items) ++ items_from (map (λ x. x.now) l.takes) (awaited l.next) (map string_bytes (drop l.word-index l.words))
    ≡ items_in (map (λ x. x.now) l.takes) (map string_bytes l.words)
