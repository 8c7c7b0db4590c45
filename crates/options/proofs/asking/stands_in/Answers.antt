use Rattle.std.proofs.Common.{string_bytes, codes, ◌||◌, ap, ◌∙◌, rules, tests}
use Rattle.std.proofs.lemmas.Iterator.{YieldsList-from_slice}
use Rattle.std.proofs.lemmas.Iterator.Search.{find_from_yields_List}
use Rattle.std.specs.Str.{bytes_eq}
use Rattle.options.proofs.Standing.{passed, passes, stood}
use Rattle.options.proofs.asking.stands_in.Goals as goal

pub returns : goal.returns
returns c =
    let found = find_from_yields_List (λ word. bytes_eq (string_bytes word) c.args.option.now || bytes_eq (string_bytes word) (codes "--")) _ _ c.find.result c.find.ensures.ran
    (YieldsList-from_slice c.args.words.now cc) (λ x b q k. search (rules, tests)) in
    passed (λ x. x.now) (λ word. bytes_eq (string_bytes word) c.args.option.now) c.is_some_and.result _ c.find.result c.is_some_and.ensures (λ x k. search (rules, tests))
    ∙ ap (passes (λ word. bytes_eq (string_bytes word) c.args.option.now)) found
    ∙ stood string_bytes c.args.option.now c.args.words.now
