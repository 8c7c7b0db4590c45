use Rattle.std.proofs.Common.{ap, ◌∙◌, arith, rules, tests}
use Rattle.std.proofs.lemmas.Iterator.{YieldsList-from_range}
use Rattle.std.proofs.lemmas.Iterator.Consumers.{YieldsList-from_filter, count_from_yields_List}
use Rattle.landmarks.proofs.Near.{count_of_range}
use Rattle.landmarks.proofs.land.Land.line_count.Goals as goal
use Rattle.landmarks.specs.Lands.{map_in, on_post_in}

pub returns : goal.returns
returns c =
    let s = c.args.self.now in
    let n = (map_in s).n in
    count_from_yields_List c.filter.result _ c.count.ensures.ran
    (YieldsList-from_filter _ (on_post_in s c.args.u) (YieldsList-from_range 0 n n (c.filter.ensures.source ∙ ap (λ k. record { start = 0; end = k }) c.len.ensures) (omega arith)) c.filter.ensures.closure (λ x r q k. search (rules, tests)))
    ∙ count_of_range (on_post_in s c.args.u) n
