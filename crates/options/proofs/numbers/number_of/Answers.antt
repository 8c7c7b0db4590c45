use Rattle.std.proofs.Common.{sym, ap, ◌∙◌, Some}
use Rattle.options.proofs.Large.{highest_at_most}
use Rattle.options.proofs.numbers.number_of.Goals as goal

pub returns : goal.returns
returns c = ap Some c.unwrap_or.ensures ∙ highest_at_most c.args.word.now c.parse.result (sym c.is_number.ensures ∙ c.if-not-is_number.false) c.parse.ensures.value.0
