-- What a card and its hint say in print. Assumes nothing.
use Rattle.std.specs.Prelude.{ℕ, ◌++◌, List, codes, decimal}
use Rattle.cards.specs.declared.kinds.Card.{Card}
use Rattle.cards.specs.declared.kinds.Hint.{Hint}
use Rattle.cards.specs.declared.kinds.Hint.TheVariants.{Next, Unneeded}

abbrev pub hint_words : Hint → List ℕ
hint_words (Next next) = decimal next
hint_words Unneeded = codes "none"

abbrev pub card_words : Card → List ℕ
card_words card =
    codes "card " ++ (decimal card.place ++ (codes ": landmark " ++ (decimal card.landmark ++ (codes " hint " ++ hint_words card.hint))))
