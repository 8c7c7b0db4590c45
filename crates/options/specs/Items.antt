-- Options and files, from the words of a command line. Assumes nothing.
--
-- Glossary
--   Meaning    what some words stand for: a file, an option without a word, one with its word, one that wants a word where there is none
--   Awaiting   what the next word is: Any that says itself what it is, Of an option, or a File
--   is_file    a word that may be an option is none
--   item_at    what a word stands for; nothing is `--`, nor an option before its word
--   after      what the word behind it is
--   items_in   what all words stand for
use Rattle.std.specs.Prelude.{ℕ, Bool, true, false, cond, not, ◌||◌, List, [], ◌∷◌, ◌++◌, Some, None, codes, Option, ◌==◌, slice_index}
use Rattle.std.specs.Option.{option_to_list}
use Rattle.std.specs.Str.{bytes_eq}
use Rattle.options.specs.declared.kinds.Item.{Item}
use Rattle.options.specs.declared.kinds.Item.TheVariants.{File as FileItem, Plain as PlainItem, With as WithItem, Without as WithoutItem}
use Rattle.options.specs.declared.kinds.Next.{Next}
use Rattle.options.specs.declared.kinds.Next.TheVariants.{Any as AnyNext, Of as OfNext, File as FileNext}

pub data Meaning : Type 0 where
  File : List ℕ → Meaning
  Plain : List ℕ → Meaning
  With : List ℕ → List ℕ → Meaning
  Without : List ℕ → Meaning

pub data Awaiting : Type 0 where
  Any : Awaiting
  Of : List ℕ → Awaiting
  Files : Awaiting

-- what the values of the code stand for
abbrev pub meant : Item → Meaning
meant (FileItem name) = File name.now
meant (PlainItem option) = Plain option.now
meant (WithItem option word) = With option.now word.now
meant (WithoutItem option) = Without option.now

abbrev pub awaited : Next → Awaiting
awaited AnyNext = Any
awaited (OfNext option) = Of option.now
awaited FileNext = Files

abbrev pub is_file : List ℕ → Bool
is_file w = bytes_eq w (codes "-") || not (slice_index w 0 == 45)

-- an option is one of those that want a word
abbrev pub wants_in : List (List ℕ) → List ℕ → Bool
wants_in [] option = false
wants_in (name ∷ names) option = cond (bytes_eq name option) true (wants_in names option)

abbrev pub item_at : List (List ℕ) → Awaiting → List ℕ → Option Meaning
item_at takes Any w = cond (bytes_eq w (codes "--")) None (cond (is_file w) (Some (File w)) (cond (wants_in takes w) None (Some (Plain w))))
item_at takes (Of option) w = Some (With option w)
item_at takes Files w = Some (File w)

abbrev pub after : List (List ℕ) → Awaiting → List ℕ → Awaiting
after takes Any w = cond (bytes_eq w (codes "--")) Files (cond (is_file w) Any (cond (wants_in takes w) (Of w) Any))
after takes (Of option) w = Any
after takes Files w = Files

-- what is left of an option whose word doesn't come
abbrev pub unmet : Awaiting → List Meaning
unmet Any = []
unmet (Of option) = Without option ∷ []
unmet Files = []

abbrev pub items_from : List (List ℕ) → Awaiting → List (List ℕ) → List Meaning
items_from takes next [] = unmet next
items_from takes next (w ∷ ws) = option_to_list (item_at takes next w) ++ items_from takes (after takes next w) ws

abbrev pub items_in : List (List ℕ) → List (List ℕ) → List Meaning
items_in takes ws = items_from takes Any ws
