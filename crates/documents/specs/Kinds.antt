-- The kinds of documents, by their first byte. Assumes nothing.
use Rattle.std.specs.Prelude.{◌≡◌, ℕ, Bool, true, false, cond, Some, None, Option, Result, IfErr, ◌==◌}
use Rattle.std.specs.Result.{result_ok}
use Rattle.documents.specs.declared.kinds.Kind.{Kind}
use Rattle.documents.specs.declared.kinds.UnknownKind.{UnknownKind}
use Rattle.documents.specs.declared.kinds.Kind.TheVariants.{Map, Plan, Change, Walk}

abbrev pub kind_of : ℕ → Option Kind
kind_of byte =
    cond (byte == 1) (Some Map)
    (cond (byte == 2) (Some Plan)
    (cond (byte == 3) (Some Change)
    (cond (byte == 4) (Some Walk) None)))

abbrev pub is_map : Option Kind → Bool
is_map None = false
is_map (Some Map) = true
is_map (Some Plan) = false
is_map (Some Change) = false
is_map (Some Walk) = false

-- what decoding a byte gives: its kind, or that byte again
abbrev pub Decodes : ℕ → Result Kind UnknownKind → Type 0
Decodes byte r = (result_ok r ≡ kind_of byte) × IfErr r (λ e. e.0 ≡ byte)
