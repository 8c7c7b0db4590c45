-- Bytes and the numbers in them. Assumes nothing.
use Rattle.std.proofs.Common.{◌≡◌, ℕ, zero, suc, ◌+◌, ◌*◌, ◌/◌, ◌%◌, ◌<◌, List, [], ◌∷◌, ◌++◌, length, get_or, drop, sym, ap, ◌∙◌, arith}
use Rattle.std.proofs.lemmas.List.{drop_all, drop_more}
use Rattle.reading.specs.Reading.{bytes_of}

-- a list of known length, byte by byte
abbrev pub spread : ℕ → ℕ → List ℕ → List ℕ
spread zero i bs = []
spread (suc k) i bs = get_or bs i 0 ∷ spread k (i + 1) bs

spread_from : (k i : ℕ) (bs : List ℕ) → i + k ≡ length bs → spread k i bs ≡ drop i bs
spread_from zero i bs e = sym (drop_all i bs (omega arith))
spread_from (suc k) i bs e = ap (λ z. get_or bs i 0 ∷ z) (spread_from k (i + 1) bs (omega arith)) ∙ sym (drop_more bs i 0 (omega arith))

pub spread_all : (k : ℕ) (bs : List ℕ) → length bs ≡ k → spread k 0 bs ≡ bs
spread_all k bs e = spread_from k 0 bs (omega arith)

-- two bytes and their number
pub word_bytes : (x : ℕ) → x / 256 * 256 + x % 256 ≡ x
word_bytes x = omega arith

pub bytes_word : (x y : ℕ) (rest : List ℕ) → x < 256 → y < 256 → bytes_of (x * 256 + y) ++ rest ≡ x ∷ y ∷ rest
bytes_word x y rest l m =
    let p : (x * 256 + y) / 256 ≡ x = omega arith in
    let q : (x * 256 + y) % 256 ≡ y = omega arith in
    ap (λ z. z ∷ (x * 256 + y) % 256 ∷ rest) p ∙ ap (λ z. x ∷ z ∷ rest) q
