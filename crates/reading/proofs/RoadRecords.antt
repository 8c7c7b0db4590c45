-- Roads, read and written, fit together. Assumes nothing.
use Rattle.std.proofs.Common.{◌≡◌, ℕ, [], ◌∷◌, length, get_or, None, Option, refl, ap, ◌∙◌, arith}
use Rattle.std.specs.List.{flat_map}
use Rattle.maps.specs.declared.kinds.Road.{Road}
use Rattle.maps.specs.Roads.{Each, SoundRoad}
use Rattle.maps.proofs.RoadLists.{road_sound, sound_road}
use Rattle.reading.specs.Reading.{one, many}
use Rattle.reading.specs.Roads.{road_of, road_shape, road_bytes}
use Rattle.reading.proofs.Fitting.{Fits, Written, one_fits}
use Rattle.reading.proofs.Series.{many_fits}
use Rattle.reading.proofs.Decoded.{spread_all, word_bytes, bytes_word}

-- a road from its fields
road_is : (r : Road) {a b c : ℕ} → a ≡ r.from → b ≡ r.to → c ≡ r.cost → record { from = a; to = b; cost = c } ≡ r
road_is r {a} {b} {c} p q s =
    ap (λ x. record { from = x; to = b; cost = c }) p ∙ ap (λ x. record { from = r.from; to = x; cost = c }) q ∙ ap (λ x. record { from = r.from; to = r.to; cost = x }) s

road_written : (n : ℕ) (last : Option Road) → Written road_shape n last road_bytes (SoundRoad n last)
road_written n last = record {
  some = omega arith;
  wide = λ r. refl;
  told = λ r v. road_is r (word_bytes r.from) (word_bytes r.to) (word_bytes r.cost);
  fair = sound_road n last;
  sure = λ bs l small e. road_sound n last (road_of bs) e;
  same = λ bs l small.
      bytes_word (get_or bs 0 0) (get_or bs 1 0) _ (small 0 (omega arith)) (small 1 (omega arith))
      ∙ ap (λ z. get_or bs 0 0 ∷ get_or bs 1 0 ∷ z) (bytes_word (get_or bs 2 0) (get_or bs 3 0) _ (small 2 (omega arith)) (small 3 (omega arith)))
      ∙ ap (λ z. get_or bs 0 0 ∷ get_or bs 1 0 ∷ get_or bs 2 0 ∷ get_or bs 3 0 ∷ z) (bytes_word (get_or bs 4 0) (get_or bs 5 0) [] (small 4 (omega arith)) (small 5 (omega arith)))
      ∙ spread_all 6 bs l;
}

-- the roads of a map of n places
pub roads_fit : (n k : ℕ) → Fits (λ bytes at. many (one road_shape n bytes) k None at) (flat_map road_bytes) (λ xs. (length xs ≡ k) × Each (SoundRoad n) None xs)
roads_fit n k = many_fits (one road_shape n) road_bytes (SoundRoad n) (λ last. one_fits road_shape n last road_bytes (SoundRoad n last) (road_written n last)) k None
