-- The first record and the roads of a map, read and written, fit together. Assumes nothing.
use Rattle.std.proofs.Common.{◌≡◌, ℕ, ◌<◌, ◌≤◌, Bool, true, false, cond, not, eqb, List, [], ◌∷◌, length, get_or, Some, None, sym, refl, ap, ◌∙◌, subst, arith}
use Rattle.std.proofs.lemmas.Bool.{or_parts, or_from, not-false, le-ltb, ltb-false, ne_eqb, eqb-true}
use Rattle.std.specs.List.{flat_map}
use Rattle.maps.specs.declared.kinds.Fault.TheVariants.{Form, Range}
use Rattle.maps.specs.Roads.{Each, SoundRoad, SoundRoads}
use Rattle.maps.proofs.RoadLists.{road_sound, passed, pass, positive}
use Rattle.reading.specs.declared.kinds.Place.{Place}
use Rattle.reading.specs.Reading.{Got, then, one, many, fresh}
use Rattle.reading.specs.Roads.{road_shape, road_bytes}
use Rattle.reading.proofs.Fitting.{Fits, Written, one_fits, one_faultless, then_got}
use Rattle.reading.proofs.Series.{seq_fits, many_each}
use Rattle.reading.proofs.RoadRecords.{roads_fit}
use Rattle.reading.proofs.Decoded.{spread_all, word_bytes, bytes_word}
use Rattle.documents.specs.declared.kinds.MapHead.{MapHead}
use Rattle.documents.specs.declared.kinds.Kind.TheVariants.{Map, Plan, Change, Walk}
use Rattle.documents.specs.Kinds.{kind_of, is_map}
use Rattle.documents.specs.Maps.{Charted, head_of, head_fault, head_shape, head_bytes, head_in, read_roads, write_map}

-- a first record from its fields
head_is : (h : MapHead) {a b c : ℕ} → a ≡ h.kind → b ≡ h.places → c ≡ h.roads → record { kind = a; places = b; roads = c } ≡ h
head_is h {a} {b} {c} p q s =
    ap (λ x. record { kind = x; places = b; roads = c }) p ∙ ap (λ x. record { kind = h.kind; places = x; roads = c }) q ∙ ap (λ x. record { kind = h.kind; places = h.places; roads = x }) s

-- only byte 1 begins a map
no_map : (byte : ℕ) (b : Bool) → is_map (cond b (Some Plan) (cond (eqb byte 3) (Some Change) (cond (eqb byte 4) (Some Walk) None))) ≡ false
no_map byte true = refl
no_map byte false =
    elim (eqb byte 3) as (λ z. is_map (cond z (Some Change) (cond (eqb byte 4) (Some Walk) None)) ≡ false) [
      | true ↦ refl
      | false ↦ elim (eqb byte 4) as (λ z. is_map (cond z (Some Walk) None) ≡ false) [ true ↦ refl | false ↦ refl ]
    ]

is_map_lem : (byte : ℕ) (b : Bool) → b ≡ eqb byte 1
    → is_map (cond b (Some Map) (cond (eqb byte 2) (Some Plan) (cond (eqb byte 3) (Some Change) (cond (eqb byte 4) (Some Walk) None)))) ≡ true → byte ≡ 1
is_map_lem byte true d e = eqb-true byte 1 (sym d)
is_map_lem byte false d e = let h = no_map byte (eqb byte 2) in let z : ◌≡◌ {A = ℕ} 0 1 = cc in absurd (omega arith)

-- The first record of a map that can be written.
record SoundHead (h : MapHead) : Type 0 where
  pub kind : h.kind ≡ 1
  pub some : 0 < h.places
  pub few : h.places ≤ 512
  pub short : h.roads ≤ 4096

head_sound : (h : MapHead) → head_fault h ≡ None → SoundHead h
head_sound h e =
    let x = passed _ Form _ e in
    let y = passed _ Range None x.1 in
    let o = or_parts _ _ y.0 in
    let o' = or_parts _ _ o.0 in
    record {
      kind = is_map_lem h.kind (eqb h.kind 1) refl (not-false _ x.0);
      some = positive _ o'.0;
      few = ltb-false _ _ o'.1;
      short = ltb-false _ _ o.1;
    }

head_written : Written head_shape 0 None head_bytes SoundHead
head_written = record {
  some = omega arith;
  wide = λ h. refl;
  told = λ h v. head_is h refl (word_bytes h.places) (word_bytes h.roads);
  fair = λ h v.
      let s = v.some in
      pass _ Form _ (ap (λ k. not (is_map (kind_of k))) v.kind)
      (pass _ Range None (or_from _ _ (or_from _ _ (ne_eqb h.places 0 (λ e. omega arith)) (le-ltb 512 h.places v.few)) (le-ltb 4096 h.roads v.short)) refl);
  sure = λ bs l small e. head_sound (head_of bs) e;
  same = λ bs l small.
      ap (λ z. get_or bs 0 0 ∷ z) (bytes_word (get_or bs 1 0) (get_or bs 2 0) _ (small 1 (omega arith)) (small 2 (omega arith)))
      ∙ ap (λ z. get_or bs 0 0 ∷ get_or bs 1 0 ∷ get_or bs 2 0 ∷ z) (bytes_word (get_or bs 3 0) (get_or bs 4 0) [] (small 3 (omega arith)) (small 4 (omega arith)))
      ∙ spread_all 5 bs l;
}

abbrev pub SoundMap : Charted → Type 0
SoundMap m = SoundRoads m.places m.roads

short_is : (xs k : ℕ) → xs ≡ k → k ≤ 4096 → xs ≤ 4096
short_is xs k e l = omega arith

-- The first record and the roads.
pub chart_fits : Fits read_roads write_map SoundMap
chart_fits = seq_fits (λ bytes. one head_shape 0 bytes None) head_bytes SoundHead
    (λ bytes h. many (one road_shape h.places bytes) h.roads None) (flat_map road_bytes) (λ h xs. (length xs ≡ h.roads) × Each (SoundRoad h.places) None xs)
    (λ h xs. record { places = h.places; roads = xs }) head_in (λ m. m.roads) SoundMap
    (one_fits head_shape 0 None head_bytes SoundHead head_written)
    (λ h _. roads_fit h.places h.roads)
    (λ m v. (record { kind = refl; some = v.some; few = v.few; short = v.short }, (refl, v.each), refl))
    (λ h xs v w. (
      record { some = v.some; few = v.few; short = short_is _ _ w.0 v.short; each = w.1 },
      head_is h (sym v.kind) refl w.0,
      refl,
    ))

-- Whatever the input, roads that are read are those of a map without a fault.
pub chart_sound : (bytes : List ℕ) (at next : Place) (m : Charted) → read_roads bytes at ≡ Got m next → SoundMap m
chart_sound bytes at next m e =
    let x = then_got (one head_shape 0 bytes None at) (λ h p. then (many (one road_shape h.places bytes) h.roads None (fresh p)) (λ roads q. Got (record { places = h.places; roads = roads }) q)) m next e in
    let h = x.0 in
    let y = then_got (many (one road_shape h.places bytes) h.roads None (fresh x.1)) (λ roads q. Got (record { places = h.places; roads = roads }) q) m next x.3 in
    let v = head_sound h (one_faultless head_shape 0 bytes None at x.1 h x.2) in
    let w = many_each (one road_shape h.places bytes) (SoundRoad h.places)
    (λ last p q r f. road_sound h.places last r (one_faultless road_shape h.places bytes last p q r f)) h.roads None (fresh x.1) y.1 y.0 y.2 in
    let same : record { places = h.places; roads = y.0 } ≡ m = let z = y.3 in cc in
    subst SoundMap same (record { some = v.some; few = v.few; short = short_is _ _ w.0 v.short; each = w.1 })
