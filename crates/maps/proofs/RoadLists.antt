-- The first fault of a list of roads, road by road; and that a list without one is sound. Assumes nothing.
use Rattle.std.proofs.Common.{◌≡◌, ℕ, ◌+◌, ◌<◌, ◌≤◌, Bool, true, false, cond, eqb, List, [], ◌∷◌, length, get_or, drop, Some, None, Option, refl, ap, ◌∙◌, arith}
use Rattle.std.proofs.lemmas.List.{drop_more, drop_all}
use Rattle.std.proofs.lemmas.Bool.{or_parts, or_from, not-false, not_from_true, lt-leb, leb-false, le-ltb, ltb-false, ne_eqb, eqb-false}
use Rattle.maps.specs.declared.kinds.Fault.{Fault}
use Rattle.maps.specs.declared.kinds.Fault.TheVariants.{Range, Order, Cost}
use Rattle.maps.specs.declared.kinds.Road.{Road}
use Rattle.maps.specs.Roads.{road_fault, or_else, roads_fault, size_fault, map_fault, no_fault, faultless, Each, SoundRoad, SoundRoads}

-- ---- one road of the list
pub step_bad : (n : ℕ) (last : Option Road) (rs : List Road) (i : ℕ) (d : Road) (f : Fault) → i < length rs → road_fault n last (get_or rs i d) ≡ Some f → roads_fault n last (drop i rs) ≡ Some f
unfolding roads_fault
step_bad n last rs i d f l e =
    ap (roads_fault n last) (drop_more rs i d l) ∙ ap (λ x. or_else x (roads_fault n (Some (get_or rs i d)) (drop (i + 1) rs))) e

pub step_good : (n : ℕ) (last : Option Road) (rs : List Road) (i : ℕ) (d : Road) → i < length rs → road_fault n last (get_or rs i d) ≡ None → roads_fault n last (drop i rs) ≡ roads_fault n (Some (get_or rs i d)) (drop (i + 1) rs)
unfolding roads_fault
step_good n last rs i d l e =
    ap (roads_fault n last) (drop_more rs i d l) ∙ ap (λ x. or_else x (roads_fault n (Some (get_or rs i d)) (drop (i + 1) rs))) e

pub step_end : (n : ℕ) (last : Option Road) (rs : List Road) (i : ℕ) → length rs ≤ i → roads_fault n last (drop i rs) ≡ None
unfolding roads_fault
step_end n last rs i l = ap (roads_fault n last) (drop_all i rs l)

-- ---- a list without a fault
pub passed : (b : Bool) (f : Fault) (o : Option Fault) → cond b (Some f) o ≡ None → (b ≡ false) × (o ≡ None)
passed true f o e = let z : ◌≡◌ {A = ℕ} 0 1 = cc in absurd (omega arith)
passed false f o e = (refl, e)

pub pass : (b : Bool) (f : Fault) (o : Option Fault) → b ≡ false → o ≡ None → cond b (Some f) o ≡ None
pass b f o e h = ap (λ (z : Bool). cond z (Some f) o) e ∙ h

pub or_none : (f g : Option Fault) → or_else f g ≡ None → (f ≡ None) × (g ≡ None)
or_none None g e = (refl, e)
or_none (Some f) g e = let z : ◌≡◌ {A = ℕ} 0 1 = cc in absurd (omega arith)

pub positive : (x : ℕ) → eqb x 0 ≡ false → 0 < x
positive x e = let h : x ≡ 0 → ⊥ = eqb-false x 0 e in omega arith

pub road_sound : (n : ℕ) (last : Option Road) (r : Road) → road_fault n last r ≡ None → SoundRoad n last r
road_sound n last r e =
    let x = passed _ Range _ e in
    let y = passed _ Order _ x.1 in
    let z = passed _ Cost None y.1 in
    let o = or_parts _ _ x.0 in
    let p = or_parts _ _ o.0 in
    record { upward = leb-false _ _ o.1; there = leb-false _ _ p.1; later = not-false _ y.0; costs = positive _ z.0 }

pub sound_road : (n : ℕ) (last : Option Road) (r : Road) → SoundRoad n last r → road_fault n last r ≡ None
sound_road n last r v =
    let u = v.upward in let t = v.there in let k = v.costs in
    pass _ Range _ (or_from _ _ (or_from _ _ (lt-leb n r.from (omega arith)) (lt-leb n r.to (omega arith))) (lt-leb r.to r.from (omega arith)))
    (pass _ Order _ (not_from_true _ v.later) (pass _ Cost None (ne_eqb r.cost 0 (λ e. omega arith)) refl))

roads_each : (n : ℕ) (last : Option Road) (rs : List Road) → roads_fault n last rs ≡ None → Each (SoundRoad n) last rs
unfolding roads_fault
roads_each n last [] e = tt
roads_each n last (r ∷ rs) e = let x = or_none (road_fault n last r) (roads_fault n (Some r) rs) e in (road_sound n last r x.0, roads_each n (Some r) rs x.1)

each_roads : (n : ℕ) (last : Option Road) (rs : List Road) → Each (SoundRoad n) last rs → roads_fault n last rs ≡ None
unfolding roads_fault
each_roads n last [] e = refl
each_roads n last (r ∷ rs) e = ap (λ x. or_else x (roads_fault n (Some r) rs)) (sound_road n last r e.0) ∙ each_roads n (Some r) rs e.1

pub map_sound : (n : ℕ) (rs : List Road) → map_fault n rs ≡ None → SoundRoads n rs
map_sound n rs e =
    let x = or_none (size_fault n (length rs)) (roads_fault n None rs) e in
    let y = passed _ Range None x.0 in
    let o = or_parts _ _ y.0 in
    let p = or_parts _ _ o.0 in
    record { some = positive _ p.0; few = ltb-false _ _ p.1; short = ltb-false _ _ o.1; each = roads_each n None rs x.1 }

pub sound_map : (n : ℕ) (rs : List Road) → SoundRoads n rs → map_fault n rs ≡ None
sound_map n rs v =
    let s = v.some in
    ap (λ x. or_else x (roads_fault n None rs)) (pass _ Range None (or_from _ _ (or_from _ _ (ne_eqb n 0 (λ e. omega arith)) (le-ltb 512 n v.few)) (le-ltb 4096 (length rs) v.short)) refl)
    ∙ each_roads n None rs v.each

-- a size without a fault leaves it to the roads
pub size_passes : (n : ℕ) (rs : List Road) → size_fault n (length rs) ≡ None → map_fault n rs ≡ roads_fault n None rs
size_passes n rs e = ap (λ x. or_else x (roads_fault n None rs)) e

-- ---- the test that there is none
none_passes : (o : Option Fault) → no_fault o ≡ true → o ≡ None
none_passes None e = refl
none_passes (Some f) e = let z : ◌≡◌ {A = ℕ} 0 1 = cc in absurd (omega arith)

pub faultless_none : (n : ℕ) (rs : List Road) → faultless n rs ≡ true → map_fault n rs ≡ None
faultless_none n rs e = none_passes (map_fault n rs) e

pub none_faultless : (n : ℕ) (rs : List Road) → map_fault n rs ≡ None → faultless n rs ≡ true
none_faultless n rs e = ap no_fault e
