-- The laws of map documents. Assumes nothing.
use Rattle.std.proofs.Common.{◌≡◌, ℕ, ◌+◌, Bool, true, false, cond, List, [], ◌++◌, length, IfOk, Some, None, Ok, Err, Option, Result, sym, refl, ap, ◌∙◌, arith}
use Rattle.std.proofs.lemmas.List.{append-nil, drop_all}
use Rattle.std.proofs.lemmas.Bool.{eqb-true, eq-eqb}
use Rattle.maps.specs.declared.kinds.Fault.{Fault}
use Rattle.maps.specs.declared.kinds.Fault.TheVariants.{Form, Apart}
use Rattle.maps.specs.Roads.{or_else}
use Rattle.maps.proofs.RoadLists.{or_none}
use Rattle.reading.specs.declared.kinds.Place.{Place}
use Rattle.reading.specs.Reading.{Read, left_over, start, Bytes, Reads}
use Rattle.reading.specs.declared.kinds.Stop.{Stop}
use Rattle.reading.specs.Telling.{Tells}
use Rattle.reading.proofs.Steps.{tells_got}
use Rattle.reading.proofs.Closing.{close_trip, close_back, close_cut}
use Rattle.documents.specs.Maps.{Charted, read_roads, apart, last_fault, read_whole_map, write_map}
use Rattle.documents.specs.Laws.{Sound, ComesBack, ComesBackWhole, GoesBack, GoesBackWhole, CutIsTold}
use Rattle.documents.proofs.Charts.{SoundMap, chart_fits}

from_start : {x : Read Charted} {m : Charted} (k : ℕ) → Reads x m (0 + k) → Reads x m k
from_start k r = let e = r.2 in (r.0, r.1, omega arith)

-- what is told at the end of a map that something else may follow
abbrev end_fault : List ℕ → Charted → Place → Option Fault
end_fault bytes m p = apart m

none_true : (f : Fault) (b : Bool) → cond b None (Some f) ≡ None → b ≡ true
none_true f true e = refl
none_true f false e = let z : ◌≡◌ {A = ℕ} 0 1 = cc in absurd (omega arith)

fair : (m : Charted) → Sound m → apart m ≡ None
fair m v = ap (λ (b : Bool). cond b None (Some Apart)) v.whole

pub comes_back : ComesBack
comes_back m v rest =
    from_start (length (write_map m))
    (close_trip read_roads write_map SoundMap chart_fits end_fault (write_map m ++ rest) rest start m v.roads (λ p e. fair m v) refl)

pub comes_back_whole : ComesBackWhole
comes_back_whole m v =
    from_start (length (write_map m))
    (close_trip read_roads write_map SoundMap chart_fits last_fault (write_map m) [] start m v.roads
    (λ p e.
    ap (λ (b : Bool). or_else (cond b None (Some Form)) (apart m)) (eq-eqb p.byte (length (write_map m)) (omega arith))
    ∙ fair m v)
    (sym (append-nil (write_map m))))

pub goes_back : GoesBack
goes_back bytes all m next e =
    let b = close_back read_roads write_map SoundMap chart_fits end_fault bytes all start next m e in
    (record { roads = b.0; whole = none_true Apart _ b.3 }, b.1)

pub goes_back_whole : GoesBackWhole
goes_back_whole bytes all m next e =
    let b = close_back read_roads write_map SoundMap chart_fits last_fault bytes all start next m e in
    let n = or_none (left_over bytes b.2) (apart m) b.3 in
    let ends : b.2.byte ≡ length bytes = eqb-true b.2.byte (length bytes) (none_true Form _ n.0) in
    let h = b.4 in (
      record { roads = b.0; whole = none_true Apart _ n.1 },
      b.1 ∙ ap (λ z. write_map m ++ z) (drop_all next.byte bytes (omega arith)) ∙ append-nil (write_map m),
    )

pub cut_is_told : CutIsTold
cut_is_told m v front back e l = (
  close_cut read_roads write_map SoundMap chart_fits end_fault front front back start m v.roads refl e l,
  close_cut read_roads write_map SoundMap chart_fits last_fault front front back start m v.roads refl e l,
)

-- what the code tells, written again
pub written_again : {B : Type 0} (view : B → Charted) (bytes : List ℕ) → Bytes bytes → (r : Result B Stop) → Tells view (read_whole_map bytes) r
    → IfOk r (λ m. bytes ≡ write_map (view m))
written_again view bytes all (Ok m) t = let g = tells_got view (read_whole_map bytes) m t in (goes_back_whole bytes all (view m) g.0 g.1).1
written_again view bytes all (Err e) t = tt
