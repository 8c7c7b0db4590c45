-- The rows of a map that is lent are those of the roads, and how they are looked up. Assumes nothing.
use Rattle.std.proofs.Common.{◌≡◌, ℕ, ◌+◌, ◌*◌, ◌<◌, ◌≤◌, Bool, cond, ◌&&◌, ltb, List, get_or, vec_items, sym, ap, ◌∙◌, subst, arith}
use Rattle.std.proofs.lemmas.Nat.{mul-add-lt}
use Rattle.std.proofs.lemmas.Bool.{and_from, lt-ltb}
use Rattle.distances.specs.Rows.{FarRows, HopRows, far_number, hop_number}
use Rattle.maps.proofs.Costs.{meaning}
use Rattle.maps.proofs.SoundArcs.{arcs_of_lem}
use Rattle.maps.specs.Arcs.{Arcs}
use Rattle.maps.specs.Charts.{ground_of}
use Rattle.maps.specs.declared.buf.RoadMapBuf.{RoadMapBuf}
use Rattle.ways.proofs.LeastWays.{far_cheap}
use Rattle.ways.specs.Map.{At, Map, far, hop}
use Rattle.ways.specs.Ways.{BothWays}

pub fars_of : (z w : Map) (n : ℕ) (xs ys : List ℕ) → ys ≡ xs → z ≡ w → w.n ≡ n → FarRows z xs → (d a : ℕ) → (d < n) × (a < n) → get_or ys (d * n + a) 0 ≡ far_number (far w d a)
fars_of z w n xs ys s e k f d a r =
    let g : FarRows w xs = subst (λ (y : Map). FarRows y xs) e f in
    ap (λ (v : List ℕ). get_or v (d * n + a) 0) s ∙ subst (λ (m : ℕ). get_or xs (d * m + a) 0 ≡ far_number (far w d a)) k (g d a (omega (arith, r.0, k)) (omega (arith, r.1, k)))

pub hops_of : (z w : Map) (n : ℕ) (xs ys : List ℕ) → ys ≡ xs → z ≡ w → w.n ≡ n → HopRows z xs → (d a : ℕ) → (d < n) × (a < n) → get_or ys (d * n + a) 0 ≡ hop_number (hop w d a)
hops_of z w n xs ys s e k f d a r =
    let g : HopRows w xs = subst (λ (y : Map). HopRows y xs) e f in
    ap (λ (v : List ℕ). get_or v (d * n + a) 0) s ∙ subst (λ (m : ℕ). get_or xs (d * m + a) 0 ≡ hop_number (hop w d a)) k (g d a (omega (arith, r.0, k)) (omega (arith, r.1, k)))

-- the place of an entry lies in the table
pub entry_fits : (n d a m long : ℕ) → m ≡ n → long ≡ n * n → d < m → a < m → d * m + a < long
entry_fits n d a m long e l p q = omega (arith, mul-add-lt d m a m p q, ap (λ k. k * k) e, l)

pub chosen_in : (n d a x y : ℕ) → d < n → a < n → x ≡ cond (ltb d n && ltb a n) x y
chosen_in n d a x y p q = ap (λ (b : Bool). cond b x y) (sym (and_from (ltb d n) (ltb a n) (lt-ltb d n p) (lt-ltb a n q)))

-- what is known of the map of every owner
module _ (b : RoadMapBuf) where
  owner_arcs : Arcs b.n (vec_items b.starts) (vec_items b.places) (vec_items b.costs)
  owner_arcs = arcs_of_lem b.n (vec_items b.starts) (vec_items b.places) (vec_items b.costs) b.sound

  pub ground_few : (0 < b.n) × (b.n ≤ 512)
  ground_few = (owner_arcs.some, owner_arcs.few)

  pub ground_cheap : (a e : ℕ) → (ground_of b).cost a e ≤ 65535
  ground_cheap a e = omega (arith, b.same a e, (meaning b.n (vec_items b.starts) (vec_items b.places) (vec_items b.costs) owner_arcs).cheap a e)

  pub ground_both : BothWays (ground_of b)
  ground_both a e = sym (b.same a e) ∙ (meaning b.n (vec_items b.starts) (vec_items b.places) (vec_items b.costs) owner_arcs).both a e ∙ b.same e a

  -- every distance is below the number of no way
  pub ground_fits : (d a c : ℕ) → d < b.n → a < b.n → far (ground_of b) d a ≡ At c → c < 4294967295
  ground_fits d a c dn an e = omega (arith, ground_few.1, far_cheap (ground_of b) ground_cheap d a c dn an e)
