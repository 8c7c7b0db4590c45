-- The distance is the least cost of a way, and n - 1 roads suffice. Assumes nothing.
use Rattle.std.proofs.Common.{◌≡◌, ℕ, ◌*◌, ◌<◌, ◌≤◌, arith}
use Rattle.ways.specs.Map.{Map, At, far}
use Rattle.ways.specs.Ways.{Route, arrived, road}
use Rattle.ways.specs.Laws.{LeastWays, RoadsSuffice, DistancesFixed}
use Rattle.ways.proofs.Certificate.{rank, rank_short, route_most, route_some, within_is, far_is}
use Rattle.ways.proofs.Certified.{certified}

pub least_ways : LeastWays
least_ways z d a dn an = record {
  some_way = λ c h.
      let r = route_some z d (far z d) (certified z d dn) (rank (far z d) z.n c) a c dn an h (omega arith) in
      (r.0, omega (arith, r.1, rank_short (far z d) z.n c a an h), r.2);
  no_less = λ c k r. route_most z d (far z d) (certified z d dn) a c k r;
}

pub roads_suffice : RoadsSuffice
roads_suffice z d a k dn an h = within_is z d (far z d) (certified z d dn) k a h an

pub distances_fixed : DistancesFixed
distances_fixed z d dn = (certified z d dn, λ f s a l. far_is z d f s a l)

-- where no road costs more than 16 bits hold, no way costs more than that for each of its roads
pub route_cheap : (z : Map) → ((a e : ℕ) → z.cost a e ≤ 65535) → (d a c k : ℕ) → Route z d a c k → c ≤ 65535 * k
route_cheap z h d a c k (arrived dn) = omega arith
route_cheap z h d a c k (road _ e q m an pos r) = omega (arith, h a e, route_cheap z h d e q m r)

-- so no distance does for each place
pub far_cheap : (z : Map) → ((a e : ℕ) → z.cost a e ≤ 65535) → (d a c : ℕ) → d < z.n → a < z.n → far z d a ≡ At c → c ≤ 65535 * z.n
far_cheap z h d a c dn an e = let r = (least_ways z d a dn an).some_way c e in omega (arith, route_cheap z h d a c r.0 r.2, r.1)
