-- Walks by any rule that says at each place where one goes on; and the rule that posts and cards come to. Assumes nothing.
--
-- Glossary
--   Rule      where one goes on, place by place
--   saying    the rule of posts and a card: what they say
--   journey   how a walk to v by a rule ends that may go so many roads more, from u, after roads of some cost
--   rule_of   the rule of a set of places and a landmark: from the places of the set towards v, and from the landmark too; from elsewhere
--             towards the landmark
--   Follow    a rule leads from u to v by so many roads that cost so much
--   Leads     a rule leads from u to a place on the way by so many roads
--   Guide     what the set and the landmark need so that one arrives
--   Walked    a walk by a rule from u that ends at v
use Rattle.std.specs.Prelude.{◌≡◌, ℕ, zero, suc, ◌+◌, ◌*◌, ◌<◌, ◌≤◌, Bool, true, cond, ◌⊎◌, ◌==◌, ◌≢◌}
use Rattle.ways.specs.Map.{Map, At, far, Hop, To, hop}
use Rattle.ways.specs.Ways.{Route, BothWays, Joined}
use Rattle.cards.specs.declared.kinds.Card.{Card}
use Rattle.walking.specs.Walks.{Posts, goes, onward}
use Rattle.walking.specs.declared.kinds.End.{End}
use Rattle.walking.specs.declared.kinds.End.TheVariants.{Arrived, Worn}

abbrev pub Rule : Type 0
Rule = ℕ → Hop

abbrev pub saying : Posts → Card → Rule
saying posts card u = goes (posts u) card u

unfoldable pub journey : ℕ → Map → Rule → ℕ → ℕ → ℕ → End
journey zero z rule v cost u = Worn
journey (suc k) z rule v cost u = cond (u == v) (Arrived cost) (onward (journey k z rule v) z cost u (rule u))

abbrev pub rule_of : Map → (ℕ → Bool) → ℕ → ℕ → Rule
rule_of z known mark v u = cond (known u) (hop z v u) (cond (u == mark) (hop z v mark) (hop z mark u))

pub data Follow (z : Map) (rule : Rule) (v : ℕ) : ℕ → ℕ → ℕ → Type 0 where
  there : v < z.n → Follow z rule v v 0 0
  on : (u e c k : ℕ) → u < z.n → (u ≢ v) → rule u ≡ To e → 0 < z.cost u e → Follow z rule v e c k → Follow z rule v u (z.cost u e + c) (1 + k)

pub data Leads (rule : Rule) (v x : ℕ) : ℕ → ℕ → Type 0 where
  already : Leads rule v x x 0
  further : (u e k : ℕ) → (u ≢ v) → rule u ≡ To e → Leads rule v x e k → Leads rule v x u (1 + k)

-- Nobody turns in a ring: where a rule leads to v, no place on the way comes twice.
abbrev pub NoRing : Type 0
NoRing = (z : Map) (rule : Rule) (v u x c k i j : ℕ) → Follow z rule v u c k → Leads rule v x u i → Leads rule v x x (1 + j) → ⊥

-- no road leads off the map
abbrev pub Inside : Map → Type 0
Inside z = (a e : ℕ) → a < z.n → 0 < z.cost a e → e < z.n

-- Whoever arrives, by a right rule or a wrong one, has followed it, by fewer roads than he might go; and has paid what it cost.
abbrev pub ArrivedFollowed : Type 0
ArrivedFollowed = (z : Map) (rule : Rule) (v k cost u c : ℕ) → Inside z → u < z.n → v < z.n → journey k z rule v cost u ≡ Arrived c → (t : ℕ) × (j : ℕ) × (c ≡ cost + t) × (j < k) × Follow z rule v u t j

-- What is followed is a way of the map, and whoever may go more roads than it has arrives.
abbrev pub FollowedArrives : Type 0
FollowedArrives = (z : Map) (rule : Rule) (v u c k : ℕ) → Follow z rule v u c k → Route z v u c k × ((j cost : ℕ) → k < j → journey j z rule v cost u ≡ Arrived (cost + c))

-- Once one is in the set one stays there all the way to v, and one step on from the landmark one is in it. (If the landmark is v there is no
-- such step; if the landmark is in the set, `stays` gives it.)
pub record Guide (z : Map) (known : ℕ → Bool) (mark v : ℕ) : Type 0 where
  pub place : v < z.n
  pub landmark : mark < z.n
  pub home : known v ≡ true
  pub stays : (u w : ℕ) → u < z.n → known u ≡ true → hop z v u ≡ To w → known w ≡ true
  pub starts : (w : ℕ) → hop z v mark ≡ To w → known w ≡ true

-- A walk of k roads that cost c: it follows the rule, it is a way of the map, and no place comes twice; whoever may go more than k roads arrives.
pub record Walked (z : Map) (rule : Rule) (v u c k : ℕ) : Type 0 where
  pub follows : Follow z rule v u c k
  pub way : Route z v u c k
  pub few : k < z.n
  pub ends : (j cost : ℕ) → k < j → journey j z rule v cost u ≡ Arrived (cost + c)

-- It costs at most what the way to the landmark and on from there costs; and just the distance from the set, or if v is the landmark.
pub record GuidedWalk (z : Map) (known : ℕ → Bool) (mark v u : ℕ) : Type 0 where
  pub cost : ℕ
  pub roads : ℕ
  pub walked : Walked z (rule_of z known mark v) v u cost roads
  pub by_landmark : (p q : ℕ) → far z mark u ≡ At p → far z v mark ≡ At q → cost ≤ p + q
  pub cheapest : (p : ℕ) → far z v u ≡ At p → (known u ≡ true) ⊎ (mark ≡ v) → cost ≡ p

-- From every place one arrives, whatever roads cost there and back.
abbrev pub GuidedArrives : Type 0
GuidedArrives = (z : Map) (known : ℕ → Bool) (mark v : ℕ) → Joined z → Guide z known mark v → (u : ℕ) → u < z.n → GuidedWalk z known mark v u

-- all places closer to v than the landmark is are in the set
abbrev pub Wide : Map → (ℕ → Bool) → ℕ → ℕ → Type 0
Wide z known mark v = (u p r : ℕ) → u < z.n → far z v u ≡ At p → far z v mark ≡ At r → p < r → known u ≡ true

-- If roads cost the same both ways and the set is wide, the walk costs at most three times the distance.
abbrev pub GuidedThrice : Type 0
GuidedThrice = (z : Map) (known : ℕ → Bool) (mark v u p : ℕ) → BothWays z → Joined z → mark < z.n → v < z.n → u < z.n → Wide z known mark v → (w : GuidedWalk z known mark v u) → far z v u ≡ At p → w.cost ≤ 3 * p

-- A wide set is entered one step on from the landmark.
abbrev pub WideStarts : Type 0
WideStarts = (z : Map) (known : ℕ → Bool) (mark v w : ℕ) → mark < z.n → v < z.n → Wide z known mark v → hop z v mark ≡ To w → known w ≡ true
