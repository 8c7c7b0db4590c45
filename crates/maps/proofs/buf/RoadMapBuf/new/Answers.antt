use Rattle.std.proofs.Common.{◌≡◌, ℕ, ◌+◌, List, [], ◌++◌, length, take, drop, None, vec_items, sym, ap, ◌∙◌, subst, arith}
use Rattle.std.proofs.lemmas.List.{take_at}
use Rattle.maps.specs.Roads.{map_fault}
use Rattle.maps.specs.Laying.{arcs_of, before, Inside, Counted, Filling}
use Rattle.maps.proofs.RoadLists.{map_sound}
use Rattle.maps.proofs.Counting.{counted_start}
use Rattle.maps.proofs.Laid.{sound_inside, laid}
use Rattle.maps.proofs.buf.RoadMapBuf.new.Goals as goal

pub begin_arcs-arcs-requires : goal.begin_arcs-arcs-requires
begin_arcs-arcs-requires c =
    let n = c.args.n in
    let roads = vec_items c.args.roads in
    let none : map_fault n roads ≡ None = ap (map_fault n) (sym c.deref.ensures.value) ∙ sym c.in_ok-check_roads.ensures in
    let v = map_sound n roads none in
    let e = c.deref-2.ensures.value in
    let long : length c.deref_mut.result.now ≡ n + 1 = c.deref_mut.ensures.len ∙ c.in_ok-starts.ensures.len in
    record {
      none = subst (Counted []) (sym (c.deref_mut.ensures.value ∙ c.in_ok-starts.ensures.items_if_clones_equal (λ y e. e))) (counted_start (n + 1));
      inside = subst (λ rs. Inside rs c.deref_mut.result.now) (sym e) (sound_inside n roads c.deref_mut.result.now v long);
      few = omega (arith, ap length e, v.short);
      short = (omega arith, omega (arith, v.few));
    }

pub place_arcs-requires : goal.place_arcs-requires
place_arcs-requires c =
    let n = c.args.n in
    let roads = vec_items c.args.roads in
    let none : map_fault n roads ≡ None = ap (map_fault n) (sym c.deref.ensures.value) ∙ sym c.in_ok-check_roads.ensures in
    let starts = c.begin_arcs-arcs.new.starts in
    let made : c.in_ok-starts.starts.len ≡ n + 1 = c.in_ok-starts.ensures.len in
    let long : length starts ≡ n + 1 = c.begin_arcs-arcs.auto.starts ∙ c.deref_mut.ensures.len ∙ made in
    let whole : c.deref_mut-2.result.now ≡ starts = c.deref_mut-2.ensures.value ∙ take_at starts _ c.in_ok-starts.starts.len (long ∙ sym made) in
    let places = c.deref_mut-3.result.now in
    let costs = c.deref_mut-4.result.now in
    let base = c.begin_arcs-arcs.ensures.none places costs (c.deref_mut-3.ensures.len ∙ c.in_ok-places.ensures.len) (c.deref_mut-4.ensures.len ∙ c.in_ok-costs.ensures.len) in
    record {
      none = subst (λ z. Filling (arcs_of c.deref-3.result.now) [] z places costs) (sym whole) (subst (λ rs. Filling (arcs_of rs) [] starts places costs) (c.deref-2.ensures.value ∙ sym c.deref-3.ensures.value) base);
      inside = subst (λ rs. Inside rs c.deref_mut-2.result.now) (sym c.deref-3.ensures.value) (sound_inside n roads c.deref_mut-2.result.now (map_sound n roads none) (ap length whole ∙ long));
      fits = omega (arith, c.deref_mut-3.ensures.len, c.in_ok-places.ensures.len);
    }

pub invariant_of-result : goal.invariant_of-result
invariant_of-result c =
    let n = c.args.n in
    let roads = vec_items c.args.roads in
    let none : map_fault n roads ≡ None = ap (map_fault n) (sym c.deref.ensures.value) ∙ sym c.in_ok-check_roads.ensures in
    let made : c.in_ok-starts.starts.len ≡ n + 1 = c.in_ok-starts.ensures.len in
    let starts : List ℕ = c.place_arcs.new.starts in
    let places : List ℕ = c.place_arcs.new.places in
    let costs : List ℕ = c.place_arcs.new.costs in
    let long : length starts ≡ n + 1 = c.place_arcs.auto.starts ∙ c.deref_mut-2.ensures.len ∙ made in
    let long-p : length places ≡ c.in_ok-places.places.len = c.place_arcs.auto.places ∙ c.deref_mut-3.ensures.len in
    let long-c : length costs ≡ c.in_ok-costs.costs.len = c.place_arcs.auto.costs ∙ c.deref_mut-4.ensures.len in
    let all : Filling (arcs_of roads) (arcs_of roads) starts places costs = subst (λ rs. Filling (arcs_of rs) (arcs_of rs) starts places costs) c.deref-3.ensures.value c.place_arcs.ensures.all in
    let room : length places ≡ before (arcs_of roads) n = long-p ∙ c.in_ok-places.ensures.len ∙ c.begin_arcs-arcs.ensures.all n (c.deref_mut.ensures.len ∙ made) ∙ ap (λ rs. before (arcs_of rs) n) c.deref-2.ensures.value in
    let begun : List ℕ = c.begin_arcs-arcs.new.starts in
    -- what lies behind the elements in memory
    let past : List ℕ = drop (length starts) (take c.in_ok-starts.starts.len (begun ++ drop (length begun) c.in_ok-starts.starts.items)) in
    let r = laid n roads none starts places costs _ _ _ (take_at starts past c.in_ok-starts.starts.len (long ∙ sym made))
    (take_at places (drop (length places) c.in_ok-places.places.items) c.in_ok-places.places.len long-p)
    (take_at costs (drop (length costs) c.in_ok-costs.costs.items) c.in_ok-costs.costs.len long-c)
    all long room c.place_arcs.ensures.cheap in
    record { sound = r.0; good = r.1; same = r.2 }
