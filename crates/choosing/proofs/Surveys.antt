-- What a survey of a map that hangs together gives to choosing: a table of its distances, and the orders. Assumes nothing.
use Rattle.std.proofs.Common.{◌≡◌, ℕ, ◌+◌, ◌*◌, ◌<◌, true, get_or, vec_items, sym, refl, ap, ◌∙◌}
use Rattle.ways.specs.Map.{At, far}
use Rattle.ways.specs.Ways.{Joined, hangs_together}
use Rattle.ways.proofs.Hanging.{hanging_together}
use Rattle.ways.proofs.Metric.{symmetric}
use Rattle.maps.specs.Charts.{ground_of}
use Rattle.distances.specs.Orders.{Whole}
use Rattle.distances.specs.Rows.{far_number}
use Rattle.distances.specs.declared.survey.Survey.{Survey}
use Rattle.distances.proofs.Surveyed.{ground_few, ground_both, ground_fits}
use Rattle.choosing.specs.Tables.{apart, Table}
use Rattle.choosing.specs.Turns.{Ranked}

module _ (s : Survey) (h : hangs_together (ground_of s.map) ≡ true) where
  pub survey_joined : Joined (ground_of s.map)
  survey_joined = (hanging_together (ground_of s.map) (ground_both s.map) (ground_few s.map).0).0 h

  survey_is : (v u : ℕ) → v < s.map.n → u < s.map.n → far (ground_of s.map) v u ≡ At (apart s.map.n (vec_items s.dist) v u)
  survey_is v u vn un =
      let j = survey_joined v u vn un in
      j.1 ∙ ap At (sym (s.fars v u (vn, un) ∙ ap far_number j.1))

  pub survey_table : Table (ground_of s.map) s.map.n (vec_items s.dist)
  survey_table = record {
    places = refl;
    is = survey_is;
    both = λ v u vn un. (let e = symmetric (ground_of s.map) (ground_both s.map) v u vn un in
        s.fars v u (vn, un) ∙ ap far_number e ∙ sym (s.fars u v (un, vn)));
  }

  reached : (v u : ℕ) → v < s.map.n → u < s.map.n → get_or (vec_items s.dist) (v * s.map.n + u) 0 < 4294967295
  reached v u vn un = ground_fits s.map v u (apart s.map.n (vec_items s.dist) v u) vn un (survey_is v u vn un)

  pub survey_ranked : Ranked s.map.n (vec_items s.dist) (vec_items s.order)
  survey_ranked v vn =
      let whole : Whole s.map.n (vec_items s.dist) v = (vn, λ u un. reached v u vn un) in
      record {
        inside = λ j h. s.inside v j (whole, h);
        there = λ u h. s.there v u (whole, h);
        back = λ u h. s.back v u (whole, h);
        forth = λ j h. s.forth v j (whole, h);
        rises = λ i j l h. s.rises v i j (whole, l, h);
      }
