use Rattle.std.proofs.Common.{refl}
use Rattle.landmarks.proofs.Closest.{landmark_there, landmark_only, landmark_own}
use Rattle.landmarks.proofs.laws.landmark_laws.Goals as goal

pub returns : goal.returns
returns c = record { count = refl; there = landmark_there; only = landmark_only; own = landmark_own }
