-- The laws of map documents. Assumes nothing.
use Rattle.std.proofs.Common.{refl}
use Rattle.documents.proofs.MapLaws.{comes_back, comes_back_whole, goes_back, goes_back_whole, cut_is_told}
use Rattle.documents.proofs.laws.map_laws.Goals as goal

pub returns : goal.returns
returns c = record { count = refl; comes = comes_back; alone = comes_back_whole; goes = goes_back; whole = goes_back_whole; cut = cut_is_told }
