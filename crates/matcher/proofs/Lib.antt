-- Laws of the candidates, for their proofs and for callers to cite.
-- ScoreLiterals: the figures that the code writes as literals. KeepLaws: how many places are kept. PlaceLaws: a candidate in its
-- place. StandLaws: where a scan reads the points of an edge. ScanWithin: every candidate kept lies within its tile.
pub mod ScoreLiterals
pub mod KeepLaws
pub mod PlaceLaws
pub mod StandLaws
pub mod ScanWithin
-- Laws of the matcher, for its proofs and for callers to cite.
-- AgreeLaws: looks that agree give the same finished match. GatherLaws: the loop over the tiles. NearGrid: keys around a fix lie in the
-- grid. Chosen: the candidate chosen is one of those kept. WithinLaws: a match lies within a tile that was looked up.
-- Heights: the height of a match is never held back. Reach: how far a search reaches over a tile's boundary. Literals: the figures that the code writes.
pub mod AgreeLaws
pub mod GatherLaws
pub mod NearGrid
pub mod Chosen
pub mod WithinLaws
pub mod Heights
pub mod Reach
pub mod Literals
