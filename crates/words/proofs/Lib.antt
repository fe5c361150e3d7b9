-- Laws of the words: loops that fill arrays and put pieces, equal words, pieces held at their places; there and back.
pub mod ArrayLaws
pub mod PutLaws
pub mod PieceLaws
pub mod SameLaws
pub mod HeldLaws
pub mod SetLaws
pub mod WordsLaws
pub mod CountLaws
-- CameLaws: what the answer to a fetch leaves.
pub mod CameLaws
pub mod NumberLaws
pub mod TripLaws
pub mod KeptLaws
pub mod BackLaws
pub mod SmallLaws
pub mod FloatLaws
pub mod MatcherLaws
-- PagesLaws: the cache's pages and ring in the words. OpenLaws: a step that leaves a fetch open, and one that opens none. StepLaws: what a step puts.
pub mod PagesLaws
pub mod OpenLaws
pub mod StepLaws
-- LookLaws: what the cache's lookups read. WorkLaws: what a match and a road put.
pub mod LookLaws
pub mod WorkLaws
-- PageSetLaws: one slot or age that is put, and words with other pages. BeginLaws: a load that begins.
pub mod PageSetLaws
pub mod BeginLaws
-- UsesLaws: clock and ages that are put.
pub mod UsesLaws
-- CallLaws: the matcher's and predict's own calls.
pub mod CallLaws
