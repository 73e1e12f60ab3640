-- The other laws are those of `laws`, LocateSteps, and of `algebra`, PairLaws.
pub mod LoneLaws
