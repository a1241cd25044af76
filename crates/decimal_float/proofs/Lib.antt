pub mod DivisionLaws
pub mod FloatLaws
pub mod NearestLaws
pub mod BackLaws
