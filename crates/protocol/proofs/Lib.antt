-- Laws on fields.
pub mod HexLaws
pub mod NumbersLaws
