-- Laws on texts made of pieces.
pub mod OverwrittenLaws
pub mod ScanLaws
pub mod PiecesLaws
pub mod DecimalLaws
pub mod SpansLaws
