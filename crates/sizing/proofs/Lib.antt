pub mod SearchLaws
pub mod RowLaws
pub mod ExponentLaws
pub mod SizedLaws
