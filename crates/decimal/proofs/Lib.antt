pub mod DigitLaws
pub mod IntegerLaws
pub mod NumeralLaws
pub mod TextLaws
