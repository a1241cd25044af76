pub mod KindNameLaws
pub mod PrintLaws
pub mod ValueLaws
