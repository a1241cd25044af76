-- The declared types that array_slots goes by (array_columns).
pub use Rattle.array_columns.specs.declared.Layout.{Layout}
pub use Rattle.array_columns.specs.declared.Layout.TheVariants.{Sparse, Dense}
pub use Rattle.array_columns.specs.declared.Column.{Column}
pub use Rattle.array_columns.specs.declared.Head.{Head}
pub use Rattle.array_columns.specs.Types.{by_layout, no_column}
