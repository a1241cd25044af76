-- A number of a C struct that names no case is refused by 128 before the call asks its first question; `len` asks none.
use Rattle.std.specs.Prelude.{Bool, cond}

-- one answer where the numbers name cases, the answer of a refusal by 128 where they do not
abbrev pub at_boundary : {A : Type 0} → Bool → A → A → A
at_boundary ok answer refused = cond ok answer refused
