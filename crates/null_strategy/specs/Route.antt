-- The route of the null mask: "the route to M, F, N and the setting". A text in quotes is document 01's.
use Rattle.std.specs.Prelude.{Bool, true, false, cond, not, ◌&&◌, List, [], ◌∷◌, ℕ, ◌+◌, ◌-◌, eqb, leb, ltb}
use Rattle.bitmap.specs.Bits.{digit, is_fully_null}
use Rattle.array_columns.specs.declared.Column.{Column}
use Rattle.union_array.specs.declared.UnionArray.{UnionArray}
use Rattle.union_array.specs.Types.{by_layout}
use Rattle.array_columns.specs.Buffers.{Buffers}
use Rattle.union_array.specs.Slots.{in_use, all, nulls_in}
pub use Rattle.null_strategy.specs.declared.Choice.{Choice}
pub use Rattle.null_strategy.specs.declared.Route.{Route}
pub use Rattle.null_strategy.specs.declared.Route.TheVariants.{Absent, OneField, AllNull, Gather, SkipOne, SkipWithoutNulls, SkipFullyNull}

-- document 01's number of each route
abbrev pub route_number : Route → ℕ
route_number Absent = 0
route_number OneField = 1
route_number AllNull = 2
route_number Gather = 3
route_number SkipOne = 4
route_number SkipWithoutNulls = 5
route_number SkipFullyNull = 6

-- "Route 0 writes nothing"
abbrev pub is_absent : Route → Bool
is_absent Absent = true
is_absent OneField = false
is_absent AllNull = false
is_absent Gather = false
is_absent SkipOne = false
is_absent SkipWithoutNulls = false
is_absent SkipFullyNull = false

-- "present, all null"
abbrev pub is_all_null : Route → Bool
is_all_null Absent = false
is_all_null OneField = false
is_all_null AllNull = true
is_all_null Gather = false
is_all_null SkipOne = false
is_all_null SkipWithoutNulls = false
is_all_null SkipFullyNull = false

-- "routes 4 to 6 are made by their own step alone, not by gathering"; that of one field is made by a step too
abbrev pub is_stepped : Route → Bool
is_stepped Absent = false
is_stepped OneField = true
is_stepped AllNull = false
is_stepped Gather = false
is_stepped SkipOne = true
is_stepped SkipWithoutNulls = true
is_stepped SkipFullyNull = true

-- route 0: absent. Routes 1 and 2: present. Strategies: "the mask is absent if they hold no null"
abbrev pub present_on : Route → ℕ → Bool
present_on Absent nulls = false
present_on OneField nulls = true
present_on AllNull nulls = true
present_on Gather nulls = not (eqb nulls 0)
present_on SkipOne nulls = not (eqb nulls 0)
present_on SkipWithoutNulls nulls = not (eqb nulls 0)
present_on SkipFullyNull nulls = not (eqb nulls 0)

-- how many columns pass
abbrev pub how_many : (Column → Bool) → List Column → ℕ
how_many p [] = 0
how_many p (c ∷ cs) = digit (p c) + how_many p cs

-- a child with a null
abbrev pub has_null : Buffers → Column → Bool
has_null m c = not (eqb (nulls_in c m) 0)

-- a child that is fully null
abbrev pub fully_null : Buffers → Column → Bool
fully_null m c = is_fully_null (nulls_in c m) c.slots

-- "M counts children with a null"
unfoldable pub with_nulls : UnionArray → Buffers → ℕ
with_nulls a m = how_many (has_null m) (in_use a)

-- "and F the fully null ones"; N is `fields`
unfoldable pub fully_nulls : UnionArray → Buffers → ℕ
fully_nulls a m = how_many (fully_null m) (in_use a)

-- "the least cost, the earlier on a tie": the choice so far stays unless a later strategy applies and costs less
abbrev pub cheaper : Choice → Bool → ℕ → Route → Choice
cheaper best applies cost route = cond (applies && ltb cost best.cost) (record { cost = cost; route = route }) best

-- "Gather, the setting (3); SkipOne, N - 1, only if M = N (4); SkipWithoutNulls, M (5); SkipFullyNull, N - F (6)"
unfoldable pub sparse_route : ℕ → ℕ → ℕ → ℕ → Route
sparse_route gather n m f =
    (cheaper (cheaper (cheaper (record { cost = gather; route = Gather }) (eqb m n) (n - 1) SkipOne) true m SkipWithoutNulls) true (n - f) SkipFullyNull).route

-- "With at most one field: present exactly if the child has a mask, even with no null; route 1, else route 0"
abbrev pub one_field_route : UnionArray → Route
one_field_route a = cond (all (λ c. not c.masked) (in_use a)) Absent OneField

-- "M = 0: absent, route 0. F = N: present, all null .. route 2", "Dense always gathers (route 3)"
abbrev pub many_fields_route : UnionArray → Buffers → ℕ → Route
many_fields_route a m gather =
    cond (eqb (with_nulls a m) 0) Absent
    (cond (eqb (fully_nulls a m) a.fields) AllNull
    (by_layout a.layout (sparse_route gather a.fields (with_nulls a m) (fully_nulls a m)) Gather))

-- the route of the null mask at a gather cost
unfoldable pub route_of : UnionArray → Buffers → ℕ → Route
route_of a m gather = cond (leb a.fields 1) (one_field_route a) (many_fields_route a m gather)
