-- The ways out of the functions that choose a route. Assumes nothing.
use mathlib.Core.Path.{◌≡◌, refl, sym, ap, ◌∙◌, subst}
use mathlib.Core.Bool.{Bool, true, false, cond, not, ◌&&◌}
use mathlib.Core.List.{List, [], ◌∷◌}
use Prim.Native.Nat.{ℕ, zero, suc, ◌-◌, ◌≤◌, ◌<◌}
use native.Mathlib.Omega.{arith}
use borrow.Author.Tests.{lt-ltb, le-ltb, eq-eqb, ne_eqb, le-leb, lt-leb}
use lib.Dec.{eqb, leb, ltb}
use lib.ListN.{get_or, take}
use Rattle.array_columns.specs.declared.Column.{Column}
use Rattle.array_columns.specs.declared.Layout.{Layout}
use Rattle.array_columns.specs.declared.Layout.TheVariants.{Sparse, Dense}
use Rattle.union_array.specs.declared.UnionArray.{UnionArray}
use Rattle.union_array.specs.Types.{no_column, by_layout}
use Rattle.array_columns.specs.Buffers.{Buffers}
use Rattle.union_array.specs.Slots.{all}
use Rattle.null_strategy.specs.Route.{Choice, Route, Absent, OneField, AllNull, Gather, SkipOne, SkipWithoutNulls, SkipFullyNull, cheaper, sparse_route, fully_null, with_nulls, fully_nulls, route_of}
use Rattle.null_strategy.specs.Fields.{Fields, fields_of, Described}
use Rattle.null_strategy.proofs.FieldStates.{many_le}

-- ---- the cheapest so far

module _ (best : Choice) (applies : Bool) (cost : ℕ) (route : Route) where
  pub less : applies ≡ true → cost < best.cost → record { cost = cost; route = route } ≡ cheaper best applies cost route
  less e h = rw (e, lt-ltb cost best.cost h)

  pub not_less : applies ≡ true → best.cost ≤ cost → best ≡ cheaper best applies cost route
  not_less e h = rw (e, le-ltb cost best.cost h)

either : (P : Route → Type 0) (b : Bool) (best : Choice) (cost : ℕ) (route : Route) → P best.route → P route → P (cond b (record { cost = cost; route = route }) best).route
either P true best cost route h k = k
either P false best cost route h k = h

next : (P : Route → Type 0) (best : Choice) (applies : Bool) (cost : ℕ) (route : Route) → P best.route → P route → P (cheaper best applies cost route).route
next P best applies cost route = either P (applies && ltb cost best.cost) best cost route

-- what holds of the four strategies holds of the cheapest
pub sparse_is : (P : Route → Type 0) → P Gather → P SkipOne → P SkipWithoutNulls → P SkipFullyNull → (gather n m f : ℕ) → P (sparse_route gather n m f)
unfolding sparse_route
sparse_is P p q r s gather n m f =
    let first : Choice = record { cost = gather; route = Gather } in
    let one : Choice = cheaper first (eqb m n) (n - 1) SkipOne in
    let without : Choice = cheaper one true m SkipWithoutNulls in
    next P without true (n - f) SkipFullyNull (next P one true m SkipWithoutNulls (next P first (eqb m n) (n - 1) SkipOne p q) r) s

-- ---- the route of at most one field

none_masked : (n : ℕ) (cs : List Column) → n ≡ 0 → all (λ c. not c.masked) (take n cs) ≡ true
none_masked zero cs h = refl
none_masked (suc n) cs h = absurd (omega arith)

first_masked : (n : ℕ) (cs : List Column) → n ≡ 1 → all (λ c. not c.masked) (take n cs) ≡ not (get_or cs 0 no_column).masked
first_masked zero cs h = absurd (omega arith)
first_masked (suc zero) [] h = refl
first_masked (suc zero) (c ∷ cs) h = by c.masked
  where
    by : (b : Bool) → not b && true ≡ not b
    by true = refl
    by false = refl
first_masked (suc (suc n)) cs h = absurd (omega arith)

-- ---- the route of an array, by its fields

module _ (a : UnionArray) (m : Buffers) (gather : ℕ) (fs : Fields) (e : fs ≡ fields_of a m) where
  n_is : fs.count ≡ a.fields
  n_is = ap (λ (x : Fields). x.count) e

  m_is : fs.some ≡ with_nulls a m
  m_is = ap (λ (x : Fields). x.some) e

  f_is : fs.full ≡ fully_nulls a m
  f_is = ap (λ (x : Fields). x.full) e

  pub no_field : fs.count ≡ 0 → Absent ≡ route_of a m gather
  unfolding route_of
  no_field h = rw (le-leb a.fields 1 (omega (arith, n_is)), none_masked a.fields a.columns (sym n_is ∙ h))

  pub one_field : (b : Bool) → fs.count ≡ 1 → (get_or a.columns 0 no_column).masked ≡ b → cond (not b) Absent OneField ≡ route_of a m gather
  unfolding route_of
  one_field b h q = rw (le-leb a.fields 1 (omega (arith, n_is)), first_masked a.fields a.columns (sym n_is ∙ h), q)

  module _ (h : 1 < fs.count) where
    many : leb a.fields 1 ≡ false
    many = lt-leb a.fields 1 (omega (arith, n_is))

    pub no_nulls : fs.some ≡ 0 → Absent ≡ route_of a m gather
    unfolding route_of
    no_nulls z = rw (many, eq-eqb (with_nulls a m) 0 (sym m_is ∙ z))

    module _ (s : fs.some ≡ 0 → ⊥) where
      some : eqb (with_nulls a m) 0 ≡ false
      some = ne_eqb (with_nulls a m) 0 (λ z. s (m_is ∙ z))

      pub all_null : fs.full ≡ fs.count → AllNull ≡ route_of a m gather
      unfolding route_of
      all_null z = rw (many, some, eq-eqb (fully_nulls a m) a.fields (sym f_is ∙ z ∙ n_is))

      module _ (u : fs.full ≡ fs.count → ⊥) where
        by_strategy : by_layout a.layout (sparse_route gather a.fields (with_nulls a m) (fully_nulls a m)) Gather ≡ route_of a m gather
        unfolding route_of
        by_strategy = rw (many, some, ne_eqb (fully_nulls a m) a.fields (λ z. u (f_is ∙ z ∙ sym n_is)))

        pub by_cost : a.layout ≡ Sparse → sparse_route gather fs.count fs.some fs.full ≡ route_of a m gather
        by_cost l =
            ap (λ (x : Fields). sparse_route gather x.count x.some x.full) e
            ∙ ap (λ (x : Layout). by_layout x (sparse_route gather a.fields (with_nulls a m) (fully_nulls a m)) Gather) (sym l) ∙ by_strategy

        pub by_gathering : a.layout ≡ Dense → Gather ≡ route_of a m gather
        by_gathering l = ap (λ (x : Layout). by_layout x (sparse_route gather a.fields (with_nulls a m) (fully_nulls a m)) Gather) (sym l) ∙ by_strategy

-- fully null fields are at most all
pub full_le : (a : UnionArray) (fs : Fields) → Described a fs → fs.full ≤ fs.count
unfolding fully_nulls
full_le a fs d = subst (λ (x : Fields). x.full ≤ x.count) (sym d.fields) (many_le (fully_null d.buffers) a.fields a.columns)
