-- What each call answers, by the number of 1 to 6. Assumes nothing.
use mathlib.Core.Bool.{Bool, true, false, not, true≢false}
use mathlib.Core.List.{List, [], ◌∷◌, ◌++◌, map}
use mathlib.Core.Option.{none, some}
use mathlib.Core.Path.{◌≡◌, refl, sym, ap, ap₂, ◌∙◌}
use Prim.Native.Nat.{ℕ, zero, suc, ◌+◌, ◌-◌, ◌≤◌, ◌<◌}
use lib.Dec.{eqb}
use lib.IntN.{ℤ}
use lib.ListN.{length, get_or, set, take, drop, replicate, length-map, get_or-map}
use lib.Seq.{length-take-le, take_all}
use native.Mathlib.Omega.{arith}
use Rattle.std.specs.Prelude.{Ok, Err, Some, None, ok_or}
use Rattle.std.specs.declared.option.Option as given
use Rattle.array_columns.specs.declared.Refusal.{Refusal}
use Rattle.array_columns.specs.declared.Refusal.TheVariants.{UnknownId}
use Rattle.array_columns.specs.Buffers.{Buffers, amounts_of}
use Rattle.array_columns.specs.Refusal.{if_yes, refusal_number}
use Rattle.union_array.specs.Types.{Column, UnionArray, no_column, by_layout}
use Rattle.union_array.specs.Slots.{in_use, all, column_of, nulls_in}
use Rattle.union_array.specs.Questions.{asked, column_in, presence_in}
use Rattle.union_array.specs.Lookup.{NamePlace, Shown, child_told, type_names_told, flag_told, type_ids_told, child_of, is_dense_of, is_nullable_of, type_names_of, type_ids_of, name_of, no_name}
use Rattle.union_array.specs.Look.{looked_told, look_of}
use Rattle.array_columns.proofs.Numbered.{if_refused, then_refused}
use Rattle.union_array.proofs.Accepted.{accepted}
use Rattle.array_columns.proofs.Present.{presence_words, presence_in_lem}
use Rattle.array_columns.proofs.Values.{fill_more}
use Rattle.array_columns.proofs.Columns.{all_less, all_more, all_at, take_more}

module _ (a : UnionArray) (m : Buffers) where
  -- ---- child

  pub child_refused : (id : ℤ) (r : Refusal) → looked_told (Err r) ≡ look_of a m id → child_told (Err r) ≡ child_of a m id
  unfolding look_of child_of
  child_refused id r e = rw (← ap (λ l. l.refusal) e, then_refused r, if_refused r)

  pub child_missing : (id : ℤ) → looked_told (Ok None) ≡ look_of a m id → child_told (Err UnknownId) ≡ child_of a m id
  unfolding look_of child_of
  child_missing id e =
      let z : 0 ≡ asked a m = ap (λ l. l.refusal) e in
      let f : none ≡ if_yes (asked a m) (column_of (in_use a) id) none = ap (λ l. l.column) e in
      rw (← z, ← (rw (← z) at f))

  pub child_is : (id : ℤ) (c : Column) → looked_told (Ok (Some c)) ≡ look_of a m id → child_told (Ok c) ≡ child_of a m id
  unfolding look_of child_of
  child_is id c e =
      let z : 0 ≡ asked a m = ap (λ l. l.refusal) e in
      let f : some c ≡ if_yes (asked a m) (column_of (in_use a) id) none = ap (λ l. l.column) e in
      rw (← z, ← (rw (← z) at f))

  pub child_found : (id : ℤ) (o : given.Option Column) → looked_told (Ok o) ≡ look_of a m id → child_told (ok_or o UnknownId) ≡ child_of a m id
  child_found id None e = child_missing id e
  child_found id (Some c) e = child_is id c e

  -- ---- refused by 1 to 6

  module _ (r : Refusal) (e : refusal_number r ≡ asked a m) where
    pub dense_refused : flag_told (Err r) ≡ is_dense_of a m
    unfolding is_dense_of
    dense_refused = rw (← e, if_refused r)

    pub nullable_refused : flag_told (Err r) ≡ is_nullable_of a m
    unfolding is_nullable_of
    nullable_refused = rw (← e, if_refused r)

    pub names_refused : type_names_told (Err r) ≡ type_names_of a m
    unfolding type_names_of
    names_refused = rw (← e, if_refused r)

    pub ids_refused : type_ids_told (Err r) ≡ type_ids_of a m
    unfolding type_ids_of
    ids_refused = rw (← e, if_refused r)

  -- ---- accepted by them

  module _ (e : 0 ≡ asked a m) where
    pub dense_is : (b : Bool) → b ≡ by_layout a.layout false true → flag_told (Ok b) ≡ is_dense_of a m
    unfolding is_dense_of
    dense_is b f = rw (f, ← e)

    pub nullable_is : (b : Bool) → b ≡ not (all (λ c. eqb (nulls_in c m) 0) (in_use a)) → flag_told (Ok b) ≡ is_nullable_of a m
    unfolding is_nullable_of
    nullable_is b f = rw (f, ← e)

    pub presences_in : all (presence_in m) (in_use a) ≡ true
    presences_in = all_less (column_in (amounts_of m)) (presence_in m) (in_use a) (λ c h. presence_words m c ∙ presence_in_lem m c h) (accepted a m (sym e)).parts

    pub names_are : length a.columns ≡ 128 → (names : List NamePlace) → names ≡ map name_of (in_use a) ++ replicate (128 - length (in_use a)) no_name
        → type_names_told (Ok (record { names = names; count = a.fields })) ≡ type_names_of a m
    unfolding type_names_of
    names_are whole names f =
        let few : a.fields ≤ 128 = (accepted a m (sym e)).few in
        rw (f, length-take-le a.fields a.columns (omega arith), ← e)

    pub few : a.fields ≤ 128
    few = (accepted a m (sym e)).few

    pub ids_in : a.start + a.count ≤ length m.ids
    ids_in = (accepted a m (sym e)).ids

    pub ids_are : (ids : List ℤ) → ids ≡ take a.count (drop a.start m.ids) → ◌≡◌ {A = Shown} (record { refusal = 0; ids = ids }) (type_ids_of a m)
    unfolding type_ids_of
    ids_are ids f = rw (f, ← e)

-- ---- a list of columns, one by one

pub all_turn : (p : Column → Bool) (cs : List Column) (j : ℕ) → j < length cs → all p (take j cs) ≡ true → p (get_or cs j no_column) ≡ true
    → all p (take (j + 1) cs) ≡ true
all_turn p cs j h e f = rw (take_more cs j h, all_more p (take j cs) (get_or cs j no_column), e, f)

pub all_fails : (p : Column → Bool) (cs : List Column) (n j : ℕ) → j < n → j < length cs → p (get_or cs j no_column) ≡ false → all p (take n cs) ≡ false
all_fails p cs n j h k f = by (all p (take n cs)) refl
  where
    by : (b : Bool) → all p (take n cs) ≡ b → b ≡ false
    by false e = refl
    by true e = absurd (true≢false (sym (all_at p n cs j e h k) ∙ f))

take_map : {A B : Type 0} (f : A → B) (n : ℕ) (l : List A) → take n (map f l) ≡ map f (take n l)
take_map f zero l = refl
take_map f (suc n) [] = refl
take_map {B = B} f (suc n) (x ∷ l) = ap (λ (r : List B). f x ∷ r) (take_map f n l)

-- the names of the first j columns, and zeros after them
unfoldable pub names_to : List Column → ℕ → List NamePlace
names_to cs j = take j (map name_of cs) ++ replicate (128 - j) no_name

pub names_none : (cs : List Column) → replicate 128 no_name ≡ names_to cs 0
unfolding names_to
names_none cs = refl

pub names_turn : (cs : List Column) (j : ℕ) (names : List NamePlace) → j < length cs → j < 128 → names ≡ names_to cs j
    → set names j (name_of (get_or cs j no_column)) ≡ names_to cs (j + 1)
unfolding names_to
names_turn cs j names h k e =
    rw (e, ← get_or-map name_of cs j no_column) (fill_more (map name_of cs) no_name 128 j (rw (length-map cs name_of) h) k)

pub names_all : (cs : List Column) (n : ℕ) → names_to cs n ≡ map name_of (take n cs) ++ replicate (128 - n) no_name
unfolding names_to
names_all cs n = ap (λ (l : List NamePlace). l ++ replicate (128 - n) no_name) (take_map name_of n cs)

pub names_whole : (cs : List Column) (j : ℕ) → j ≡ length cs → names_to cs j ≡ map name_of cs ++ replicate (128 - length cs) no_name
names_whole cs j e =
    names_all cs j
    ∙ ap₂ ◌++◌ (ap (map name_of) (ap (λ (n : ℕ). take n cs) e ∙ take_all (length cs) cs (omega arith))) (ap (λ (n : ℕ). replicate (128 - n) no_name) e)
