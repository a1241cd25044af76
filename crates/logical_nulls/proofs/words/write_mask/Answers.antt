-- What each way writes is the null mask. Assumes nothing.
use Rattle.std.proofs.Common.{rules, ◌≡◌, refl, sym, ap, ◌∙◌, arith, length}
use Rattle.array_columns.specs.declared.Layout.TheVariants.{Sparse}
use Rattle.array_columns.specs.Buffers.{Buffers}
use Rattle.union_array.specs.Slots.{in_use}
use Rattle.mask_words.specs.Steps.{over_of}
use Rattle.logical_nulls.proofs.Masks.{accepted, short, few_fields, nulls_alone, ids_long, room, fields_ready, stepped, named_on, gathers_on, gathered}
use Rattle.logical_nulls.proofs.words.write_mask.Goals as goal

pub shared_ref_as_front-columns : goal.shared_ref_as_front-columns
shared_ref_as_front-columns c =
    let a = c.args in
    (accepted a.array.now a.fs.now a.route a.lent.now a.out.now c.requires).array.few

pub slice_bounds-rest-count : goal.slice_bounds-rest-count
slice_bounds-rest-count c =
    let a = c.args in
    let y = (accepted a.array.now a.fs.now a.route a.lent.now a.out.now c.requires).array in
    let e = ap (λ (m : Buffers). m.ids) c.lent.view_is in
    omega (arith, ap length e, y.ids)

pub slice_bounds-rest-start : goal.slice_bounds-rest-start
slice_bounds-rest-start c =
    let a = c.args in
    let y = (accepted a.array.now a.fs.now a.route a.lent.now a.out.now c.requires).array in
    let e = ap (λ (m : Buffers). m.ids) c.lent.view_is in
    omega (arith, ap length e, y.ids)

pub slice_bounds-ids-end : goal.slice_bounds-ids-end
slice_bounds-ids-end c =
    let a = c.args in
    let used : length (in_use a.array.now) ≡ a.array.now.fields = search rules in
    sym (ids_long a.array.now a.fs.now a.route a.lent.now a.out.now c.requires used _ (ap (λ (m : Buffers). m.ids) c.lent.view_is))

pub write_nulls-requires : goal.write_nulls-requires
write_nulls-requires c =
    let a = c.args in
    (short a.array.now a.fs.now a.route a.lent.now a.out.now c.requires, c.requires.lent)

pub returns-then-is_all_null : goal.returns-then-is_all_null
returns-then-is_all_null c =
    let a = c.args in
    c.write_nulls.ensures ∙ nulls_alone a.array.now a.fs.now a.route a.lent.now a.out.now c.requires (sym c.is_all_null.ensures ∙ c.if-is_all_null.true)

pub write_stepped-requires : goal.write_stepped-requires
write_stepped-requires c =
    let a = c.args in
    let used : length (in_use a.array.now) ≡ a.array.now.fields = search rules in
    let sparse : a.array.now.layout ≡ Sparse = search rules in
    let e = ap (λ (m : Buffers). m.ids) c.lent.view_is in
    record {
      room = room a.array.now a.fs.now a.route a.lent.now a.out.now c.requires used _ e;
      ready = fields_ready a.array.now a.fs.now a.route a.lent.now a.out.now c.requires used _ e sparse;
    }

pub returns-then-is_stepped : goal.returns-then-is_stepped
returns-then-is_stepped c =
    let a = c.args in
    let used : length (in_use a.array.now) ≡ a.array.now.fields = search rules in
    let sparse : a.array.now.layout ≡ Sparse = search rules in
    let e = ap (λ (m : Buffers). m.ids) c.lent.view_is in
    c.write_stepped.ensures ∙ stepped a.array.now a.fs.now a.route a.lent.now a.out.now c.requires used _ e sparse (over_of a.route)

pub of-taken-requires : goal.of-taken-requires
of-taken-requires c =
    let a = c.args in few_fields a.array.now a.fs.now a.route a.lent.now a.out.now c.requires

pub gather-requires : goal.gather-requires
gather-requires c =
    let a = c.args in
    let used : length (in_use a.array.now) ≡ a.array.now.fields = search rules in
    let e = ap (λ (m : Buffers). m.ids) c.lent.view_is in
    let p = c.places.ensures ∙ c.of-taken.ensures in
    record {
      room = room a.array.now a.fs.now a.route a.lent.now a.out.now c.requires used _ e;
      named = named_on a.array.now a.fs.now a.route a.lent.now a.out.now c.requires used _ e c.places.result.now p;
      gathers = gathers_on a.array.now a.fs.now a.route a.lent.now a.out.now c.requires used _ e c.places.result.now p _ refl;
    }

pub returns-else-eq : goal.returns-else-eq
returns-else-eq c =
    let a = c.args in
    let used : length (in_use a.array.now) ≡ a.array.now.fields = search rules in
    let e = ap (λ (m : Buffers). m.ids) c.lent.view_is in
    c.gather.ensures
    ∙ gathered a.array.now a.fs.now a.route a.lent.now a.out.now c.requires used _ e c.places.result.now (c.places.ensures ∙ c.of-taken.ensures) _ refl
