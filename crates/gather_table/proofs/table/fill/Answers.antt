use Rattle.std.proofs.Common.{rules, ◌≡◌, sym, ap, ap₂, ◌∙◌, List, ℕ, arith, take, set, get_or, replicate, length-set}
use Rattle.std.proofs.lemmas.List.{length-map}
use lib.IntN.{nat_abs}
use mir.Syntax.{w8}
use mir.Val.{of_z, to_z}
use Rattle.array_columns.specs.declared.Column.{Column}
use Rattle.array_columns.specs.Types.{no_column}
use Rattle.mask_words.specs.Steps.{columns_at}
use Rattle.mask_words.proofs.TakenUp.{at_place, valid_at}
use Rattle.mask_words.proofs.ValidIds.{valid_cast, valid_casts}
use Rattle.gather_table.specs.Table.{table_of}
use Rattle.gather_table.proofs.Entries.{table_none, table_more}
use Rattle.gather_table.proofs.table.fill.Goals as goal

pub loop-place-init : goal.loop-place-init
loop-place-init c = record {
  long = search rules;
  stored = ap (λ (x : Column). replicate 256 (record x { slots = 4294967295; id = to_z w8 (of_z w8 x.id) })) c.zeros.ensures ∙ table_none (columns_at c.args.columns.now c.args.places.now);
}

pub overflow_cast-table : goal.overflow_cast-table
overflow_cast-table c =
    let cs = c.args.columns.now in
    let places = c.args.places.now in
    let q = c.loop-place.place-index in
    valid_casts (get_or cs (get_or places q 0) no_column).id (valid_at cs places q c.loop-place-test.true c.requires.valid)

pub loop-place-preserved : goal.loop-place-preserved
loop-place-preserved c =
    let cs = c.args.columns.now in
    let places = c.args.places.now in
    let q = c.loop-place.place-index in
    let x = get_or cs (get_or places q 0) no_column in
    let all = columns_at cs places in
    let e : get_or all q no_column ≡ x = at_place cs places q c.loop-place-test.true in
    let cast = valid_cast x.id (valid_at cs places q c.loop-place-test.true c.requires.valid) in
    record {
      long = simp length-set c.loop-place.invariant.long;
      stored = ap₂ (λ (o : List Column) (i : ℕ). set o i x) c.loop-place.invariant.stored (ap nat_abs cast)
          ∙ ap (λ (y : Column). set (table_of (take q all)) (nat_abs y.id) y) (sym e)
          ∙ table_more all q (omega (arith, length-map places (λ p. get_or cs p no_column), c.loop-place-test.true));
    }
