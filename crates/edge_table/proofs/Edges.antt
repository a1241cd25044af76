-- The table of edges, by computation. Assumes nothing.
use mathlib.Core.Path.{refl}
use Rattle.bitmap.specs.Lists.{retable}
use Rattle.bitmap.specs.Bits.{test_bit, bit_at, pack, count, words_for, is_fully_null, same_id, set_bit, written}
use Rattle.union_array.specs.Types.{low_bits}
use Rattle.union_array.specs.Slots.{present, nulls_in, slot_null}
use Rattle.union_array.specs.Questions.{question1, column_in, question3, question4, question5, question6, question7, question8, asked, checked}
use Rattle.union_array.specs.Slices.{sliced, slice_checked, slice_of}
use Rattle.null_strategy.specs.Setting.{question12, setting_of}
use Rattle.null_strategy.specs.Route.{with_nulls, fully_nulls, sparse_route, route_of}
use Rattle.logical_nulls.specs.Mask.{masked_by, logical_nulls_of, may_run, question14, strategy_of}
use Rattle.union_names.specs.Utf8.{following, utf8}
use Rattle.union_names.specs.Names.{question17}
use Rattle.union_builder.specs.Builder.{column_fits, question15, question16, builder_checked, open_checked, made_of, known}
use Rattle.union_builder.specs.Append.{append_checked, builder_after, buffers_after, append_with}
use Rattle.batch_description.specs.Description.{assembled}
use Rattle.union_builder.specs.Finish.{describe, finish_cloned_of}
use Rattle.union_history.specs.Claim.{step}
use Rattle.edge_table.specs.Table.{Edges, edge, numbers, child, plain, with_mask, array, lent, checked_with, mask_numbers, mask_at, strategy_at, route_at, slice_at, held, fresh, three, after_three, value_words, mask_words, described_marks, rows}

pub edges : Edges
unfolding Edges rows edge numbers child plain with_mask array lent checked_with mask_numbers mask_at strategy_at route_at slice_at held fresh three after_three value_words mask_words described_marks retable test_bit bit_at pack count words_for is_fully_null same_id set_bit written low_bits present nulls_in slot_null question1 column_in question3 question4 question5 question6 question7 question8 asked checked sliced slice_checked slice_of question12 setting_of with_nulls fully_nulls sparse_route route_of masked_by logical_nulls_of may_run question14 strategy_of following utf8 question17 column_fits question15 question16 builder_checked open_checked made_of known append_checked builder_after buffers_after append_with assembled describe finish_cloned_of step
edges = refl
