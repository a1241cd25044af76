-- The two lists, their premise by the laws of it, their numbers by computation. Assumes nothing.
use mathlib.Core.Path.{◌≡◌, refl, subst, sym}
use mathlib.Core.List.{List, [], ◌∷◌, map}
use mathlib.Core.Logic.{inl, inr}
use Prim.Native.Nat.{ℕ}
use Rattle.bitmap.specs.Lists.{retable}
use Rattle.bitmap.specs.Bits.{test_bit, pack, words_for, set_bit}
use Rattle.array_columns.specs.declared.Kind.TheVariants.{Int8}
use Rattle.array_columns.specs.declared.Layout.{Layout}
use Rattle.array_columns.specs.declared.Layout.TheVariants.{Dense, Sparse}
use Rattle.array_columns.specs.Buffers.{Buffers}
use Rattle.union_array.specs.Types.{low_bits}
use Rattle.union_names.specs.Utf8.{following, utf8}
use Rattle.union_names.specs.Names.{question17}
use Rattle.union_builder.specs.Builder.{column_fits, question15, question16, builder_checked, open_checked, made_of, known}
use Rattle.union_builder.specs.Append.{append_checked, builder_after, buffers_after, append_with}
use Rattle.union_builder.specs.Finish.{finish_cloned_of}
use Rattle.union_history.specs.Claim as Claim
use Rattle.union_history.specs.Claim.{Call, Demand3, Proper, State, at_end, making, replies, reply, start, step}
use Rattle.union_history.specs.Premise.{PremiseMetOn, in_turn}
use Rattle.union_history.proofs.Agree.{agree_refl}
use Rattle.union_history.proofs.Premises.{append_goes_on, premise_met_on, sixteen_stays}
use Rattle.union_history.proofs.Whole.{demand3}
use Rattle.edge_table.specs.Table.{fresh, held, three}
use Rattle.edge_table.specs.Witness.{Witness, Witnessed, little, one, refused_calls, rest, row_calls, single, small}

-- a making and its calls, once the premise and the numbers are known
witnessed : (l : Layout) (c k : ℕ) (m : Buffers) (calls : List Call) (numbers : List ℕ) → (made_of l c k m).refusal ≡ 0 → Proper (start (made_of l c k m).builder m) calls
    → map (λ r. r.refusal) (replies (start (made_of l c k m).builder m) calls) ≡ numbers → Witnessed l c k m calls numbers
unfolding Demand3
witnessed l c k m calls numbers made proper answered =
    record { made = made; proper = proper; answered = answered; told = demand3 l c k (made_of l c k m).builder m calls (making l c k m made) proper }

row_made : (l : Layout) → (made_of l 4 2 held).refusal ≡ 0
unfolding made_of builder_checked question15 question16 column_fits words_for held
row_made Sparse = refl
row_made Dense = refl

row_proper : (l : Layout) → Proper (fresh l) (row_calls l)
unfolding row_calls three PremiseMetOn
row_proper l = premise_met_on (fresh l) three refl

row_answered : (l : Layout) → map (λ r. r.refusal) (replies (fresh l) (row_calls l)) ≡ 0 ∷ 0 ∷ 0 ∷ 0 ∷ []
unfolding row_calls three fresh held retable test_bit pack words_for set_bit low_bits following utf8 question17 column_fits question15 question16 builder_checked open_checked made_of known append_checked builder_after buffers_after append_with finish_cloned_of step
row_answered Sparse = refl
row_answered Dense = refl

refused_made : (l : Layout) → (made_of l 2 1 small).refusal ≡ 0
unfolding made_of builder_checked question15 question16 column_fits words_for small
refused_made Sparse = refl
refused_made Dense = refl

refused_answered : (l : Layout) → map (λ r. r.refusal) (replies (single l) (refused_calls l)) ≡ 0 ∷ 16 ∷ 17 ∷ 18 ∷ 20 ∷ 0 ∷ 19 ∷ 0 ∷ []
unfolding refused_calls one single small little retable test_bit pack words_for set_bit low_bits following utf8 question17 column_fits question15 question16 builder_checked open_checked made_of known append_checked builder_after buffers_after append_with finish_cloned_of step
refused_answered Sparse = refl
refused_answered Dense = refl

-- the second call is lent too little
refused_16 : (l : Layout) → (reply (at_end (single l) (one l)) (Claim.append little (65 ∷ []) Int8 8)).refusal ≡ 16
unfolding one single small little retable test_bit pack words_for set_bit low_bits following utf8 question17 column_fits question15 question16 builder_checked open_checked made_of known append_checked builder_after buffers_after append_with step
refused_16 Sparse = refl
refused_16 Dense = refl

refused_proper : (l : Layout) → Proper (single l) (refused_calls l)
unfolding refused_calls one PremiseMetOn
refused_proper l =
    let s : State = at_end (single l) (one l) in (
      inr (agree_refl _ _ _),
      append_goes_on (single l) _ _ _ _ _,
      (
        inl (refused_16 l),
        append_goes_on s _ _ _ _ _,
        subst (λ (x : State). Proper x (in_turn s rest)) (sym (sixteen_stays s little (65 ∷ []) Int8 8 (refused_16 l))) (premise_met_on s rest refl),
      ),
    )

pub witness : Witness
unfolding Witness fresh single
witness l = (
  witnessed l 4 2 held (row_calls l) (0 ∷ 0 ∷ 0 ∷ 0 ∷ []) (row_made l) (row_proper l) (row_answered l),
  witnessed l 2 1 small (refused_calls l) (0 ∷ 16 ∷ 17 ∷ 18 ∷ 20 ∷ 0 ∷ 19 ∷ 0 ∷ []) (refused_made l) (refused_proper l) (refused_answered l),
)
