-- Document 01, "At the edges": each edge marked P is a row, with what the definitions answer and what 01 says. A text in quotes is 01's.
use Rattle.std.specs.Prelude.{◌≡◌, Bool, true, false, List, [], ◌∷◌, ◌++◌, map, ℕ, ◌-◌, ℤ, pos, negsuc, length, take, drop, replicate}
use Rattle.bitmap.specs.Bits.{digit}
use Rattle.array_columns.specs.declared.Column.{Column}
use Rattle.union_array.specs.declared.UnionArray.{UnionArray}
use Rattle.array_columns.specs.declared.Kind.TheVariants.{Int8}
use Rattle.array_columns.specs.declared.Layout.{Layout}
use Rattle.array_columns.specs.declared.Layout.TheVariants.{Sparse, Dense}
use Rattle.union_array.specs.Types.{no_column}
use Rattle.array_columns.specs.Buffers.{Buffers, buffers_of}
use Rattle.union_array.specs.Lookup.{try_new_of}
use Rattle.union_array.specs.Slices.{slice_of}
use Rattle.logical_nulls.specs.declared.SparseStrategy.{SparseStrategy}
use Rattle.logical_nulls.specs.declared.SparseStrategy.TheVariants.{Gather, SkipOne, SkipWithoutNulls, SkipFullyNull}
use Rattle.logical_nulls.specs.Mask.{Masked, logical_nulls_of, strategy_of}
use Rattle.union_builder.specs.Builder.{made_of}
use Rattle.union_builder.specs.Finish.{finish_cloned_of}
use Rattle.union_history.specs.Claim.{State, at_end, start}
use Rattle.union_history.specs.Premise.{Ask, append, append_null, finish_cloned, in_turn}

-- what the definitions answer, and what 01 says
pub record Row : Type 0 where
  pub answered : List ℤ
  pub said : List ℤ

unfoldable pub edge : List ℤ → List ℤ → Row
edge answered said = record { answered = answered; said = said }

unfoldable pub numbers : List ℕ → List ℤ
numbers ns = map (λ n. pos n) ns

-- ---- arrays over a little memory
-- a child of n slots, its values from word 0 on, its mask from bit 0 of a mask word on
unfoldable pub child : ℕ → ℕ → ℕ → Bool → Column
child id n word masked = record { values = 0; mask = word; name = 0; slots = n; bit = 0; size = 0; id = pos id; kind = Int8; masked = masked }

-- one with no mask, and one with a mask
unfoldable pub plain : ℕ → ℕ → Column
plain id n = child id n 0 false

unfoldable pub with_mask : ℕ → ℕ → ℕ → Column
with_mask id n word = child id n word true

-- the array of n slots with the children
unfoldable pub array : Layout → List Column → ℕ → UnionArray
array l cs n = record {
  columns = cs ++ replicate (128 - length cs) no_column;
  fields = length cs;
  children = length cs;
  start = 0;
  count = n;
  offsets_start = 0;
  offsets_count = n;
  layout = l;
}

-- eight value words, these type ids, offsets and mask words
unfoldable pub lent : List ℤ → List ℤ → List ℕ → Buffers
lent ids offsets masks = buffers_of ids offsets (replicate 8 0) masks []

-- try_new of so many type ids
unfoldable pub checked_with : Layout → List Column → List ℤ → List ℤ → ℕ
checked_with l cs ids offsets = try_new_of (array l cs (length ids)) (lent ids offsets [])

-- the null mask at a setting, over one word: refusal, present, null count, route
unfoldable pub mask_numbers : Masked → List ℕ
mask_numbers r = r.answer.refusal ∷ digit r.answer.present ∷ r.answer.nulls ∷ r.answer.route ∷ []

unfoldable pub mask_at : Layout → List Column → List ℤ → List ℕ → ℕ → List ℤ
mask_at l cs ids masks cost = numbers (mask_numbers (logical_nulls_of (array l cs (length ids)) (lent ids [] masks) cost (255 ∷ [])))

-- what a named strategy answers of a sparse array: its refusal
unfoldable pub strategy_at : List Column → List ℤ → List ℕ → SparseStrategy → ℕ
strategy_at cs ids masks s = (strategy_of (array Sparse cs (length ids)) (lent ids [] masks) s (255 ∷ [])).answer.refusal

unfoldable pub route_at : List Column → List ℤ → List ℕ → ℕ → List ℤ
route_at cs ids masks cost = numbers ((logical_nulls_of (array Sparse cs (length ids)) (lent ids [] masks) cost (255 ∷ [])).answer.route ∷ [])

-- a slice of three slots: its refusal
unfoldable pub slice_at : ℕ → ℕ → ℕ
slice_at o n = (slice_of (array Sparse (plain 0 3 ∷ []) 3) (lent (replicate 3 (pos 0)) [] []) o n).refusal

-- ---- "append A 7, B null, A 9" and a snapshot, over memory with something in it
unfoldable pub held : Buffers
held = buffers_of (replicate 4 (negsuc 6)) (replicate 4 (pos 99)) (replicate 8 5) (replicate 2 10) (replicate 64 1)

unfoldable pub fresh : Layout → State
fresh l = start (made_of l 4 2 held).builder held

unfoldable pub three : List Ask
three = append (65 ∷ []) Int8 7 ∷ append_null (66 ∷ []) Int8 ∷ append (65 ∷ []) Int8 9 ∷ finish_cloned ∷ []

-- the state after them, each lent the memory as the last left it
unfoldable pub after_three : Layout → State
after_three l = at_end (fresh l) (in_turn (fresh l) three)

-- n value words from a place on
unfoldable pub value_words : State → ℕ → ℕ → List ℤ
value_words s from n = numbers (take n (drop from s.buffers.values))

-- the null mask of what is described: its word, its null count
unfoldable pub mask_words : Masked → List ℤ
mask_words r = numbers (r.out ++ (r.answer.nulls ∷ []))

unfoldable pub described_marks : State → List ℤ
described_marks s = mask_words (logical_nulls_of (finish_cloned_of s.builder s.buffers).array s.buffers 10 (255 ∷ []))

-- ---- the table
unfoldable pub rows : List Row
rows =
    -- "no fields, no slots, sparse: accepted, mask absent"
    edge (pos (checked_with Sparse [] [] []) ∷ mask_at Sparse [] [] [] 10) (numbers (0 ∷ 0 ∷ 0 ∷ 0 ∷ 0 ∷ []))
    -- "ids 0 and 5, type id 3: 7", "type id -1: 7"
    ∷ edge (pos (checked_with Sparse (plain 0 1 ∷ plain 5 1 ∷ []) (pos 3 ∷ []) []) ∷ []) (pos 7 ∷ [])
    ∷ edge (pos (checked_with Sparse (plain 0 1 ∷ plain 5 1 ∷ []) (negsuc 0 ∷ []) []) ∷ []) (pos 7 ∷ [])
    -- "child of 2 slots, dense offset 1 accepted, 2: 8, -1: 8"
    ∷ edge (pos (checked_with Dense (plain 0 2 ∷ []) (pos 0 ∷ []) (pos 1 ∷ [])) ∷ []) (pos 0 ∷ [])
    ∷ edge (pos (checked_with Dense (plain 0 2 ∷ []) (pos 0 ∷ []) (pos 2 ∷ [])) ∷ []) (pos 8 ∷ [])
    ∷ edge (pos (checked_with Dense (plain 0 2 ∷ []) (pos 0 ∷ []) (negsuc 0 ∷ [])) ∷ []) (pos 8 ∷ [])
    -- "offset bad in slot 0 and id bad in slot 1: 7"
    ∷ edge (pos (checked_with Dense (plain 0 2 ∷ []) (pos 0 ∷ pos 1 ∷ []) (pos 2 ∷ pos 0 ∷ [])) ∷ []) (pos 7 ∷ [])
    -- "length 3: slice (3, 0) accepted, (3, 1): 9"
    ∷ edge (pos (slice_at 3 0) ∷ []) (pos 0 ∷ [])
    ∷ edge (pos (slice_at 3 1) ∷ []) (pos 9 ∷ [])
    -- "dense, no slots, two children of one null each: present, length 0"; "sparse, no slots, two children: absent"
    ∷ edge (mask_at Dense (with_mask 0 1 0 ∷ with_mask 1 1 1 ∷ []) [] (0 ∷ 0 ∷ []) 10) (numbers (0 ∷ 1 ∷ 0 ∷ 2 ∷ []))
    ∷ edge (mask_at Sparse (with_mask 0 0 0 ∷ with_mask 1 0 1 ∷ []) [] (0 ∷ 0 ∷ []) 10) (numbers (0 ∷ 0 ∷ 0 ∷ 0 ∷ []))
    -- "sparse N=2 M=2 F=0 setting 2: route 4", "N=3 M=3 F=0 setting 2: route 3"
    ∷ edge (route_at (with_mask 0 2 0 ∷ with_mask 1 2 0 ∷ []) (pos 0 ∷ pos 1 ∷ []) (1 ∷ []) 2) (pos 4 ∷ [])
    ∷ edge (route_at (with_mask 0 2 0 ∷ with_mask 1 2 0 ∷ with_mask 2 2 0 ∷ []) (pos 0 ∷ pos 1 ∷ []) (1 ∷ []) 2) (pos 3 ∷ [])
    -- "N=2 M=1 F=1 setting 10: route 5", "N=4 M=3 F=3 setting 10: route 6"
    ∷ edge (route_at (with_mask 0 2 0 ∷ plain 1 2 ∷ []) (pos 0 ∷ pos 1 ∷ []) (0 ∷ []) 10) (pos 5 ∷ [])
    ∷ edge (route_at (with_mask 0 2 0 ∷ with_mask 1 2 0 ∷ with_mask 2 2 0 ∷ plain 3 2 ∷ []) (pos 0 ∷ pos 1 ∷ []) (0 ∷ []) 10) (pos 6 ∷ [])
    -- 14 allows each named strategy somewhere: "two or more fields; sparse ..; M = N for SkipOne"
    ∷ edge (numbers (map (strategy_at (with_mask 0 2 0 ∷ with_mask 1 2 0 ∷ []) (pos 0 ∷ pos 1 ∷ []) (1 ∷ [])) (Gather ∷ SkipOne ∷ SkipWithoutNulls ∷ SkipFullyNull ∷ [])))
    (numbers (0 ∷ 0 ∷ 0 ∷ 0 ∷ []))
    -- "Dense: A 7, 9; B null; offsets 0, 0, 1." "Ids 0, 1, 0; mask word 5, null count 1."
    ∷ edge (value_words (after_three Dense) 0 2 ++ value_words (after_three Dense) 4 1) (numbers (7 ∷ 9 ∷ 0 ∷ []))
    ∷ edge (take 3 (after_three Dense).buffers.offsets) (numbers (0 ∷ 0 ∷ 1 ∷ []))
    ∷ edge (take 3 (after_three Dense).buffers.ids) (numbers (0 ∷ 1 ∷ 0 ∷ []))
    ∷ edge (described_marks (after_three Dense)) (numbers (5 ∷ 1 ∷ []))
    -- "Sparse: A 7, null, 9; B all null." "Ids 0, 1, 0; mask word 5, null count 1."
    ∷ edge (value_words (after_three Sparse) 0 3 ++ value_words (after_three Sparse) 4 3) (numbers (7 ∷ 0 ∷ 9 ∷ 0 ∷ 0 ∷ 0 ∷ []))
    ∷ edge (take 3 (after_three Sparse).buffers.ids) (numbers (0 ∷ 1 ∷ 0 ∷ []))
    ∷ edge (numbers (take 2 (after_three Sparse).buffers.masks)) (numbers (13 ∷ 8 ∷ []))
    ∷ edge (described_marks (after_three Sparse)) (numbers (5 ∷ 1 ∷ []))
    ∷ []

-- each row's answer is what 01 says
unfoldable pub Edges : Type 0
Edges = map (λ r. r.answered) rows ≡ map (λ r. r.said) rows
