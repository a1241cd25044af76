-- The claim about every history, of two lists of calls: its premise holds of them, and this is what they answer. A text in quotes is document 01's.
use Rattle.std.specs.Prelude.{◌≡◌, List, [], ◌∷◌, ◌++◌, map, ℕ, pos, replicate}
use Rattle.array_columns.specs.declared.Kind.TheVariants.{Int8, Int16}
use Rattle.array_columns.specs.declared.Layout.{Layout}
use Rattle.array_columns.specs.Buffers.{Buffers, buffers_of}
use Rattle.union_builder.specs.Builder.{made_of}
use Rattle.union_history.specs.Claim as Claim
use Rattle.union_history.specs.Claim.{AllTold, Call, Proper, State, at_end, fed, replies, start}
use Rattle.union_history.specs.Log.{fresh_log, log_replies}
use Rattle.union_history.specs.Premise.{Ask, append, finish_cloned, in_turn}
use Rattle.edge_table.specs.Table.{fresh, held, three}

-- a builder made in memory m, and a list of calls on it: the making is accepted, the premise holds, these numbers are answered, and the claim says the rest
pub record Witnessed (l : Layout) (c k : ℕ) (m : Buffers) (calls : List Call) (numbers : List ℕ) : Type 0 where
  pub made : (made_of l c k m).refusal ≡ 0
  pub proper : Proper (start (made_of l c k m).builder m) calls
  pub answered : map (λ r. r.refusal) (replies (start (made_of l c k m).builder m) calls) ≡ numbers
  pub told : AllTold l (at_end (start (made_of l c k m).builder m) calls).buffers (replies (start (made_of l c k m).builder m) calls) (log_replies (fresh_log c k) (map fed calls))

-- "append A 7, B null, A 9", and a snapshot
unfoldable pub row_calls : Layout → List Call
row_calls l = in_turn (fresh l) three

-- memory for two slots and one column, and too little of it
unfoldable pub small : Buffers
small = buffers_of (replicate 2 (pos 9)) (replicate 2 (pos 9)) (replicate 2 9) (replicate 1 9) (replicate 32 9)

unfoldable pub little : Buffers
little = buffers_of (replicate 2 (pos 9)) (replicate 2 (pos 9)) (replicate 2 9) (replicate 1 9) (replicate 31 9)

unfoldable pub single : Layout → State
single l = start (made_of l 2 1 small).builder small

unfoldable pub one : Layout → List Call
one l = in_turn (single l) (append (65 ∷ []) Int8 7 ∷ [])

-- a surrogate for a name; A of another kind; B; A 9; A 1; a snapshot
abbrev pub rest : List Ask
rest =
    append (0xed ∷ 0xa0 ∷ 0x80 ∷ []) Int8 8
    ∷ append (65 ∷ []) Int16 8
    ∷ append (66 ∷ []) Int8 8
    ∷ append (65 ∷ []) Int8 9
    ∷ append (65 ∷ []) Int8 1
    ∷ finish_cloned
    ∷ []

-- A 7; A 8 in too little memory; and the rest
unfoldable pub refused_calls : Layout → List Call
refused_calls l = one l ++ (Claim.append little (65 ∷ []) Int8 8 ∷ in_turn (at_end (single l) (one l)) rest)

unfoldable pub Witness : Type 0
Witness =
    (l : Layout) → Witnessed l 4 2 held (row_calls l) (0 ∷ 0 ∷ 0 ∷ 0 ∷ []) × Witnessed l 2 1 small (refused_calls l) (0 ∷ 16 ∷ 17 ∷ 18 ∷ 20 ∷ 0 ∷ 19 ∷ 0 ∷ [])
