-- The bit of slot i by each strategy that selects by type ids, and words of such bits. The ids are those of the slots, in order.
use Rattle.std.specs.Prelude.{◌≡◌, Bool, true, false, cond, not, ◌&&◌, ◌||◌, List, [], ◌∷◌, ◌++◌, map, ℕ, zero, suc, ◌+◌, ◌-◌, ◌*◌, ◌%◌, ◌^◌, ◌≤◌, ◌<◌, T, ltb, ℤ, pos, nat_abs, get_or, drop, replicate, length}
use Rattle.std.specs.Int.Bits.{bit_and, bit_or}
use Rattle.std.specs.Int.Signed.{non_neg}
use Rattle.bitmap.specs.Lists.{retable}
use Rattle.bitmap.specs.Bits.{pack, words_for, same_id, selection_of}
use Rattle.array_columns.specs.declared.Column.{Column}
use Rattle.array_columns.specs.Types.{no_column}
use Rattle.array_columns.specs.Buffers.{Buffers}
use Rattle.array_columns.specs.Slots.{present, presence_chunk}
use Rattle.array_columns.specs.Questions.{valid_id, presence_in}
use Rattle.null_strategy.specs.declared.Route.{Route}
use Rattle.null_strategy.specs.declared.Route.TheVariants.{Absent, OneField, AllNull, Gather, SkipOne, SkipWithoutNulls, SkipFullyNull}
use Rattle.null_strategy.specs.declared.State.{State}
use Rattle.null_strategy.specs.declared.Fields.{Fields}
use Rattle.null_strategy.specs.Fields.{has_nulls, only_nulls, state_of, in_list}
pub use Rattle.mask_words.specs.declared.Taken.{Taken}
pub use Rattle.mask_words.specs.declared.Taken.TheVariants.{All, WithNulls, NotFull}
pub use Rattle.mask_words.specs.declared.FieldChunk.{FieldChunk}
pub use Rattle.mask_words.specs.declared.Selection.{Selection}

-- some column passes
unfoldable pub any : (Column → Bool) → List Column → Bool
any p [] = false
any p (c ∷ cs) = p c || any p cs

-- word k of len bits, whose bit i is f i; bits past len are 0
unfoldable pub word_of : ℕ → (ℕ → Bool) → ℕ → ℕ
word_of len f k = pack 64 (λ j. ltb (64 * k + j) len && f (64 * k + j))

-- the mask of len bits, whose bit i is f i, and after it what was there
unfoldable pub words_of : ℕ → (ℕ → Bool) → List ℕ → List ℕ
words_of len f out = retable (words_for len) (word_of len f) out

-- a column of this state is taken up
abbrev pub takes : Taken → State → Bool
takes All s = true
takes WithNulls s = has_nulls s
takes NotFull s = not (only_nulls s)

-- the columns that are taken up
unfoldable pub taken_of : Taken → Buffers → List Column → List Column
taken_of over words [] = []
taken_of over words (c ∷ cs) = cond (takes over (state_of words c)) (c ∷ taken_of over words cs) (taken_of over words cs)

-- what the step of a route takes up: SkipOne, and one field alone, all columns
abbrev pub over_of : Route → Taken
over_of Absent = All
over_of OneField = All
over_of AllNull = All
over_of Gather = All
over_of SkipOne = All
over_of SkipWithoutNulls = WithNulls
over_of SkipFullyNull = NotFull

-- the type id of slot i
abbrev pub id_at : List ℤ → ℕ → ℤ
id_at ids i = get_or ids i (pos 0)

-- slot i is one of these columns'
abbrev pub selected_at : List Column → List ℤ → ℕ → Bool
selected_at cs ids i = any (λ c. same_id (id_at ids i) c.id) cs

-- slot i is one of these columns', and present
abbrev pub present_at : List Column → Buffers → List ℤ → ℕ → Bool
present_at cs words ids i = any (λ c. same_id (id_at ids i) c.id && present c words i) cs

-- SkipOne: of another column than the first and present, or of no other and in the first present
unfoldable pub skip_one_at : List Column → Buffers → List ℤ → ℕ → Bool
skip_one_at cs words ids i = present_at (drop 1 cs) words ids i || (not (selected_at (drop 1 cs) ids i) && present (get_or cs 0 no_column) words i)

-- SkipWithoutNulls, of the columns with a null: of one and present, or of none
unfoldable pub skip_without_at : List Column → Buffers → List ℤ → ℕ → Bool
skip_without_at cs words ids i = present_at cs words ids i || not (selected_at cs ids i)

-- SkipFullyNull, of the columns that are not fully null: of one, and present
unfoldable pub skip_fully_at : List Column → Buffers → List ℤ → ℕ → Bool
skip_fully_at cs words ids i = present_at cs words ids i

-- the step by what it takes up
abbrev pub step_at : Taken → List Column → Buffers → List ℤ → ℕ → Bool
step_at All cs words ids i = skip_one_at cs words ids i
step_at WithNulls cs words ids i = skip_without_at cs words ids i
step_at NotFull cs words ids i = skip_fully_at cs words ids i

-- ---- the same by words, from the ids of a run of slots, and the ids and presence chunks of the fields that are taken up

-- f 0, .., f (n - 1) joined by or
unfoldable pub or_of : ℕ → (ℕ → ℕ) → ℕ
or_of zero f = 0
or_of (suc n) f = bit_or (or_of n f) (f n)

-- a word with each of its bits inverted
abbrev pub inverse : ℕ → ℕ
inverse x = (2 ^ 64 - 1) - x

-- field q
abbrev pub field_at : List FieldChunk → ℕ → FieldChunk
field_at fields q = get_or fields q (record { id = pos 0; chunk = 0 })

-- the selection mask of field q
abbrev pub field_mask : List FieldChunk → List ℤ → ℕ → ℕ
field_mask fields ids q = selection_of ids 0 (length ids) (field_at fields q).id

-- of some fields: the slots that they have, and those of them that are present
abbrev pub selected_of : List FieldChunk → List ℤ → Selection
selected_of fields ids = record {
  selected = or_of (length fields) (field_mask fields ids);
  present = or_of (length fields) (λ q. bit_and (field_mask fields ids q) (field_at fields q).chunk);
}

-- SkipOne: of another field and present, or of no other field and in the first chunk
unfoldable pub skip_one_word : List FieldChunk → List ℤ → ℕ
skip_one_word fields ids =
    let t = selected_of (drop 1 fields) ids in
    bit_or t.present (bit_and (inverse t.selected) (field_at fields 0).chunk)

-- SkipWithoutNulls: of a field and present, or of no field; cut to the slots of the run
unfoldable pub skip_without_word : List FieldChunk → List ℤ → ℕ
skip_without_word fields ids = let t = selected_of fields ids in bit_or t.present (inverse t.selected) % 2 ^ length ids

-- SkipFullyNull: of a field and present
unfoldable pub skip_fully_word : List FieldChunk → List ℤ → ℕ
skip_fully_word fields ids = (selected_of fields ids).present

-- the word by the step
abbrev pub step_word : Taken → List FieldChunk → List ℤ → ℕ
step_word All fields ids = skip_one_word fields ids
step_word WithNulls fields ids = skip_without_word fields ids
step_word NotFull fields ids = skip_fully_word fields ids

-- ---- what the functions need and give

-- 128 zeros
unfoldable pub zeros : List ℕ
zeros = replicate 128 0

-- a list of at most 128 numbers, and zeros after them, up to 128
abbrev pub padded : List ℕ → List ℕ
padded l = l ++ drop (length l) zeros

-- the columns at some places of a list
abbrev pub columns_at : List Column → List ℕ → List Column
columns_at cs places = map (λ p. get_or cs p no_column) places

-- the id of the column at a place
abbrev pub id_in : List Column → ℕ → ℕ
id_in cs p = nat_abs (get_or cs p no_column).id

-- the ids of the columns at some places, and zeros after them
abbrev pub taken_ids : List Column → List ℕ → List ℕ
taken_ids cs places = padded (map (id_in cs) places)

-- the places, counted from k on, of the states that are taken up
unfoldable pub taken_places : Taken → ℕ → List State → List ℕ
taken_places over k [] = []
taken_places over k (s ∷ ss) = cond (takes over s) (k ∷ taken_places over (suc k) ss) (taken_places over (suc k) ss)

-- a column's id, and its presence chunk for word k of len slots
abbrev pub field_chunk : Buffers → ℕ → ℕ → Column → FieldChunk
field_chunk words len k c = record { id = c.id; chunk = presence_chunk c words len k }

-- no type id is below 0
abbrev pub Plain : List ℤ → Type 0
Plain ids = (i : ℕ) → i < length ids → T (non_neg (id_at ids i))

-- what a step needs: a run of at most 64 type ids, and fields with valid ids
pub record RunReady (fields : List FieldChunk) (ids : List ℤ) : Type 0 where
  pub short : length ids ≤ 64
  pub plain : Plain ids
  pub named : (q : ℕ) → q < length fields → valid_id (field_at fields q).id ≡ true

-- SkipOne needs a field, too
pub record StepReady (over : Taken) (fields : List FieldChunk) (ids : List ℤ) : Type 0 where
  pub run : RunReady fields ids
  pub some : over ≡ All → 1 ≤ length fields

-- a child has len slots, whose presence can be read
abbrev pub Held : Buffers → ℕ → Column → Type 0
Held words len c = (presence_in words c ≡ true) × (len ≤ c.slots)

-- each column's id is one of 0 to 127
abbrev pub ValidIds : List Column → Type 0
ValidIds cs = (q : ℕ) → q < length cs → valid_id (get_or cs q no_column).id ≡ true

-- what is taken up lies in the column list, and has valid ids
pub record TakenNamed (cs : List Column) (places : List ℕ) : Type 0 where
  pub placed : (q : ℕ) → q < length places → get_or places q 0 < length cs
  pub valid : ValidIds (columns_at cs places)

-- and is held
pub record TakenReady (cs : List Column) (places : List ℕ) (words : Buffers) (len : ℕ) : Type 0 where
  pub taken : TakenNamed cs places
  pub held : (q : ℕ) → q < length places → Held words len (get_or (columns_at cs places) q no_column)

-- what the steps need of what is taken up: at most 128 fields, held, one or more for SkipOne; the slots' type ids
pub record StepsReady (over : Taken) (cs : List Column) (places : List ℕ) (words : Buffers) (ids : List ℤ) : Type 0 where
  pub taken : TakenReady cs places words (length ids)
  pub plain : Plain ids
  pub few : length places ≤ 128
  pub some : over ≡ All → 1 ≤ length places

-- and to take it up by the route: the states of all columns, which are at least one, at most 128, valid and held; the slots' type ids
pub record FieldsReady (cs : List Column) (fs : Fields) (words : Buffers) (ids : List ℤ) : Type 0 where
  pub few : fs.count ≤ 128
  pub some : 1 ≤ length cs
  pub states : in_list fs ≡ map (state_of words) cs
  pub plain : Plain ids
  pub valid : ValidIds cs
  pub held : (q : ℕ) → q < length cs → Held words (length ids) (get_or cs q no_column)
