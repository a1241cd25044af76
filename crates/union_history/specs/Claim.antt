-- Demand 3 of document 01 ("The book of demand 3"), as one statement. In order: the calls, what a list of them answers, the premise,
-- how an array is laid out, what it shows, the claim. The log (01's book) is in Log.antt; the calls' own definitions are those that the
-- exported functions' contracts cite. A text in quotes is 01's.
use Rattle.std.specs.Prelude.{◌≡◌, ◌⊎◌, Bool, true, false, cond, ◌&&◌, ◌||◌, not, List, [], ◌∷◌, map, ℕ, suc, ◌+◌, ◌*◌, ◌≤◌, ◌<◌, length, take, eqb, pos}
use Rattle.std.proofs.Math.Option.{Option, none, some}
use Rattle.bitmap.specs.Bits.{bit_at, count, words_for}
use Rattle.array_columns.specs.declared.Column.{Column}
use Rattle.array_columns.specs.declared.Kind.{Kind}
use Rattle.array_columns.specs.declared.Layout.{Layout}
use Rattle.array_columns.specs.declared.Layout.TheVariants.{Sparse, Dense}
use Rattle.union_array.specs.declared.UnionArray.{UnionArray}
use Rattle.array_columns.specs.Lookup.{Value}
use Rattle.union_array.specs.Slices.{Slice}
use Rattle.union_array.specs.Types.{by_layout}
use Rattle.array_columns.specs.Buffers.{Buffers, amounts_of}
use Rattle.array_columns.specs.Refusal.{if_yes}
use Rattle.union_array.specs.Slots.{in_use}
use Rattle.union_array.specs.Lookup.{try_new_of, value_of, type_id_of, value_offset_of, child_of, padded}
use Rattle.union_array.specs.Slices.{slice_of}
use Rattle.logical_nulls.specs.declared.SparseStrategy.{SparseStrategy}
use Rattle.logical_nulls.specs.Mask.{Masked, question14, logical_nulls_of, strategy_of}
use Rattle.builder_columns.specs.declared.BuilderColumn.{BuilderColumn}
use Rattle.union_builder.specs.declared.UnionBuilder.{UnionBuilder}
use Rattle.union_builder.specs.Finish.{Finished}
use Rattle.union_builder.specs.Builder.{made_of}
use Rattle.union_builder.specs.Append.{AppendOutcome, is_none, or_else, append_of, append_null_of}
use Rattle.batch_description.specs.Description.{assembled, described_column}
use Rattle.union_builder.specs.Finish.{len_of, finish_cloned_of, finish_of}
use Rattle.union_history.specs.Log as Log
use Rattle.union_history.specs.Log.{Log, LogColumn, Entry, Fed, LogReply, column_at, entry_at, fresh_log, log_replies}
use Rattle.union_history.specs.Listing.{InOrder}

-- ---- 1. The calls
-- "every list of append, append_null, len, finish_cloned (a snapshot, if accepted) and finish", each with the memory that it is lent and its arguments;
-- "The thin append, once there, is an append": append_mut is append_mut, which "takes the builder lent mutably"
pub data Call : Type 0 where
  append : Buffers → List ℕ → Kind → ℕ → Call
  append_mut : Buffers → List ℕ → Kind → ℕ → Call
  append_null : Buffers → List ℕ → Kind → Call
  len : Call
  finish_cloned : Buffers → Call
  finish : Buffers → Call

-- "the book is fed which one it is, its arguments but the builder, and the amounts lent"
abbrev pub fed : Call → Fed
fed (append m name kind x) = Log.append (amounts_of m) name kind x
fed (append_mut m name kind x) = Log.append (amounts_of m) name kind x
fed (append_null m name kind) = Log.append_null (amounts_of m) name kind
fed len = Log.len
fed (finish_cloned m) = Log.finish_cloned (amounts_of m)
fed (finish m) = Log.finish (amounts_of m)

-- the memory that a call is lent
abbrev pub lent_to : Call → Option Buffers
lent_to (append m name kind x) = some m
lent_to (append_mut m name kind x) = some m
lent_to (append_null m name kind) = some m
lent_to len = none
lent_to (finish_cloned m) = some m
lent_to (finish m) = some m

-- ---- 2. What they answer
-- between two calls: the builder that the last one handed back, and the batch's memory
pub record State : Type 0 where
  pub builder : UnionBuilder
  pub buffers : Buffers

-- what a call answers, the memory that it was lent, and the same as the call left it
pub record Reply : Type 0 where
  pub refusal : ℕ
  pub len : ℕ
  pub array : Option UnionArray
  pub lent : Option Buffers
  pub left : Option Buffers

pub record Stepped : Type 0 where
  pub reply : Reply
  pub state : State

-- the batch's memory after a call is what that call was lent, as the call left it, refused or not; one answered 16 may have been lent
-- other memory, and then the batch's is as before
abbrev pub stepped : State → UnionBuilder → ℕ → Option UnionArray → Buffers → Buffers → Stepped
stepped s b refusal array lent left = record {
  reply = record { refusal = refusal; len = 0; array = array; lent = some lent; left = some left };
  state = record { builder = b; buffers = cond (eqb refusal 16) s.buffers left };
}

abbrev pub after_append : State → Buffers → AppendOutcome → Stepped
after_append s m r = stepped s r.answer.builder r.answer.refusal none m r.buffers

-- finish_cloned and finish are lent memory to read
abbrev pub after_finish : State → Buffers → Finished → Stepped
after_finish s m r = stepped s r.builder r.refusal (if_yes r.refusal (some r.array) none) m m

-- one call, by the definition that its function's contract cites
unfoldable pub step : State → Call → Stepped
step s (append m name kind x) = after_append s m (append_of s.builder m name kind x)
step s (append_mut m name kind x) = after_append s m (append_of s.builder m name kind x)
step s (append_null m name kind) = after_append s m (append_null_of s.builder m name kind)
step s len = record {
  reply = record { refusal = 0; len = (len_of s.builder).len; array = none; lent = none; left = none };
  state = record { builder = (len_of s.builder).builder; buffers = s.buffers };
}
step s (finish_cloned m) = after_finish s m (finish_cloned_of s.builder m)
step s (finish m) = after_finish s m (finish_of s.builder m)

abbrev pub reply : State → Call → Reply
reply s c = (step s c).reply

abbrev pub after : State → Call → State
after s c = (step s c).state

abbrev pub replies : State → List Call → List Reply
replies s [] = []
replies s (c ∷ cs) = reply s c ∷ replies (after s c) cs

-- "In memory as the list left it"
abbrev pub at_end : State → List Call → State
at_end s [] = s
at_end s (c ∷ cs) = at_end (after s c) cs

-- ---- 3. The premise
-- two memories agree in all that a builder of c slots and k columns may use (question 16); past that they may differ, in length too
pub record Agree (c k : ℕ) (a b : Buffers) : Type 0 where
  pub ids : take c a.ids ≡ take c b.ids
  pub offsets : take c a.offsets ≡ take c b.offsets
  pub values : take (k * c) a.values ≡ take (k * c) b.values
  pub masks : take (k * words_for c) a.masks ≡ take (k * words_for c) b.masks
  pub names : take (32 * k) a.names ≡ take (32 * k) b.names

-- a call that is answered 16 may be lent anything; any other is lent memory that agrees with the batch's
abbrev pub Lends : State → ℕ → Option Buffers → Type 0
Lends s refusal none = Unit {0}
Lends s refusal (some m) = (refusal ≡ 16) ⊎ Agree s.builder.capacity s.builder.limit s.buffers m

abbrev pub LentRight : State → Call → Type 0
LentRight s c = Lends s (reply s c).refusal (lent_to c)

-- "an accepted finish ends the list"
abbrev pub EndsRight : State → Call → List Call → Type 0
EndsRight s c cs = (m : Buffers) → c ≡ finish m → (reply s c).refusal ≡ 0 → cs ≡ []

abbrev pub Proper : State → List Call → Type 0
Proper s [] = Unit {0}
Proper s (c ∷ cs) = LentRight s c × EndsRight s c cs × Proper (after s c) cs

-- "Fresh is the empty builder that an accepted making or finish gave": its layout, C and K are the making's, or those of the builder
-- that was finished, which is then sparse
pub data Fresh : Layout → ℕ → ℕ → UnionBuilder → Type 0 where
  making : (l : Layout) (c k : ℕ) (m : Buffers) → (made_of l c k m).refusal ≡ 0 → Fresh l c k (made_of l c k m).builder
  finished : (b : UnionBuilder) (m : Buffers) → (finish_of b m).refusal ≡ 0 → Fresh Sparse b.capacity b.limit (finish_of b m).builder

-- ---- 4. How an array of the log's entries is laid out
-- the entries of column k
abbrev pub count_of : ℕ → List Entry → ℕ
count_of k [] = 0
count_of k (e ∷ es) = cond (eqb e.id k) (suc (count_of k es)) (count_of k es)

-- dense: the column's own entries; sparse: all, since "each append puts a null in every other column"
abbrev pub slots_of : Layout → ℕ → List Entry → ℕ
slots_of l k es = by_layout l (length es) (count_of k es)

-- a null was put in column k: sparse, by a missing entry of its own or by an entry of another; dense, by a missing entry of its own
abbrev pub null_put : Layout → ℕ → Entry → Bool
null_put l k e = by_layout l (not (eqb e.id k) || is_none e.value) (eqb e.id k && is_none e.value)

-- "A builder column has a mask exactly if a null was put in it."
abbrev pub mask_of : Layout → ℕ → List Entry → Bool
mask_of l k [] = false
mask_of l k (e ∷ es) = null_put l k e || mask_of l k es

-- what a builder has of a column of the log, with so many slots, masked or not
abbrev pub built : LogColumn → ℕ → Bool → BuilderColumn
built c slots masked = record { slots = slots; size = length c.name; kind = c.kind; masked = masked }

-- column k of the log's builder
abbrev pub built_column : Layout → Log → ℕ → BuilderColumn
built_column l g k = built (column_at g.columns k) (slots_of l k g.entries) (mask_of l k g.entries)

-- "Column k has words kC to kC + C - 1, its own mask words (C divided by 64, rounded up), and 32 name bytes, each laid in column order."
abbrev pub log_column : Layout → Log → ℕ → Column
log_column l g k = described_column (built_column l g k) k g.capacity

-- finished columns ordered by their names' bytes (`assembled`); "has as many slots as there were entries at its call"
unfoldable pub log_array : Layout → Log → UnionArray
log_array l g =
    assembled l (length g.entries) (length g.columns) (λ k. record { name = (column_at g.columns k).name; column = log_column l g k })

-- ---- 5. What it shows
-- "value answers id, name (its length, and 32 bytes by value with zeros after it), kind, missing or not, and the value, 0 when missing"
abbrev pub entry_value : Entry → Value
entry_value e = record {
  bits = or_else e.value 0;
  name = padded e.name;
  size = length e.name;
  refusal = 0;
  id = pos e.id;
  kind = e.kind;
  missing = is_none e.value;
}

-- "Dense: the offset is the column's slots so far"; sparse: the slot itself. Of entry o + i, in a slice that starts at o
abbrev pub entry_slot : Layout → List Entry → ℕ → ℕ → ℕ
entry_slot l es o i = by_layout l i (count_of (entry_at es (o + i)).id (take (o + i) es))

abbrev pub entry_missing : List Entry → ℕ → ℕ → Bool
entry_missing es o i = is_none (entry_at es (o + i)).value

-- "Slot i is marked null if the mask is present with bit i clear; the null count is the number of slots whose entry is missing."
pub record Marks (n : ℕ) (missing : ℕ → Bool) (r : Masked) : Type 0 where
  pub accepted : r.answer.refusal ≡ 0
  pub marked : (i : ℕ) → i < n → (r.answer.present && not (bit_at r.out i)) ≡ missing i
  pub counted : r.answer.nulls ≡ count n missing

-- "one of 10, 3, 2 and 0"
abbrev pub is_setting : ℕ → Bool
is_setting cost = eqb cost 10 || (eqb cost 3 || (eqb cost 2 || eqb cost 0))

-- the name that a lookup tells
abbrev pub name_told : Value → List ℕ
name_told v = take v.size v.name

-- one column to a name: two lookups tell equal ids exactly if they tell equal names, and then one kind
pub record SameColumn (v w : Value) : Type 0 where
  pub by_id : v.id ≡ w.id → name_told v ≡ name_told w
  pub by_name : name_told v ≡ name_told w → v.id ≡ w.id
  pub kind : v.id ≡ w.id → v.kind ≡ w.kind

-- in memory m, array a shows the n entries of es from o on: `try_new` accepts it, a slice within it is accepted, `value`, `type_id` and
-- `value_offset` tell the entries, a name has one id, offsets rise within a child, columns are listed in order, and "the applicable null
-- strategies" mark and count the missing ones
pub record Shows (l : Layout) (m : Buffers) (a : UnionArray) (es : List Entry) (o n : ℕ) : Type 0 where
  pub count : a.count ≡ n
  pub passes : try_new_of a m ≡ 0
  pub slices : (from n' : ℕ) → from + n' ≤ n → (slice_of a m from n').refusal ≡ 0
  pub values : (i : ℕ) → i < n → value_of a m i ≡ entry_value (entry_at es (o + i))
  pub type_ids : (i : ℕ) → i < n → type_id_of a m i ≡ record { refusal = 0; id = pos (entry_at es (o + i)).id }
  pub offsets : (i : ℕ) → i < n → value_offset_of a m i ≡ record { offset = entry_slot l es o i; refusal = 0 }
  pub names : (i j : ℕ) → i < n → j < n → SameColumn (value_of a m i) (value_of a m j)
  pub rising : (i j : ℕ) → i < j → j < n → (entry_at es (o + i)).id ≡ (entry_at es (o + j)).id → entry_slot l es o i < entry_slot l es o j
  pub order : InOrder a m
  pub nulls : (cost : ℕ) (out : List ℕ) → is_setting cost ≡ true → words_for n ≤ length out → Marks n (entry_missing es o) (logical_nulls_of a m cost out)
  pub named : (s : SparseStrategy) (out : List ℕ) → question14 s a m ≡ true → words_for n ≤ length out → Marks n (entry_missing es o) (strategy_of a m s out)

-- "a chain of slices (o, n)", each in whatever memory it was lent
pub record SliceCall : Type 0 where
  pub lent : Buffers
  pub from : ℕ
  pub count : ℕ

abbrev pub slice_by : UnionArray → SliceCall → Slice
slice_by a c = slice_of a c.lent c.from c.count

abbrev pub ChainAccepted : UnionArray → List SliceCall → Type 0
ChainAccepted a [] = Unit {0}
ChainAccepted a (c ∷ cs) = ((slice_by a c).refusal ≡ 0) × ChainAccepted (slice_by a c).array cs

abbrev pub chain : UnionArray → List SliceCall → UnionArray
chain a [] = a
chain a (c ∷ cs) = chain (slice_by a c).array cs

-- "the sum of the o's"
abbrev pub sum_of : List SliceCall → ℕ
sum_of [] = 0
sum_of (c ∷ cs) = c.from + sum_of cs

-- "as many slots as the last n"
abbrev pub last_count : ℕ → List SliceCall → ℕ
last_count n [] = n
last_count n (c ∷ cs) = last_count c.count cs

-- ---- 6. The claim
-- the slots of all columns
abbrev pub slot_sum : List Column → ℕ
slot_sum [] = 0
slot_sum (c ∷ cs) = c.slots + slot_sum cs

-- an array is laid out as the log says: as many fields as columns, of which `child` tells each, and dense, "the slot counts of all columns
-- sum to the length"; it and each chain of slices of it show the log's entries, as they were at the array's call, in any memory that
-- agrees with the one that the list left
pub record Tells (l : Layout) (final : Buffers) (a : UnionArray) (g : Log) : Type 0 where
  pub laid : a ≡ log_array l g
  pub fields : a.fields ≡ length g.columns
  pub children : (k : ℕ) → k < length g.columns → child_of a final (pos k) ≡ record { column = log_column l g k; refusal = 0 }
  pub sum : l ≡ Dense → slot_sum (in_use a) ≡ length g.entries
  pub shown : (cs : List SliceCall) → ChainAccepted a cs → (m : Buffers) → Agree g.capacity g.limit final m
      → Shows l m (chain a cs) g.entries (sum_of cs) (last_count (length g.entries) cs)

abbrev pub ArrayTold : Layout → Buffers → Option UnionArray → Option Log → Type 0
ArrayTold l m none none = Unit {0}
ArrayTold l m none (some g) = ⊥
ArrayTold l m (some a) none = ⊥
ArrayTold l m (some a) (some g) = Tells l m a g

-- "Every number and len answered is the book's." A refused call leaves the memory that it was lent as it was
pub record Told (l : Layout) (final : Buffers) (r : Reply) (n : LogReply) : Type 0 where
  pub refusal : r.refusal ≡ n.refusal
  pub len : r.len ≡ n.len
  pub array : ArrayTold l final r.array n.taken
  pub kept : (r.refusal ≡ 0) ⊎ (r.left ≡ r.lent)

abbrev pub AllTold : Layout → Buffers → List Reply → List LogReply → Type 0
AllTold l m [] [] = Unit {0}
AllTold l m [] (n ∷ ns) = ⊥
AllTold l m (r ∷ rs) [] = ⊥
AllTold l m (r ∷ rs) (n ∷ ns) = Told l m r n × AllTold l m rs ns

abbrev pub start : UnionBuilder → Buffers → State
start b m = record { builder = b; buffers = m }

-- "a single claim about every list": m is the batch's memory before the first call, and may hold anything
unfoldable pub Demand3 : Type 0
Demand3 =
    (l : Layout) (c k : ℕ) (b : UnionBuilder) (m : Buffers) (calls : List Call) → Fresh l c k b → Proper (start b m) calls
    → AllTold l (at_end (start b m) calls).buffers (replies (start b m) calls) (log_replies (fresh_log c k) (map fed calls))
