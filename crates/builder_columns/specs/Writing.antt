-- What an append as planned writes, and the room that it needs.
use Rattle.std.specs.Prelude.{cond, List, [], ◌∷◌, ◌++◌, ℕ, ◌*◌, ◌≤◌, ◌<◌, pos, length, set}
use Rattle.std.proofs.Math.Option.{Option, none}
use Rattle.std.proofs.Math.Seq.{paste}
use Rattle.bitmap.specs.Bits.{words_for}
use Rattle.array_columns.specs.declared.Amounts.{Amounts}
use Rattle.array_columns.specs.declared.Layout.{Layout}
use Rattle.array_columns.specs.declared.Layout.TheVariants.{Sparse, Dense}
use Rattle.array_columns.specs.Types.{by_layout}
use Rattle.array_columns.specs.Buffers.{Buffers}
use Rattle.builder_columns.specs.Puts.{Put, put, filled, row, puts, put_value, put_bit}
pub use Rattle.builder_columns.specs.declared.BuilderHead.{BuilderHead}
pub use Rattle.builder_columns.specs.declared.Plan.{Plan}

-- n columns of so many slots lie in so many words and mask words
pub record Room (capacity n values masks : ℕ) : Type 0 where
  pub small : capacity ≤ 65536
  pub few : n ≤ 128
  pub words : n * capacity ≤ values
  pub bits : n * words_for capacity ≤ masks

-- the puts in order, in the words and mask words of columns of so many slots
unfoldable pub put_words : ℕ → Buffers → List Put → Buffers
put_words c m ps = record {
  ids = m.ids;
  offsets = m.offsets;
  values = puts put_value c m.values ps;
  masks = puts put_bit (64 * words_for c) m.masks ps;
  names = m.names;
}

-- the slots that an append adds, in sparse: the nulls of a new column, and a row
abbrev pub puts_sparse : Plan → ℕ → Option ℕ → List Put
puts_sparse p len v = filled none p.id (cond p.fresh len 0) ++ row p.count len p.id v

abbrev pub puts_for : Layout → Plan → ℕ → Option ℕ → List Put
puts_for Sparse p len v = puts_sparse p len v
puts_for Dense p len v = put p.id p.column.slots v ∷ []

-- what an append as planned leaves in lent memory
unfoldable pub written_by : BuilderHead → Plan → Buffers → List ℕ → Option ℕ → Buffers
written_by h p m name v = record {
  ids = set m.ids h.len (pos p.id);
  offsets = by_layout h.layout m.offsets (set m.offsets h.len (pos p.column.slots));
  values = puts put_value h.capacity m.values (puts_for h.layout p h.len v);
  masks = puts put_bit (64 * words_for h.capacity) m.masks (puts_for h.layout p h.len v);
  names = cond p.fresh (paste m.names (32 * p.id) name (length name)) m.names;
}

-- what an append writes as planned lies in lent memory, for a name of so many bytes
pub record Writable (h : BuilderHead) (p : Plan) (size : ℕ) (lent : Amounts) : Type 0 where
  pub used : p.id < p.count
  pub len : h.len < h.capacity
  pub slots : p.column.slots ≤ h.len
  pub room : Room h.capacity p.count lent.values lent.masks
  pub ids : h.capacity ≤ lent.ids
  pub offsets : h.capacity ≤ lent.offsets
  pub bytes : 32 * p.count ≤ lent.names
  pub short : size ≤ 32
