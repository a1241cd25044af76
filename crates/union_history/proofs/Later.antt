-- A later state of the batch, with columns and entries added: what memory holds of it, it holds of the earlier one.
use mathlib.Core.List.{List, [], ◌++◌, ◌∷◌, append_assoc, append-nil}
use mathlib.Core.Option.{Option, none, some}
use mathlib.Core.Path.{◌∙◌, ◌≡◌, ap, refl, subst, sym}
use Prim.Native.Nat.{◌*◌, ◌+◌, ◌<◌, ◌≤◌, ℕ}
use native.Mathlib.Nat.{le_refl}
use native.Mathlib.Omega.{arith}
use lib.ListN.{get_or-append, get_or, length, length-append}
use lib.Seq.{take-append-le}
use Rattle.bitmap.specs.Bits.{bit_at, words_for}
use Rattle.array_columns.specs.Buffers.{Buffers}
use Rattle.union_array.specs.Slots.{is_some}
use Rattle.array_columns.specs.declared.Kind.{Kind}
use Rattle.array_columns.specs.declared.Layout.{Layout}
use Rattle.array_columns.specs.declared.Layout.TheVariants.{Dense, Sparse}
use Rattle.builder_columns.specs.declared.BuilderColumn.{BuilderColumn}
use Rattle.union_builder.specs.Append.{or_else}
use Rattle.union_builder.specs.Builder.{name_at}
use Rattle.union_history.specs.Log.{Entry, LogColumn, column_at, entry_at, new_column, new_entry, no_entry, no_log_column, with_column, with_entry_at}
use Rattle.union_history.proofs.Batch.{Batch, Counted, Held, Holds, batch, own_slot}

-- ---- a list that goes on
pub record Ext {A : Type 0} (l f : List A) : Type 0 where
  pub rest : List A
  pub is : f ≡ l ++ rest

ext_refl : {A : Type 0} (l : List A) → Ext l l
ext_refl l = record { rest = []; is = sym (append-nil l) }

ext_trans : {A : Type 0} {a b c : List A} → Ext a b → Ext b c → Ext a c
ext_trans {a = a} {b} {c} p q = record { rest = p.rest ++ q.rest; is = q.is ∙ ap (λ x. x ++ q.rest) p.is ∙ append_assoc a p.rest q.rest }

lt_append : {A : Type 0} (l r : List A) (i : ℕ) → i < length l → i < length (l ++ r)
lt_append l r i h = rw length-append (omega arith)

-- ---- columns keep their names and kinds, entries stay
pub record Later (t u : Batch) : Type 0 where
  pub layout : u.layout ≡ t.layout
  pub capacity : u.log.capacity ≡ t.log.capacity
  pub limit : u.log.limit ≡ t.log.limit
  pub grew : length t.log.columns ≤ length u.log.columns
  pub name : (k : ℕ) → k < length t.log.columns → (column_at u.log.columns k).name ≡ (column_at t.log.columns k).name
  pub kind : (k : ℕ) → k < length t.log.columns → (column_at u.log.columns k).kind ≡ (column_at t.log.columns k).kind
  pub entries : Ext t.log.entries u.log.entries

pub later_refl : (t : Batch) → Later t t
later_refl t = record {
  layout = refl;
  capacity = refl;
  limit = refl;
  grew = le_refl (length t.log.columns);
  name = λ k h. refl;
  kind = λ k h. refl;
  entries = ext_refl t.log.entries;
}

pub later_trans : {t u w : Batch} → Later t u → Later u w → Later t w
later_trans {t} {u} {w} p q = record {
  layout = q.layout ∙ p.layout;
  capacity = q.capacity ∙ p.capacity;
  limit = q.limit ∙ p.limit;
  grew = omega (arith, p.grew, q.grew);
  name = λ k h. let g : k < length u.log.columns = omega (arith, p.grew) in q.name k g ∙ p.name k h;
  kind = λ k h. let g : k < length u.log.columns = omega (arith, p.grew) in q.kind k g ∙ p.kind k h;
  entries = ext_trans p.entries q.entries;
}

-- ---- one more entry, of a column that was there or of a new one
pub cols_kept : (cols : List LogColumn) (name : List ℕ) (kind : Kind) (at : Option ℕ) (j : ℕ) → j < length cols
    → column_at (with_column cols name kind at) j ≡ column_at cols j
cols_kept cols name kind none j h = get_or-append cols (new_column name kind ∷ []) no_log_column j h
cols_kept cols name kind (some k) j h = refl

pub cols_grew : (cols : List LogColumn) (name : List ℕ) (kind : Kind) (at : Option ℕ) → length cols ≤ length (with_column cols name kind at)
cols_grew cols name kind none = rw (length-append cols (new_column name kind ∷ [])) (omega arith)
cols_grew cols name kind (some k) = le_refl (length cols)

pub later_entry : (t : Batch) (at : Option ℕ) (name : List ℕ) (kind : Kind) (v : Option ℕ) (cs : List BuilderColumn)
    → Later t (batch t.layout (with_entry_at t.log at name kind v) cs)
later_entry t at name kind v cs = record {
  layout = refl;
  capacity = refl;
  limit = refl;
  grew = cols_grew t.log.columns name kind at;
  name = λ k h. ap (λ (c : LogColumn). c.name) (cols_kept t.log.columns name kind at k h);
  kind = λ k h. ap (λ (c : LogColumn). c.kind) (cols_kept t.log.columns name kind at k h);
  entries = record { rest = new_entry t.log at name kind v ∷ []; is = refl };
}

-- ---- a slot held, as another state of the batch sees it
held_as : (t u : Batch) (m : Buffers) (i : ℕ) (e : Entry) (s : ℕ) → u.layout ≡ t.layout → u.log.capacity ≡ t.log.capacity → e.id < length u.log.columns
    → (column_at u.log.columns e.id).name ≡ (column_at t.log.columns e.id).name
    → (column_at u.log.columns e.id).kind ≡ (column_at t.log.columns e.id).kind
    → Held t m i e s → Held u m i e s
held_as t u m i e s lay cap kn nm kd q = record {
  known = kn;
  is_name = nm ∙ q.is_name;
  is_kind = kd ∙ q.is_kind;
  fits = subst (λ (c : ℕ). s < c) (sym cap) q.fits;
  is_id = q.is_id;
  is_off = λ d. q.is_off (sym lay ∙ d);
  word = subst (λ (c : ℕ). get_or m.values (e.id * c + s) 0 ≡ or_else e.value 0) (sym cap) q.word;
  low = q.low;
  bit = subst (λ (c : ℕ). bit_at m.masks (e.id * (64 * words_for c) + s) ≡ is_some e.value) (sym cap) q.bit;
}

pub held_later : (t u : Batch) (m : Buffers) (i : ℕ) (e : Entry) (s : ℕ) → Later t u → Held t m i e s → Held u m i e s
held_later t u m i e s p q =
    held_as t u m i e s p.layout p.capacity (omega (arith, p.grew, q.known)) (p.name e.id q.known) (p.kind e.id q.known) q

pub slot_at_append : (l : Layout) (es r : List Entry) (i : ℕ) → i < length es → own_slot l (es ++ r) i ≡ own_slot l es i
slot_at_append Sparse es r i h = refl
slot_at_append Dense es r i h =
    let le : i ≤ length es = omega arith in
    rw (get_or-append es r no_entry i h, take-append-le i es r le)

-- an array reads the same after later appends
pub holds_earlier : (t u : Batch) (m : Buffers) → Counted t → Later t u → Holds u m → Holds t m
holds_earlier t u m inv p h = record {
  name = λ k q.
      let w : k < length u.log.columns = omega (arith, p.grew) in
      subst (λ (x : List ℕ). name_at m k (length x) ≡ x) (p.name k q) (h.name k w);
  held = λ i q.
      let es : List Entry = t.log.entries in
      let r : List Entry = p.entries.rest in
      let kn : (entry_at es i).id < length t.log.columns = inv.ids i q in
      let w : i < length u.log.entries = subst (λ (x : List Entry). i < length x) (sym p.entries.is) (lt_append es r i q) in
      let entry : entry_at u.log.entries i ≡ entry_at es i = ap (λ (x : List Entry). entry_at x i) p.entries.is ∙ get_or-append es r no_entry i q in
      let slot : own_slot u.layout u.log.entries i ≡ own_slot t.layout es i
      = ap (λ (l : Layout). own_slot l u.log.entries i) p.layout ∙ ap (λ (x : List Entry). own_slot t.layout x i) p.entries.is
      ∙ slot_at_append t.layout es r i q in
      held_as u t m i (entry_at es i) (own_slot t.layout es i) (sym p.layout) (sym p.capacity) kn (sym (p.name _ kn)) (sym (p.kind _ kn))
      (subst (λ (e : Entry). Held u m i e (own_slot t.layout es i)) entry
      (subst (λ (s : ℕ). Held u m i (entry_at u.log.entries i) s) slot (h.held i w)));
}
