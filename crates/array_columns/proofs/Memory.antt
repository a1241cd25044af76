-- Lent memory that stays the same memory. Assumes nothing.
use mathlib.Core.Path.{refl, ◌∙◌}
use Rattle.array_columns.specs.declared.BuffersMut.{BuffersMut}
use Rattle.array_columns.specs.Buffers.{Same}

pub same_refl : (m : BuffersMut) → Same m m
same_refl m = record { ids = refl; offsets = refl; values = refl; masks = refl; names = refl }

pub same_trans : {a b c : BuffersMut} → Same a b → Same b c → Same a c
same_trans s t = record { ids = s.ids ∙ t.ids; offsets = s.offsets ∙ t.offsets; values = s.values ∙ t.values; masks = s.masks ∙ t.masks; names = s.names ∙ t.names }
