use Rattle.std.proofs.Common.{rules, ◌≡◌, sym, ap, ◌∙◌, List, ℕ, ◌+◌, ◌*◌, ◌-◌, ◌%◌, ◌^◌, ◌<◌, min, arith, Bool, true, false, length, take, drop, set, get_or, length-take, length-drop}
use lib.Bits.{bit_or}
use lib.IntN.{pos}
use lib.Signed.{mag}
use Rattle.bitmap.proofs.OneBit.{none_yet, or_here, not_here}
use Rattle.bitmap.proofs.Tables.{retable_none, retable_turn}
use Rattle.array_columns.specs.Buffers.{Buffers}
use Rattle.mask_words.specs.Steps.{word_of}
use Rattle.mask_words.proofs.Writing.{words_done}
use Rattle.gather_table.specs.Table.{child_slot, gathered_at}
use Rattle.gather_table.proofs.Entries.{looked_up, gathered, entry_fits, looked_up_is}
use Rattle.gather_table.proofs.table.write_gathered.Goals as goal
use Rattle.gather_table.proofs.table.write_gathered.Goals.{then-is_present, else-is_present}

pub loop-k-init : goal.loop-k-init
loop-k-init c = sym (retable_none _ _)

pub loop-j-init : goal.loop-j-init
loop-j-init c = none_yet 64 _

pub is_present-requires : goal.is_present-requires
is_present-requires c =
    let a = c.args in
    let l = c.loop-j in
    let byte : mag (get_or (take c.span.result (take (length a.ids.now - 64 * c.loop-k.k) (drop (64 * c.loop-k.k) a.ids.now))) l.j (pos 0)) < 128 = search rules in
    let e = ap (λ (m : Buffers). child_slot a.layout m.offsets a.at (64 * c.loop-k.k + l.j)) c.lent.view_is in
    entry_fits a.table.now a.lent.now a.ids.now a.layout a.at c.requires.gathers c.loop-k.k c.span.result l.j c.span.ensures c.loop-j-test.true byte
    c.child_slot-p.result (c.child_slot-p.ensures ∙ e)

pub loop-j-preserved : goal.loop-j-preserved
loop-j-preserved c =
    let a = c.args in
    let l = c.loop-j in
    let f : ℕ → Bool = looked_up a.table.now a.lent.now a.ids.now (child_slot a.layout a.lent.now.offsets a.at) c.loop-k.k in
    let byte : mag (get_or (take c.span.result (take (length a.ids.now - 64 * c.loop-k.k) (drop (64 * c.loop-k.k) a.ids.now))) l.j (pos 0)) < 128 = search rules in
    let e = ap (λ (m : Buffers). child_slot a.layout m.offsets a.at (64 * c.loop-k.k + l.j)) c.lent.view_is in
    let here = λ (b : Bool) (r : c.is_present.result ≡ b).
    looked_up_is a.table.now a.lent.now a.ids.now a.layout a.at c.requires.gathers c.loop-k.k c.span.result l.j c.span.ensures c.loop-j-test.true byte
    c.child_slot-p.result (c.child_slot-p.ensures ∙ e) b (sym r ∙ c.is_present.ensures) in
    let h : l.j < 64 = omega (arith, c.span.ensures, length-take c.span.result (take (length a.ids.now - 64 * c.loop-k.k) (drop (64 * c.loop-k.k) a.ids.now))) in
    elim c.if-is_present.branch [
      | then-is_present w ↦ w.x-is ∙ ap (λ (m : ℕ). bit_or m ((1 * 2 ^ l.j) % 2 ^ 64)) l.invariant ∙ or_here f l.j (here true w.if-is_present.true) h
      | else-is_present w ↦ w.x-is ∙ l.invariant ∙ not_here f l.j (here false w.if-is_present.false)
    ]

pub loop-k-preserved : goal.loop-k-preserved
loop-k-preserved c =
    let a = c.args in
    let ids = a.ids.now in
    let k = c.loop-k.k in
    let j = c.loop-j.j in
    let slot : ℕ → ℕ = child_slot a.layout a.lent.now.offsets a.at in
    let rest = take (length ids - 64 * k) (drop (64 * k) ids) in
    let e : j ≡ min 64 (length ids - 64 * k) =
    omega (arith, c.span.ensures, length-take c.span.result rest, length-take (length ids - 64 * k) (drop (64 * k) ids), length-drop (64 * k) ids, c.loop-j-test.false, c.loop-j.auto.j-end) in
    ap (λ (o : List ℕ). set o k c.loop-j.x) c.loop-k.invariant
    ∙ retable_turn (word_of (length ids) (gathered_at a.table.now a.lent.now ids slot)) (take c.words_for-words.result a.out.now) k c.loop-j.x
    (c.loop-j.invariant ∙ gathered a.table.now a.lent.now ids slot k j e) c.loop-k-test.true

pub returns : goal.returns
returns c =
    let a = c.args in
    let l = c.loop-k in
    let w = c.words_for-words in
    words_done (length a.ids.now) (gathered_at a.table.now a.lent.now a.ids.now (child_slot a.layout a.lent.now.offsets a.at)) a.out.now l.word-items l.k w.result w.ensures
    (omega (arith, c.requires.room, w.ensures)) l.invariant (omega arith)
