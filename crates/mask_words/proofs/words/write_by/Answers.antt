use Rattle.std.proofs.Common.{rules, ◌≡◌, sym, ap, ◌∙◌, subst, List, ℕ, arith, length, take, set, get_or, length-set}
use Rattle.bitmap.proofs.Tables.{retable_none, retable_turn}
use Rattle.array_columns.specs.declared.Column.{Column}
use Rattle.array_columns.specs.Types.{no_column}
use Rattle.mask_words.specs.Steps.{FieldChunk, word_of, columns_at, field_chunk, step_at, Held}
use Rattle.mask_words.proofs.Stepping.{step_ready, word_made}
use Rattle.mask_words.proofs.TakenUp.{at_place, valid_at}
use Rattle.mask_words.proofs.Writing.{word_starts, words_done}
use Rattle.mask_words.proofs.words.write_by.Goals as goal

-- `c.requires` holds the arguments' facts, and then in turn: room, ready, may_step, makes.

pub loop-k-init : goal.loop-k-init
loop-k-init g c = record { long = search rules; words = sym (retable_none _ _) }

pub loop-q-init : goal.loop-q-init
loop-q-init g c = record { long = c.loop-k.invariant.long; read = sym (retable_none _ _) }

pub of-requires : goal.of-requires
of-requires g c =
    let a = c.args in
    let w = c.words_for-words in
    let t = c.requires.1.1.0.taken in
    let q = c.loop-q.q in
    let h = c.loop-q-test.true in
    let e = at_place a.columns.now a.places.now q h in (
      word_starts (length a.ids.now) c.loop-k.k w.result a.out.now w.ensures c.loop-k-test.true,
      subst (Held a.lent.now (length a.ids.now)) e (t.held q h),
      valid_at a.columns.now a.places.now q h t.taken.valid,
    )

pub loop-q-preserved : goal.loop-q-preserved
loop-q-preserved g c =
    let a = c.args in
    let l = c.loop-q in
    let cs = columns_at a.columns.now a.places.now in
    let f : Column → FieldChunk = field_chunk a.lent.now (length a.ids.now) c.loop-k.k in
    let here : c.of.result ≡ f (get_or cs l.q no_column) = c.of.ensures ∙ sym (ap f (at_place a.columns.now a.places.now l.q c.loop-q-test.true)) in
    record {
      long = simp length-set l.invariant.long;
      read = ap (λ (o : List FieldChunk). set o l.q c.of.result) l.invariant.read
          ∙ retable_turn (λ q. f (get_or cs q no_column)) c.loop-k.chunks l.q c.of.result here (omega (arith, c.loop-k.invariant.long, c.requires.1.1.0.few));
    }

pub step-requires : goal.step-requires
step-requires g c =
    let a = c.args in
    let l = c.loop-q in
    let read : length a.places.now ≡ l.q = omega arith in
    c.requires.1.1.1.0 _ _
    (step_ready g.over a.columns.now a.places.now a.lent.now a.ids.now c.requires.1.1.0 c.loop-k.k c.span.result l.q l.chunks c.loop-k.chunks l.invariant.read read c.span.ensures)

pub loop-k-preserved : goal.loop-k-preserved
loop-k-preserved g c =
    let a = c.args in
    let k = c.loop-k.k in
    let l = c.loop-q in
    let places = a.places.now in
    let read : length places ≡ l.q = omega arith in
    let fits = c.requires.1.1.0 in
    let ready = step_ready g.over a.columns.now places a.lent.now a.ids.now fits k c.span.result l.q l.chunks c.loop-k.chunks l.invariant.read read c.span.ensures in
    let word =
    word_made g.over a.columns.now places a.lent.now a.ids.now fits k c.span.result l.q l.chunks c.loop-k.chunks l.invariant.read read c.span.ensures
    c.step.result (c.requires.1.1.1.1 _ _ _ ready c.step.ensures) in
    record {
      long = l.invariant.long;
      words = ap (λ (o : List ℕ). set o k c.step.result) c.loop-k.invariant.words
          ∙ retable_turn (word_of (length a.ids.now) (step_at g.over (columns_at a.columns.now places) a.lent.now a.ids.now)) (take c.words_for-words.result a.out.now) k c.step.result word c.loop-k-test.true;
    }

pub returns : goal.returns
returns g c =
    let a = c.args in
    let l = c.loop-k in
    let w = c.words_for-words in
    words_done (length a.ids.now) (step_at g.over (columns_at a.columns.now a.places.now) a.lent.now a.ids.now) a.out.now l.word-items l.k w.result w.ensures
    (omega (arith, c.requires.1.0, w.ensures)) l.invariant.words (omega arith)
