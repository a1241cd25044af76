use Rattle.std.proofs.Common.{rules, ap, ◌∙◌, List, ◌≤◌, length}
use Rattle.array_columns.specs.declared.Column.{Column}
use Rattle.mask_words.specs.Steps.{Taken, taken_of, step_at, words_of}
use Rattle.mask_words.proofs.Stepping.{steps_ready, columns_are}
use Rattle.mask_words.proofs.words.write_stepped.Goals as goal

pub write_words-requires : goal.write_words-requires
write_words-requires c =
    let a = c.args in
    let places = c.places.result.now in
    let few : length places ≤ 128 = search rules in
    record {
      room = c.requires.room;
      ready = steps_ready c.from-over.result a.columns.now a.fs.now a.lent.now a.ids.now c.requires.ready places (c.places.ensures ∙ c.of-taken.ensures) few;
    }

pub returns : goal.returns
returns c =
    let a = c.args in
    let n = length a.ids.now in
    c.write_words.ensures
    ∙ ap (λ (l : List Column). words_of n (step_at c.from-over.result l a.lent.now a.ids.now) a.out.now)
    (columns_are c.from-over.result a.columns.now a.fs.now a.lent.now a.ids.now c.requires.ready c.places.result.now (c.places.ensures ∙ c.of-taken.ensures))
    ∙ ap (λ (o : Taken). words_of n (step_at o (taken_of o a.lent.now a.columns.now) a.lent.now a.ids.now) a.out.now) c.from-over.ensures
