use Rattle.std.proofs.Common.{rules, ◌≡◌, ap, ◌∙◌, List, ℕ, ◌++◌, replicate, drop}
use Rattle.mask_words.proofs.Writing.{null_words}
use Rattle.mask_words.proofs.words.write_nulls.Goals as goal

pub returns : goal.returns
returns c =
    let out = c.args.out.now in
    let n = c.words_for-words.result in
    let e : c.fill.new.self ≡ replicate n 0 = search rules in
    ap (λ (l : List ℕ). l ++ drop n out) e ∙ null_words c.args.len n out c.words_for-words.ensures
