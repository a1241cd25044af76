-- UTF-8 by the grammar is the library's: the bytes of some characters. Assumes nothing.
use Rattle.std.proofs.Common.{◌≡◌, ℕ, zero, suc, ◌+◌, ◌-◌, ◌*◌, ◌/◌, ◌<◌, ◌≤◌, ◌⊎◌, inl, inr, List, [], ◌∷◌, ◌++◌, length, true, true≢false, cond, nat_eq, IsUtf8, Decides, arith, refl, sym, ap, ◌∙◌, subst, length-append, leb-true}
use Rattle.std.proofs.lemmas.Bool.{and_parts, cases_lt}
use Rattle.std.proofs.lemmas.Bool.Decides.{nat_tests}
use Rattle.std.proofs.lemmas.Str.{IsUtf8-append, IsUtf8-nil}
use Rattle.std.proofs.str.Laws.{Follows, one, two, three, four}
use Rattle.std.proofs.str.Valid.{of_one, of_two, of_three, of_four}
use lib.Utf8.{scalar, scalars, next, encode, encodes, scalar_cases}
use Rattle.union_names.specs.Utf8.{Range, range, tail, never, in_range, following, utf8_after, utf8}
use Rattle.union_names.proofs.Ranges.{one_byte, no_lead, two_bytes, three_bytes, four_bytes, too_large}

-- ---- the bytes of a character are by the grammar

led : (b : ℕ) (rs : List Range) (bs : List ℕ) → following b ≡ rs → utf8_after [] (b ∷ bs) ≡ utf8_after rs bs
led b rs bs e = ap (λ (l : List Range). utf8_after l bs) e

in_yes : (b low high : ℕ) → low ≤ b → b ≤ high → in_range b low high ≡ true
in_yes b low high l h = grind (arith, nat_tests)

met : (low high b : ℕ) (rs : List Range) (bs : List ℕ) → low ≤ b → b ≤ high → utf8_after (range low high ∷ rs) (b ∷ bs) ≡ utf8_after rs bs
met low high b rs bs l h = rw (in_yes b low high l h)

tails : (b : ℕ) (rs : List Range) (bs : List ℕ) → Follows b → utf8_after (tail ∷ rs) (b ∷ bs) ≡ utf8_after rs bs
tails b rs bs f = met 0x80 0xbf b rs bs f.0 (omega arith)

module _ (rest : List ℕ) where
  past_one : (c : ℕ) → c < 128 → utf8_after [] (encode c ++ rest) ≡ utf8_after [] rest
  past_one c h = rw (one c h) (led c [] rest (one_byte c h))

  past_two : (c : ℕ) → 128 ≤ c → c < 2048 → utf8_after [] (encode c ++ rest) ≡ utf8_after [] rest
  past_two c l h =
      rw (two c l h)
      (led (192 + c / 64) (tail ∷ []) (next c ∷ rest) (two_bytes (192 + c / 64) (omega arith) (omega arith)) ∙ tails (next c) [] rest (omega arith, omega arith))

  past_three : (c : ℕ) → 2048 ≤ c → c < 65536 → (c < 55296) ⊎ (57344 ≤ c) → utf8_after [] (encode c ++ rest) ≡ utf8_after [] rest
  past_three c l h s =
      let x = 224 + c / 4096 in
      let y = next (c / 64) in
      let low : cond (nat_eq x 0xe0) 0xa0 0x80 ≤ y = grind (arith, nat_tests) in
      let high : y ≤ cond (nat_eq x 0xed) 0x9f 0xbf = grind (arith, nat_tests) in
      rw (three c l h)
      (led x _ (y ∷ next c ∷ rest) (three_bytes x (omega arith) (omega arith))
      ∙ met _ _ y (tail ∷ []) (next c ∷ rest) low high
      ∙ tails (next c) [] rest (omega arith, omega arith))

  past_four : (c : ℕ) → 65536 ≤ c → c < 1114112 → utf8_after [] (encode c ++ rest) ≡ utf8_after [] rest
  past_four c l h =
      let x = 240 + c / 262144 in
      let y = next (c / 4096) in
      let low : cond (nat_eq x 0xf0) 0x90 0x80 ≤ y = grind (arith, nat_tests) in
      let high : y ≤ cond (nat_eq x 0xf4) 0x8f 0xbf = grind (arith, nat_tests) in
      rw (four c l)
      (led x _ (y ∷ next (c / 64) ∷ next c ∷ rest) (four_bytes x (omega arith) (omega arith))
      ∙ met _ _ y (tail ∷ tail ∷ []) (next (c / 64) ∷ next c ∷ rest) low high
      ∙ tails (next (c / 64)) (tail ∷ []) (next c ∷ rest) (omega arith, omega arith)
      ∙ tails (next c) [] rest (omega arith, omega arith))

  past : (c : ℕ) → scalar c ≡ true → utf8_after [] (encode c ++ rest) ≡ utf8_after [] rest
  past c s = elim (scalar_cases c s) [
    | inl h ↦ elim (cases_lt c 128) [
      | inl h₁ ↦ past_one c h₁
      | inr l₁ ↦ elim (cases_lt c 2048) [ inl h₂ ↦ past_two c l₁ h₂ | inr l₂ ↦ past_three c l₂ (omega arith) (inl h) ]
    ]
    | inr h ↦ elim (cases_lt c 65536) [ inl h₃ ↦ past_three c (omega arith) h₃ (inr h.0) | inr l₃ ↦ past_four c l₃ h.1 ]
  ]

all_past : (cs : List ℕ) → scalars cs ≡ true → utf8_after [] (encodes cs) ≡ true
all_past [] s = refl
all_past (c ∷ cs) s = let p = and_parts _ _ s in past (encodes cs) c p.0 ∙ all_past cs p.1

-- ---- bytes by the grammar are those of characters

-- a byte that meets a range, and what follows it
record Met (low high : ℕ) (rs : List Range) (bs : List ℕ) : Type 0 where
  byte : ℕ
  more : List ℕ
  split : bs ≡ byte ∷ more
  above : low ≤ byte
  below : byte ≤ high
  left : utf8_after rs more ≡ true

met_by : (low high : ℕ) (rs : List Range) (bs : List ℕ) → utf8_after (range low high ∷ rs) bs ≡ true → Met low high rs bs
met_by low high rs [] u = absurd (true≢false (sym u))
met_by low high rs (b ∷ bs) u =
    let p = and_parts _ _ u in
    let q = and_parts _ _ p.0 in
    record { byte = b; more = bs; split = refl; above = leb-true low b q.0; below = leb-true b high q.1; left = p.1 }

-- the bytes of a character, and what follows them
record Led (bs : List ℕ) : Type 0 where
  front : List ℕ
  more : List ℕ
  split : bs ≡ front ++ more
  text : IsUtf8 front
  some : 0 < length front
  left : utf8_after [] more ≡ true

-- characters of two, three and four bytes, by their first byte

by_two : (x : ℕ) (bs : List ℕ) → 194 ≤ x → x < 224 → utf8_after (tail ∷ []) bs ≡ true → Led (x ∷ bs)
by_two x bs l h u =
    let m = met_by 0x80 0xbf [] bs u in
    let front = x ∷ m.byte ∷ [] in
    record {
      front = front;
      more = m.more;
      split = ap (λ (l : List ℕ). x ∷ l) m.split;
      text = of_two front 0 (omega arith) (l, h) (m.above, omega arith);
      some = omega arith;
      left = m.left;
    }

by_three : (x low high : ℕ) (bs : List ℕ) → 224 ≤ x → x < 240
    → low ≡ cond (nat_eq x 0xe0) 0xa0 0x80 → high ≡ cond (nat_eq x 0xed) 0x9f 0xbf → utf8_after (range low high ∷ tail ∷ []) bs ≡ true → Led (x ∷ bs)
by_three x low high bs l h el eh u =
    let m = met_by low high (tail ∷ []) bs u in
    let n = met_by 0x80 0xbf [] m.more m.left in
    let y = m.byte in
    let z = n.byte in
    let front = x ∷ y ∷ z ∷ [] in
    let f : Follows y = (grind (arith, nat_tests, m.above), grind (arith, nat_tests, m.below)) in
    let g : Follows z = (n.above, omega (arith, n.below)) in
    let c = (x - 224) * 4096 + (y - 128) * 64 + (z - 128) in
    let long : 2048 ≤ c = grind (arith, nat_tests, m.above) in
    let scalar_range : (c < 55296) ⊎ (57344 ≤ c) = grind (arith, nat_tests, m.below) in
    record {
      front = front;
      more = n.more;
      split = ap (λ (t : List ℕ). x ∷ t) (m.split ∙ ap (λ (t : List ℕ). y ∷ t) n.split);
      text = of_three front 0 (omega arith) (l, h) f g long scalar_range;
      some = omega arith;
      left = n.left;
    }

by_four : (x low high : ℕ) (bs : List ℕ) → 240 ≤ x → x < 245
    → low ≡ cond (nat_eq x 0xf0) 0x90 0x80 → high ≡ cond (nat_eq x 0xf4) 0x8f 0xbf → utf8_after (range low high ∷ tail ∷ tail ∷ []) bs ≡ true → Led (x ∷ bs)
by_four x low high bs l h el eh u =
    let m = met_by low high (tail ∷ tail ∷ []) bs u in
    let n = met_by 0x80 0xbf (tail ∷ []) m.more m.left in
    let o = met_by 0x80 0xbf [] n.more n.left in
    let y = m.byte in
    let front = x ∷ y ∷ n.byte ∷ o.byte ∷ [] in
    let f : Follows y = (grind (arith, nat_tests, m.above), grind (arith, nat_tests, m.below)) in
    let high' = (x - 240) * 64 + (y - 128) in
    let least : 16 ≤ high' = grind (arith, nat_tests, m.above) in
    let most : high' < 272 = grind (arith, nat_tests, m.below) in
    record {
      front = front;
      more = o.more;
      split = ap (λ (t : List ℕ). x ∷ t) (m.split ∙ ap (λ (t : List ℕ). y ∷ t) (n.split ∙ ap (λ (t : List ℕ). n.byte ∷ t) o.split));
      text = of_four front 0 (omega arith) l f (n.above, omega (arith, n.below)) (o.above, omega (arith, o.below)) (least, most);
      some = omega arith;
      left = o.left;
    }

-- no bytes meet `never`
none_met : {P : Type 0} (bs : List ℕ) → utf8_after (never ∷ []) bs ≡ true → P
none_met bs u = let m = met_by 1 0 [] bs u in absurd (omega (arith, m.above, m.below))

first_led : (x : ℕ) (bs : List ℕ) → utf8_after [] (x ∷ bs) ≡ true → Led (x ∷ bs)
first_led x bs u =
    let at : (rs : List Range) → following x ≡ rs → utf8_after rs bs ≡ true = λ rs e. sym (led x rs bs e) ∙ u in
    elim (cases_lt x 0x80) [
      | inl h₁ ↦ record { front = x ∷ []; more = bs; split = refl; text = of_one (x ∷ []) 0 (omega arith) h₁; some = omega arith; left = at _ (one_byte x h₁) }
      | inr l₁ ↦ elim (cases_lt x 0xc2) [
        | inl h₂ ↦ none_met bs (at _ (no_lead x l₁ h₂))
        | inr l₂ ↦ elim (cases_lt x 0xe0) [
          | inl h₃ ↦ by_two x bs l₂ h₃ (at _ (two_bytes x l₂ h₃))
          | inr l₃ ↦ elim (cases_lt x 0xf0) [
            | inl h₄ ↦ by_three x _ _ bs l₃ h₄ refl refl (at _ (three_bytes x l₃ h₄))
            | inr l₄ ↦ elim (cases_lt x 0xf5) [
              | inl h₅ ↦ by_four x _ _ bs l₄ h₅ refl refl (at _ (four_bytes x l₄ h₅))
              | inr l₅ ↦ none_met bs (at _ (too_large x l₅))
            ]
          ]
        ]
      ]
    ]

-- n is at least the number of bytes
text : (n : ℕ) (bs : List ℕ) → length bs ≤ n → utf8_after [] bs ≡ true → IsUtf8 bs
text n [] h u = IsUtf8-nil
text zero (x ∷ bs) h u = absurd (omega arith)
text (suc n) (x ∷ bs) h u =
    let c = first_led x bs u in
    let fewer : length c.more ≤ n = omega (arith, ap length c.split, length-append c.front c.more, c.some) in
    subst IsUtf8 (sym c.split) (IsUtf8-append c.front c.more c.text (text n c.more fewer c.left))

pub utf8_Decides : (bs : List ℕ) → Decides (utf8 bs) (IsUtf8 bs)
unfolding utf8
utf8_Decides bs = (text (length bs) bs (omega arith), λ u. rw (← u.1.1) (all_past u.0 u.1.0))
