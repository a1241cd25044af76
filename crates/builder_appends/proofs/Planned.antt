-- The plan of an append, by the questions that are answered, and what an accepted one knows. Assumes nothing.
use mathlib.Core.Path.{◌≡◌, refl, sym, ap, ◌∙◌, subst}
use mathlib.Core.Bool.{true, false}
use mathlib.Core.Option.{Option, none, some}
use mathlib.Core.List.{List}
use Prim.Native.Nat.{ℕ, zero, suc, ◌≤◌, ◌<◌}
use native.Mathlib.Nat.{mul-le-mul_right}
use native.Mathlib.Omega.{arith}
use borrow.Author.Tests.{leb-true, ltb-true}
use lib.Dec.{leb, ltb}
use lib.ListN.{length}
use Rattle.std.specs.Prelude.{Result, Ok, Err, IfOk}
use Rattle.bitmap.specs.Bits.{words_for}
use Rattle.bitmap.specs.Lists.{first_of}
use Rattle.bitmap.proofs.Tables.{both}
use Rattle.bitmap.proofs.Firsts.{first_lt}
use Rattle.array_columns.specs.declared.Amounts.{Amounts}
use Rattle.array_columns.specs.declared.Kind.{Kind}
use Rattle.array_columns.specs.declared.Layout.{Layout}
use Rattle.array_columns.specs.declared.Layout.TheVariants.{Sparse, Dense}
use Rattle.array_columns.specs.declared.Refusal.{Refusal}
use Rattle.array_columns.specs.Refusal.{no, ◌then◌, refusal_number}
use Rattle.array_columns.proofs.Tests.{then_zero, yes_is}
use Rattle.array_columns.proofs.Numbered.{if_refused}
use Rattle.array_columns.specs.Types.{by_layout, same_kind}
use Rattle.union_names.specs.Utf8.{utf8}
use Rattle.union_names.specs.Names.{question17}
use Rattle.builder_columns.specs.declared.BuilderColumn.{BuilderColumn}
use Rattle.builder_columns.specs.declared.BuilderHead.{BuilderHead}
use Rattle.builder_columns.specs.declared.Plan.{Plan}
use Rattle.builder_columns.specs.Columns.{nth_column, has_name, opened}
use Rattle.builder_columns.specs.Finding.{found_in}
use Rattle.builder_columns.specs.Planning.{PlanAnswer, plan_told, plan_of, refused_plan, accepted_plan, plan_if, found_plan}
use Rattle.builder_columns.specs.Writing.{Room, Writable}
use Rattle.builder_appends.specs.Questions.{Open}
use Rattle.builder_appends.specs.Steps.{plan_for}

first_slots_le : (l : Layout) (n : ℕ) → by_layout l n 0 ≤ n
first_slots_le Sparse n = omega arith
first_slots_le Dense n = omega arith

pub name_short : (name : List ℕ) → question17 name ≡ true → length name ≤ 32
unfolding question17
name_short name h = leb-true _ _ (both (leb (length name) 32) (utf8 name) h).0

-- ---- by the questions that are answered

module _ (h : BuilderHead) (cs : List BuilderColumn) (names name : List ℕ) (kind : Kind) where
  pub plan_no : (r : Refusal) → refused_plan (refusal_number r) ≡ plan_for (refusal_number r) h cs names name kind
  unfolding plan_for
  plan_no r = sym (if_refused r _ _)

  pub plan_17 : question17 name ≡ false → refused_plan 17 ≡ plan_for 0 h cs names name kind
  unfolding plan_for
  plan_17 q = rw q

  pub plan_rest : question17 name ≡ true → found_plan h (found_in cs (first_of h.count (has_name cs names name))) name kind ≡ plan_for 0 h cs names name kind
  unfolding plan_for
  plan_rest q = rw q

-- ---- what an accepted plan knows

pub record Planned (h : BuilderHead) (cs : List BuilderColumn) (p : Plan) (size : ℕ) (lent : Amounts) : Type 0 where
  pub writable : Writable h p size lent
  pub few : p.count ≤ 128
  pub used : p.id < p.count
  pub len : h.len < 65536
  pub slots : p.column.slots < 65536
  pub others : (k : ℕ) → k < p.count → (k ≡ p.id → ⊥) → (nth_column cs k).slots < 65536

if_zero : (n : ℕ) (p : PlanAnswer) → (plan_if n p).refusal ≡ 0 → n ≡ 0
if_zero zero p e = refl
if_zero (suc n) p e = e

if_is : (n : ℕ) (p : PlanAnswer) → n ≡ 0 → p ≡ plan_if n p
if_is n p e = sym (ap (λ (k : ℕ). plan_if k p) e)

module _ (h : BuilderHead) (cs : List BuilderColumn) (lent : Amounts) (name : List ℕ) (kind : Kind) (o : Open h cs lent) where
  room_for : (n : ℕ) → n ≤ h.limit → Room h.capacity n lent.values lent.masks
  room_for n g =
      let f = o.numbers in
      let l = o.memory in
      let v = mul-le-mul_right {m = n} {n = h.limit} h.capacity g in
      let w = mul-le-mul_right {m = n} {n = h.limit} (words_for h.capacity) g in
      let lv = l.values in
      let lm = l.masks in
      let few = f.few in
      record { small = f.small; few = omega arith; words = omega arith; bits = omega arith }

  -- a new name's
  new_planned : length name ≤ 32 → h.len < h.capacity → h.count < h.limit
      → Planned h cs (plan_of (opened name kind (by_layout h.layout h.len 0)) h.count (suc h.count) true) (length name) lent
  new_planned short more room =
      let l = o.memory in
      let names = l.names in
      let few = o.numbers.few in
      let small = o.numbers.small in
      let s = first_slots_le h.layout h.len in
      record {
        writable = record {
          used = omega arith;
          len = more;
          slots = s;
          room = room_for (suc h.count) room;
          ids = l.ids;
          offsets = l.offsets;
          bytes = omega arith;
          short = short;
        };
        few = omega arith;
        used = omega arith;
        len = omega arith;
        slots = omega arith;
        others = λ k g n. let q = o.slots k (omega (arith, n)) in omega arith;
      }

  -- a known name's
  known-planned : (j : ℕ) → j < h.count → length name ≤ 32 → h.len < h.capacity
      → Planned h cs (plan_of (nth_column cs j) j h.count false) (length name) lent
  known-planned j below short more =
      let l = o.memory in
      let names = l.names in
      let few = o.numbers.few in
      let cols = o.numbers.columns in
      let small = o.numbers.small in
      let s = o.slots j below in
      record {
        writable = record {
          used = below;
          len = more;
          slots = s;
          room = room_for h.count cols;
          ids = l.ids;
          offsets = l.offsets;
          bytes = omega arith;
          short = short;
        };
        few = omega arith;
        used = below;
        len = omega arith;
        slots = omega arith;
        others = λ k g n. let q = o.slots k g in omega arith;
      }

  found_planned : length name ≤ 32 → (at : Option ℕ) → ((k : ℕ) → at ≡ some k → k < h.count) → (found_plan h (found_in cs at) name kind).refusal ≡ 0
      → Planned h cs (found_plan h (found_in cs at) name kind).plan (length name) lent
  unfolding found_plan
  found_planned short none below r =
      let n = no 19 (ltb h.len h.capacity) then no 20 (ltb h.count h.limit) in
      let p = accepted_plan (opened name kind (by_layout h.layout h.len 0)) h.count (suc h.count) true in
      let z = if_zero n p r in
      let q = then_zero (no 19 (ltb h.len h.capacity)) (no 20 (ltb h.count h.limit)) z in
      subst (λ (x : PlanAnswer). Planned h cs x.plan (length name) lent) (if_is n p z)
      (new_planned short (ltb-true _ _ (yes_is 18 (ltb h.len h.capacity) q.0)) (ltb-true _ _ (yes_is 19 (ltb h.count h.limit) q.1)))
  found_planned short (some j) below r =
      let n = no 18 (same_kind (nth_column cs j).kind kind) then no 19 (ltb h.len h.capacity) in
      let p = accepted_plan (nth_column cs j) j h.count false in
      let z = if_zero n p r in
      let q = then_zero (no 18 (same_kind (nth_column cs j).kind kind)) (no 19 (ltb h.len h.capacity)) z in
      subst (λ (x : PlanAnswer). Planned h cs x.plan (length name) lent) (if_is n p z)
      (known-planned j (below j refl) short (ltb-true _ _ (yes_is 18 (ltb h.len h.capacity) q.1)))

pub plan_known : (n : ℕ) (h : BuilderHead) (cs : List BuilderColumn) (lent : Amounts) (names name : List ℕ) (kind : Kind) (p : Plan) → (n ≡ 0 → Open h cs lent)
    → record { plan = p; refusal = 0 } ≡ plan_for n h cs names name kind → Planned h cs p (length name) lent
unfolding plan_for
plan_known n h cs lent names name kind p o e =
    let at = first_of h.count (has_name cs names name) in
    let f = found_plan h (found_in cs at) name kind in
    let q = plan_if (no 17 (question17 name)) f in
    let r : (plan_if n q).refusal ≡ 0 = sym (ap (λ (x : PlanAnswer). x.refusal) e) in
    let z = if_zero n q r in
    let r₁ : q.refusal ≡ 0 = subst (λ k. (plan_if k q).refusal ≡ 0) z r in
    let z₁ = if_zero (no 17 (question17 name)) f r₁ in
    let r₂ : f.refusal ≡ 0 = subst (λ k. (plan_if k f).refusal ≡ 0) z₁ r₁ in
    subst (λ (x : PlanAnswer). Planned h cs x.plan (length name) lent) (if_is (no 17 (question17 name)) f z₁ ∙ if_is n q z ∙ sym e)
    (found_planned h cs lent name kind (o z) (name_short name (yes_is 16 (question17 name) z₁)) at (first_lt h.count (has_name cs names name)) r₂)

-- what an accepted plan knows, of the code's answer
pub planned_known : (n : ℕ) (h : BuilderHead) (cs : List BuilderColumn) (lent : Amounts) (names name : List ℕ) (kind : Kind) (p : Result Plan Refusal) → (n ≡ 0 → Open h cs lent)
    → plan_told p ≡ plan_for n h cs names name kind → IfOk p (λ x. Planned h cs x (length name) lent)
planned_known n h cs lent names name kind (Ok p) o e = plan_known n h cs lent names name kind p o e
planned_known n h cs lent names name kind (Err r) o e = _
