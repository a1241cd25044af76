-- The claim's premise can be met: by every list of calls, each lent the memory as the last left it, with an accepted finish last at most.
use Rattle.std.specs.Prelude.{◌≡◌, Bool, true, false, not, ◌&&◌, List, [], ◌∷◌, ℕ}
use Rattle.array_columns.specs.declared.Kind.{Kind}
use Rattle.array_columns.specs.Buffers.{Buffers}
use Rattle.union_builder.specs.Finish.{finish_of}
use Rattle.union_history.specs.Claim as Claim
use Rattle.union_history.specs.Claim.{Call, State, Proper, after}

-- a call but for the memory that it is lent
pub data Ask : Type 0 where
  append : List ℕ → Kind → ℕ → Ask
  append_mut : List ℕ → Kind → ℕ → Ask
  append_null : List ℕ → Kind → Ask
  len : Ask
  finish_cloned : Ask
  finish : Ask

-- the call, lent m
abbrev pub lending : Buffers → Ask → Call
lending m (append name kind x) = Claim.append m name kind x
lending m (append_mut name kind x) = Claim.append_mut m name kind x
lending m (append_null name kind) = Claim.append_null m name kind
lending m len = Claim.len
lending m finish_cloned = Claim.finish_cloned m
lending m finish = Claim.finish m

-- the calls of a list, each lent the memory as the last left it
abbrev pub in_turn : State → List Ask → List Call
in_turn s [] = []
in_turn s (q ∷ qs) = lending s.buffers q ∷ in_turn (after s (lending s.buffers q)) qs

abbrev pub is_finish : Ask → Bool
is_finish (append name kind x) = false
is_finish (append_mut name kind x) = false
is_finish (append_null name kind) = false
is_finish len = false
is_finish finish_cloned = false
is_finish finish = true

-- a list without a finish
abbrev pub goes_on : List Ask → Bool
goes_on [] = true
goes_on (q ∷ qs) = not (is_finish q) && goes_on qs

-- an accepted finish is the last call, if there is one
abbrev pub FinishLast : State → List Ask → Type 0
FinishLast s [] = Unit {0}
FinishLast s (q ∷ qs) =
    (is_finish q ≡ true → (finish_of s.builder s.buffers).refusal ≡ 0 → qs ≡ []) × FinishLast (after s (lending s.buffers q)) qs

unfoldable pub PremiseMet : Type 0
PremiseMet = (s : State) (qs : List Ask) → FinishLast s qs → Proper s (in_turn s qs)

-- in particular by every list of appends, `len` and snapshots
unfoldable pub PremiseMetOn : Type 0
PremiseMetOn = (s : State) (qs : List Ask) → goes_on qs ≡ true → Proper s (in_turn s qs)
