-- Which leaders may stand beside another in a slot of three, by what is kept of two lists of samples.
use Rattle.std.specs.Prelude.{◌≡◌, ◌<◌, ◌&&◌, ◌||◌, ◌==◌, ◌∷◌, [], Bool, true, false, All, IsTrue, List, Option, filter, is_some, length, map, not}
use Rattle.std.specs.Borrow.{Bor}
use Rattle.std.specs.List.{list_any}
use Rattle.dk_base.specs.declared.kinds.VarId.{VarId}
use Rattle.dk_constants.specs.Known.{known_at}
use Rattle.dk_presence.specs.Patterns.{has}
use Rattle.dk_template.specs.Admitted.{is_written}
use Rattle.dk_template.specs.Premises.{row_of, suffices}
use Rattle.dk_template.specs.declared.answers.Premise.{Premise}
use Rattle.dk_template.specs.declared.answers.Premise.TheVariants.{Holds, LeastAtLeast, GreatestAtMost, Only}
use Rattle.dk_template.specs.declared.grammar.RowId.{RowId}
use Rattle.dk_engine.specs.Reading.Levels.{Whole}
use Rattle.dk_engine.specs.Reading.Parts.{leader_of}
use Rattle.dk_engine.specs.declared.kept.Kept.{Kept}
use Rattle.dk_engine.specs.declared.slots.slot.Slot.{Slot}
use Rattle.dk_ternary.specs.declared.operation.Operation.{Operation}
use Rattle.dk_join.specs.Joining.{Pair}
use Rattle.dk_join.specs.Numbers.{are_broken, numbers_of}
use Rattle.dk_join.specs.Watched.{watched}
use Rattle.dk_join.specs.declared.beside.Around.{Around}
use Rattle.dk_join.specs.declared.beside.Companion.{Companion}
use Rattle.dk_join.specs.declared.beside.Hands.{Hands}
use Rattle.dk_join.specs.declared.numbers.Numbered.{Numbered}

-- ---- slots at hand
-- the premise is that a row holds
abbrev pub is_relation : Premise → Bool
is_relation (Holds row roles) = true
is_relation (LeastAtLeast row role k) = false
is_relation (GreatestAtMost row role k) = false
is_relation (Only role k) = false

-- The slot may meet the premise: it is of the premise's row, and what it says of numbers is as the premise wants it.
unfoldable pub may_meet : Premise → Slot → Bool
may_meet p slot = (row_of p).0 == slot.row.0 && (is_relation p || suffices p slot.state)

-- it is of the row, or may meet one of the premises
abbrev pub is_at_hand : RowId → List Premise → Slot → Bool
is_at_hand row premises slot = slot.row.0 == row.0 || list_any (λ p. may_meet p slot) premises

-- those that may tell of a row of three leaders: its own, and those that may meet a watched premise
abbrev pub slots_at_hand : RowId → List Slot → List Slot
slots_at_hand row slots = filter (is_at_hand row (watched row)) slots

-- ---- slots around a leader
abbrev pub slots_around : RowId → List Slot → VarId → List Slot
slots_around row slots leader = filter (λ slot. has slot.leaders leader) (slots_at_hand row slots)

-- the slot is over one leader alone
abbrev pub is_alone : Slot → Bool
is_alone slot = length slot.leaders == 1

-- the leader is constant, or a slot around it is over it alone
abbrev pub is_free : Kept → RowId → VarId → Bool
is_free kept row leader = is_some (known_at kept.known leader) || list_any is_alone (slots_around row kept.slots leader)

-- The variable's leader may stand beside that of v: this is free, or a slot around it is over both.
abbrev pub stands_beside : Kept → RowId → VarId → VarId → Bool
stands_beside kept row v w =
    is_free kept row (leader_of kept.leaders v)
    || list_any (λ slot. has slot.leaders (leader_of kept.leaders w)) (slots_around row kept.slots (leader_of kept.leaders v))

-- ---- as the code tells it
-- the slots at hand of two engines for a row
pub record AreAtHand (pair : Pair) (row : RowId) (hands : Hands) : Type 0 where
  pub first : map (λ slot. slot.now) hands.first.items ≡ slots_at_hand row pair.first.kept.slots
  pub second : map (λ slot. slot.now) hands.second.items ≡ slots_at_hand row pair.second.kept.slots

-- what is around the leader of v, by these slots at hand: those that are over it, and whether it is constant or one of them is over it
-- alone
pub record AreAround (engine : Whole) (hand : List (Bor Slot)) (v : VarId) (around : Around) : Type 0 where
  pub engine_is : around.engine.now ≡ engine
  pub slots : around.slots.items ≡ filter (λ slot. has slot.now.leaders (leader_of engine.kept.leaders v)) hand
  pub free : around.free
      ≡ (is_some (known_at engine.kept.known (leader_of engine.kept.leaders v)) || list_any (λ slot. is_alone slot.now) around.slots.items)

-- a variable's leader may stand beside the one that these slots are around
abbrev pub is_beside : Around → VarId → Bool
is_beside around v = around.free || list_any (λ slot. has slot.now.leaders (leader_of around.engine.now.kept.leaders v)) around.slots.items

-- by these slots at hand for a row, no leader that may stand beside that of v is left out
abbrev pub LeavesNoneOut : Kept → List (Bor Slot) → VarId → Around → Type 0
LeavesNoneOut kept hand v around =
    (row : RowId) → map (λ slot. slot.now) hand ≡ slots_at_hand row kept.slots → (w : VarId) → IsTrue (stands_beside kept row v w)
    → IsTrue (is_beside around w)

-- A leader with its numbers, and whether it may stand beside another by what is kept of each of two lists of samples. Where that is
-- said of too many, none is left out.
pub record IsCompanion (pair : Pair) (row : RowId) (v : VarId) (w : Companion) : Type 0 where
  pub numbers : w.numbers ≡ numbers_of pair w.leader
  pub by_first : IsTrue (stands_beside pair.first.kept row v w.leader) → IsTrue w.by_first
  pub by_second : IsTrue (stands_beside pair.second.kept row v w.leader) → IsTrue w.by_second

-- it may stand beside the leader by what is kept of one of them
abbrev pub is_near : Companion → Bool
is_near w = w.by_first || w.by_second

-- by what is kept of each, one of two leaders may stand beside a third
abbrev pub may_stand : Companion → Companion → Bool
may_stand w x = (w.by_first || x.by_first) && (w.by_second || x.by_second)

-- and so the row may have a slot over the three, where they are in written order and the numbers don't break its relation
abbrev pub has_room : RowId → Option Operation → Numbered → Companion → Companion → Bool
has_room row operation v w x =
    may_stand w x
    && (is_written row (v.var ∷ w.leader ∷ x.leader ∷ []) && not (are_broken operation v.numbers w.numbers x.numbers))

-- ---- two lists of samples
pub record HaveSamples (pair : Pair) : Type 0 where
  pub first : 0 < pair.first.kept.samples
  pub second : 0 < pair.second.kept.samples

-- each of the variables has a leader in both
pub record AreLed (pair : Pair) (vars : List VarId) : Type 0 where
  pub first : All (λ (v : VarId). v.0 < length pair.first.kept.leaders) vars
  pub second : All (λ (v : VarId). v.0 < length pair.second.kept.leaders) vars
