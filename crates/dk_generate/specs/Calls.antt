-- The calls that work on the stack.
use Rattle.std.specs.Prelude.{◌==◌, ◌&&◌, ◌||◌, ◌+◌, ◌-◌, ◌%◌, ◌<◌, ◌≤◌, ℕ, Bool, if◌then◌else◌, nat_lt, slice_index, slice_set}
use Rattle.dk_generate.specs.Draws.{drawn_number, next_state}
use Rattle.dk_generate.specs.declared.calls.Call.{Call}
use Rattle.dk_generate.specs.declared.calls.Call.TheVariants.{Push, Pop}
use Rattle.dk_generate.specs.declared.calls.Stack.{Stack}
use Rattle.dk_generate.specs.declared.calls.Turn.{Turn}

-- a push is next where the stack is empty, and where it has room for one more and the number drawn is even
abbrev pub is_push : ℕ → ℕ → Bool
is_push height number = height == 0 || (nat_lt height 8 && number % 2 == 0)

-- the next call; what a push puts on the stack is a further draw
abbrev pub drawn_call : Turn → Call
drawn_call turn =
    let state = next_state turn.draws in
    if is_push turn.stack.height (drawn_number state) then Push (drawn_number (next_state state) % 100) else Pop

-- the draws behind a call
abbrev pub draws_after : ℕ → Call → ℕ
draws_after draws (Push item) = next_state (next_state draws)
draws_after draws Pop = next_state draws

-- the stack behind a call; a pop leaves the items as they are
abbrev pub after_call : Stack → Call → Stack
after_call stack (Push item) = record { height = stack.height + 1; items = slice_set stack.items stack.height item }
after_call stack Pop = record { height = stack.height - 1; items = stack.items }

-- what the next call leaves
abbrev pub next_turn : Turn → Turn
next_turn turn = let call = drawn_call turn in record { draws = draws_after turn.draws call; stack = after_call turn.stack call }

-- the last of the items that lie on the stack
abbrev pub last_item : Stack → ℕ
last_item stack = slice_index stack.items (stack.height - 1)

-- there is room for a push, and an item for a pop
abbrev pub IsAllowed : Stack → Call → Type 0
IsAllowed stack (Push item) = stack.height < 8
IsAllowed stack Pop = (0 < stack.height) × (stack.height ≤ 8)
