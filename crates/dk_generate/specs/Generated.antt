-- The generated input.
use Rattle.std.specs.Prelude.{◌+◌, ◌++◌, ◌∷◌, ℕ, zero, suc, List, [], flat_map}
use Rattle.std.specs.List.{range_with_len}
use Rattle.dk_generate.specs.Calls.{drawn_call, next_turn}
use Rattle.dk_generate.specs.Records.{call_text}
use Rattle.dk_generate.specs.Texts.{declarations}
use Rattle.dk_generate.specs.declared.calls.Turn.{Turn}

-- the number is the first state of the draws, and the stack is empty
abbrev pub first_turn : ℕ → Turn
first_turn n = record { draws = n; stack = record { height = 0; items = 0 ∷ 0 ∷ 0 ∷ 0 ∷ 0 ∷ 0 ∷ 0 ∷ 0 ∷ [] } }

-- what so many calls leave
abbrev pub turn_after : ℕ → ℕ → Turn
turn_after n zero = first_turn n
turn_after n (suc calls) = next_turn (turn_after n calls)

-- the records of so many calls, which are numbered from 1
unfoldable pub calls_text : ℕ → ℕ → List ℕ
calls_text n calls = flat_map (λ k. let turn = turn_after n k in call_text (k + 1) turn.stack (drawn_call turn)) (range_with_len 0 calls)

-- the generated input: the declarations and the records of 10,000 calls
unfoldable pub generated_text : ℕ → List ℕ
generated_text n = declarations ++ calls_text n 10000
