-- The first calls and their records, computed from the definitions.
use Rattle.std.proofs.Common.{◌≡◌, ◌∷◌, [], codes, refl}
use Rattle.std.specs.Fmt.{digits}
use Rattle.dk_generate.specs.Calls.{drawn_call}
use Rattle.dk_generate.specs.Draws.{drawn_number, next_state}
use Rattle.dk_generate.specs.Generated.{calls_text, first_turn, turn_after}
use Rattle.dk_generate.specs.Records.{call_text, head_text, items_text, nonce_text, number_text, pop_text, push_text, stack_text, top_text}
use Rattle.dk_generate.specs.declared.calls.Call.TheVariants.{Push, Pop}

first_draw : drawn_number (next_state 1) ≡ 908834774
first_draw = refl

first_call : drawn_call (first_turn 1) ≡ Push 53
first_call = refl

-- after three calls three items lie on the stack
three_calls : (turn_after 1 3).stack ≡ record { height = 3; items = 53 ∷ 70 ∷ 95 ∷ 0 ∷ 0 ∷ 0 ∷ 0 ∷ 0 ∷ [] }
three_calls = refl

first_records : calls_text 1 1 ≡ codes "\nStack.push(int):::ENTER\nthis_invocation_nonce\n1\nthis.top\n-1\n1\nthis.items[..]\n[0 0 0 0 0 0 0 0]\n1\nx\n53\n1\n\nStack.push(int):::EXIT1\nthis_invocation_nonce\n1\nthis.top\n0\n1\nthis.items[..]\n[53 0 0 0 0 0 0 0]\n1\nx\n53\n1\n"
unfolding digits calls_text head_text items_text nonce_text number_text push_text stack_text top_text
first_records = refl

-- a pop returns the last item, and leaves it among the items
pop_records : call_text 2 (record { height = 1; items = 53 ∷ 0 ∷ 0 ∷ 0 ∷ 0 ∷ 0 ∷ 0 ∷ 0 ∷ [] }) Pop ≡ codes "\nStack.pop():::ENTER\nthis_invocation_nonce\n2\nthis.top\n0\n1\nthis.items[..]\n[53 0 0 0 0 0 0 0]\n1\n\nStack.pop():::EXIT2\nthis_invocation_nonce\n2\nthis.top\n-1\n1\nthis.items[..]\n[53 0 0 0 0 0 0 0]\n1\nreturn\n53\n1\n"
unfolding digits head_text items_text nonce_text number_text pop_text stack_text top_text
pop_records = refl
