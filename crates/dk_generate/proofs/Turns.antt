-- One call more.
use Rattle.std.proofs.Common.{◌≡◌, ◌≤◌, ◌<◌, ◌+◌, ◌==◌, ◌%◌, ◌++◌, ◌∷◌, ◌∙◌, [], ℕ, zero, suc, Bool, true, false, List, nat_lt, flat_map, refl, sym, ap, arith, append_assoc, append-nil, zero-add, cond}
use Rattle.std.specs.List.{range_with_len}
use Rattle.std.proofs.lemmas.Bool.{eqb-true, false≢true, ltb-true}
use Rattle.std.proofs.lemmas.Grind.{flat_map-append}
use Rattle.dk_generate.specs.Draws.{drawn_number, next_state}
use Rattle.dk_generate.specs.Calls.{after_call, drawn_call, is_push, next_turn}
use Rattle.dk_generate.specs.Generated.{calls_text, turn_after}
use Rattle.dk_generate.specs.Records.{call_text}
use Rattle.dk_generate.specs.Texts.{declarations}
use Rattle.dk_generate.specs.declared.calls.Call.{Call}
use Rattle.dk_generate.specs.declared.calls.Call.TheVariants.{Push, Pop}
use Rattle.dk_generate.specs.declared.calls.Turn.{Turn}

range_more : (a n : ℕ) → range_with_len a (suc n) ≡ range_with_len a n ++ (a + n) ∷ []
range_more a zero = ap (λ k. k ∷ []) (omega arith)
range_more a (suc n) = ap (λ ks. a ∷ ks) (range_more (a + 1) n ∙ ap (λ k. range_with_len (a + 1) n ++ k ∷ []) (omega arith))

-- the records of one call more
calls_more : (n k : ℕ) → calls_text n (k + 1) ≡ calls_text n k ++ call_text (k + 1) (turn_after n k).stack (drawn_call (turn_after n k))
unfolding calls_text
calls_more n k =
    let text : ℕ → List ℕ = λ j. call_text (j + 1) (turn_after n j).stack (drawn_call (turn_after n j)) in
    let later : k + 1 ≡ suc k = omega arith in
    let longer : range_with_len 0 (k + 1) ≡ range_with_len 0 k ++ k ∷ [] =
    ap (range_with_len 0) later ∙ range_more 0 k ∙ ap (λ j. range_with_len 0 k ++ j ∷ []) (zero-add k) in
    ap (flat_map text) longer ∙ flat_map-append text (range_with_len 0 k) (k ∷ []) ∙ ap (λ t. flat_map text (range_with_len 0 k) ++ t) (append-nil (text k))

no_calls : (n : ℕ) → calls_text n 0 ≡ []
unfolding calls_text
no_calls n = refl

pub text_at_first : (n : ℕ) (text : List ℕ) → text ≡ declarations → text ≡ declarations ++ calls_text n 0
text_at_first n text is = is ∙ sym (append-nil declarations) ∙ ap (λ t. declarations ++ t) (sym (no_calls n))

pub text_more : (n k : ℕ) (turn : Turn) (call : Call) (text next : List ℕ) → turn ≡ turn_after n k → call ≡ drawn_call turn
    → text ≡ declarations ++ calls_text n k → next ≡ text ++ call_text (k + 1) turn.stack call → next ≡ declarations ++ calls_text n (k + 1)
text_more n k turn call text next is is_call so_far step =
    step
    ∙ ap (λ t. t ++ call_text (k + 1) turn.stack call) so_far
    ∙ ap (λ c. (declarations ++ calls_text n k) ++ call_text (k + 1) turn.stack c) is_call
    ∙ ap (λ (t : Turn). (declarations ++ calls_text n k) ++ call_text (k + 1) t.stack (drawn_call t)) is
    ∙ append_assoc declarations (calls_text n k) (call_text (k + 1) (turn_after n k).stack (drawn_call (turn_after n k)))
    ∙ ap (λ t. declarations ++ t) (sym (calls_more n k))

pub turn_more : (n k : ℕ) (turn next : Turn) → turn ≡ turn_after n k → next ≡ next_turn turn → next ≡ turn_after n (k + 1)
turn_more n k turn next is step =
    let later : suc k ≡ k + 1 = omega arith in
    step ∙ ap next_turn is ∙ ap (turn_after n) later

-- a push has room
room : (height number : ℕ) → is_push height number ≡ true → height < 8
room height number e = go (height == 0) refl (nat_lt height 8) refl
  where
    go : (empty : Bool) → (height == 0) ≡ empty → (fits : Bool) → nat_lt height 8 ≡ fits → height < 8
    go true is fits f = let none = eqb-true height 0 is in omega arith
    go false is true f = ltb-true height 8 f
    go false is false f = absurd (false≢true (rw (is, f) at e))

kept : (turn : Turn) → turn.stack.height ≤ 8 → (after_call turn.stack (drawn_call turn)).height ≤ 8
kept turn h = go (is_push turn.stack.height (drawn_number (next_state turn.draws))) refl
  where
    go : (pushes : Bool) → is_push turn.stack.height (drawn_number (next_state turn.draws)) ≡ pushes
        → (after_call turn.stack (cond pushes (Push (drawn_number (next_state (next_state turn.draws)) % 100)) Pop)).height ≤ 8
    go true e = let more = room turn.stack.height (drawn_number (next_state turn.draws)) e in omega arith
    go false e = omega arith

-- the stack has room for its items
pub height_fits : (n k : ℕ) → (turn_after n k).stack.height ≤ 8
height_fits n zero = omega arith
height_fits n (suc k) = kept (turn_after n k) (height_fits n k)
