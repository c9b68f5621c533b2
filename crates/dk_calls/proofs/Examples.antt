-- Records in turn, and what waits.
use Rattle.std.proofs.Common.{◌≡◌, ℕ, ℤ, pos, [], ◌∷◌, Option, Some, None, refl}
use Rattle.dk_calls.specs.Waiting.{Entry, enters, entry_of_call, exits, waiting_of}

-- the entry of this point with this nonce; its values do not matter here
abbrev at : ℕ → Option ℤ → Entry
at point n = record { point = point; nonce = n; values = [] }

-- the latest entry is taken first, and then the earlier one
latest_first : entry_of_call (exits 0 None) (enters (at 0 None) ∷ enters (at 0 (Some (pos 1))) ∷ []) ≡ Some (at 0 None)
latest_first = refl

then_earlier : waiting_of (exits 0 None ∷ enters (at 0 None) ∷ enters (at 0 None) ∷ []) ≡ at 0 None ∷ []
then_earlier = refl

-- an exit takes a later entry of another method away
taken_away : entry_of_call (exits 1 None) (exits 0 None ∷ enters (at 1 None) ∷ enters (at 0 None) ∷ []) ≡ None
taken_away = refl

-- but none with a nonce
with_nonce_stays : waiting_of (exits 0 None ∷ enters (at 1 (Some (pos 7))) ∷ enters (at 1 None) ∷ enters (at 0 None) ∷ []) ≡ at 1 (Some (pos 7)) ∷ []
with_nonce_stays = refl

-- a nonce is one of a method
other_method : entry_of_call (exits 1 (Some (pos 7))) (enters (at 0 (Some (pos 7))) ∷ []) ≡ None
other_method = refl

-- an exit with a nonce takes one entry and no other
one_by_nonce : waiting_of (exits 0 (Some (pos 1)) ∷ enters (at 0 None) ∷ enters (at 0 (Some (pos 1))) ∷ enters (at 0 (Some (pos 1))) ∷ []) ≡ at 0 None ∷ at 0 (Some (pos 1)) ∷ []
one_by_nonce = refl

-- an exit without an entry takes nothing
nothing_taken : waiting_of (exits 1 None ∷ enters (at 0 None) ∷ []) ≡ at 0 None ∷ []
nothing_taken = refl
