-- What calls keep stands for the records of a file.
use Rattle.std.specs.Prelude.{◌≡◌, ℕ, ℤ, List, filter, map, Some}
use Rattle.dk_calls.specs.Nonces.{values_under}
use Rattle.dk_calls.specs.Stacks.{Plain}
use Rattle.dk_calls.specs.Waiting.{Call, Entry, is_of, is_plain, waiting_of}
use Rattle.dk_calls.specs.declared.calls.Calls.{Calls}

abbrev pub plain_entry : Entry → Plain
plain_entry w = record { point = w.point; values = w.values }

-- the stack has the waiting entries without a nonce, and the table has those of each point and nonce, all with the latest first
pub record Holds (calls : Calls) (waiting : List Entry) : Type 0 where
  pub plain : calls.plain ≡ map plain_entry (filter is_plain waiting)
  pub nonces : (point : ℕ) (n : ℤ) → values_under point n calls.nonces ≡ map (λ w. w.values) (filter (is_of point (Some n)) waiting)

-- The calls keep exactly the entries that wait after these records of a file, which stand with the latest first.
abbrev pub CallsStandForRecords : Calls → List Call → Type 0
CallsStandForRecords calls earlier = Holds calls (waiting_of earlier)

-- What waits is the same, whatever records that stands for.
pub record WaitAlike (old new : Calls) : Type 0 where
  pub plain : new.plain ≡ old.plain
  pub nonces : (point : ℕ) (n : ℤ) → values_under point n new.nonces ≡ values_under point n old.nonces
