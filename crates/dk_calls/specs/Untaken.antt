-- Which entries wait, by their places among the records of a file. Records stand with the latest first, and the latest has place 0.
use Rattle.std.specs.Prelude.{◌≡◌, ◌<◌, ◌≤◌, ℕ, zero, suc, Bool, true, false, All, Contains, List, [], ◌∷◌, slice_get, None, Some}
use Rattle.std.specs.List.{AllPairs, AllZip}
use Rattle.dk_calls.specs.Waiting.{Call, Entry, enters, exits, other, is_of, is_plain, waiting_of}

-- the record at a place is this entry
abbrev pub IsEntryAt : List Call → ℕ → Entry → Type 0
IsEntryAt calls i w = slice_get calls i ≡ Some (enters w)

-- of the entries that wait, the one at this place is the latest that passes
pub record IsLatest (calls : List Call) (waits : ℕ → Type 0) (p : Entry → Bool) (i : ℕ) : Type 0 where
  pub entry : Entry
  pub there : IsEntryAt calls i entry
  pub waiting : waits i
  pub passes : p entry ≡ true
  pub none_later : (j : ℕ) (w : Entry) → j < i → IsEntryAt calls j w → waits j → p w ≡ false

-- An exit takes an entry of those that wait before it. With a nonce that is the latest of its method and nonce. Without a nonce it is the
-- latest of its method that has none, and each later one that has none.
abbrev pub Takes : Call → List Call → (ℕ → Type 0) → ℕ → Type 0
Takes (enters w) calls waits i = ⊥
Takes (exits point (Some n)) calls waits i = IsLatest calls waits (is_of point (Some n)) i
Takes (exits point None) calls waits i =
    (own : ℕ)
    × (IsLatest calls waits (is_of point None) own × (i ≤ own) × waits i × ((w : Entry) × IsEntryAt calls i w × (is_plain w ≡ true)))
Takes other calls waits i = ⊥

-- A record waits behind these records of its file, the one at this place of them: it is an entry, and no exit behind it took it.
abbrev pub Waits : List Call → ℕ → Type 0
Waits [] i = ⊥
Waits (call ∷ calls) zero = (w : Entry) × (call ≡ enters w)
Waits (call ∷ calls) (suc i) = Waits calls i × (Takes call calls (λ j. Waits calls j) i → ⊥)

-- the entries that are kept are those at the places that wait, in their order
pub record AreUntaken (calls : List Call) : Type 0 where
  pub places : List ℕ
  pub ascend : AllPairs (λ i j. i < j) places
  pub entries : AllZip (IsEntryAt calls) places (waiting_of calls)
  pub waiting : All (λ i. Waits calls i) places
  pub no_other : (i : ℕ) → Waits calls i → Contains places i

abbrev pub UntakenEntriesWait : Type 0
UntakenEntriesWait = (calls : List Call) → AreUntaken calls
