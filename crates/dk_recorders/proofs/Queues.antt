-- The waiting entries of one method with one nonce, and what records do to them.
use Rattle.std.proofs.Common.{◌≡◌, ◌∙◌, ◌&&◌, ◌==◌, ℕ, ℤ, Bool, true, false, List, [], ◌∷◌, drop, filter, find, nat_eq, Option, Some, None, option_map, refl, sym, ap, slice_get, if◌then◌else◌}
use Rattle.std.proofs.lemmas.Bool.{eqb-true}
use Rattle.std.proofs.lemmas.Bool.Decides.{Decides-int_eq}
use Rattle.std.specs.Ordering.{int_eq}
use Rattle.dk_calls.specs.Nonces.{same_key}
use Rattle.dk_calls.specs.Waiting.{Call, Entry, enters, entry_of_call, exits, is_of, other, same_nonce, waiting_of}
use Rattle.dk_calls.proofs.Waits.{left_nonce}
use Rattle.dk_recorders.specs.Blocks.{HasNonce, ShareNoNonce, method_and_nonce}

-- the entries of this method with this nonce that wait, the latest first
abbrev pub queue : ℕ → ℤ → List Call → List Entry
queue point n calls = filter (is_of point (Some n)) (waiting_of calls)

-- the same entries of each method and nonce wait
abbrev pub SameQueues : List Call → List Call → Type 0
SameQueues calls others = (point : ℕ) (n : ℤ) → queue point n calls ≡ queue point n others

-- ---- what a record does
-- it is of this method with this nonce
abbrev touches : Call → ℕ → ℤ → Bool
touches (enters w) point n = is_of point (Some n) w
touches (exits e None) point n = false
touches (exits e (Some m)) point n = same_key (e, m) (point, n)
touches other point n = false

-- what it leaves then
abbrev changed : Call → List Entry → List Entry
changed (enters w) ws = w ∷ ws
changed (exits e m) ws = drop 1 ws
changed other ws = ws

behind : (call : Call) (calls : List Call) → HasNonce call → (point : ℕ) (n : ℤ)
    → queue point n (call ∷ calls) ≡ (if touches call point n then changed call (queue point n calls) else queue point n calls)
behind (enters w) calls has point n = refl
behind (exits e None) calls has point n = absurd (cc has)
behind (exits e (Some m)) calls has point n = left_nonce e point m n (waiting_of calls)
behind other calls has point n = refl

both : (a b : Bool) → (a && b) ≡ true → (a ≡ true) × (b ≡ true)
both true true e = (refl, refl)
both true false e = absurd (cc e)
both false b e = absurd (cc e)

same_number : (k : Option ℤ) (n : ℤ) → same_nonce k (Some n) ≡ true → k ≡ Some n
same_number None n e = absurd (cc e)
same_number (Some m) n e = ap (λ (i : ℤ). Some i) ((Decides-int_eq m n).0 e)

key_of : (call : Call) (point : ℕ) (n : ℤ) → touches call point n ≡ true → method_and_nonce call ≡ Some (point, n)
key_of (enters w) point n e =
    let parts = both (w.point == point) (same_nonce w.nonce (Some n)) e in
    ap (λ (k : Option ℤ). option_map (λ m. (w.point, m)) k) (same_number w.nonce n parts.1) ∙ ap (λ (p : ℕ). Some (p, n)) (eqb-true w.point point parts.0)
key_of (exits p None) point n e = absurd (cc e)
key_of (exits p (Some m)) point n e =
    let parts = both (nat_eq p point) (int_eq m n) e in
    ap (λ (q : ℕ). Some (q, m)) (eqb-true p point parts.0) ∙ ap (λ (i : ℤ). Some (point, i)) ((Decides-int_eq m n).0 parts.1)
key_of other point n e = absurd (cc e)

-- ---- one record behind those that leave the same
pub behind_alike : (call : Call) (calls others : List Call) → HasNonce call → SameQueues calls others → SameQueues (call ∷ calls) (call ∷ others)
behind_alike call calls others has same point n =
    behind call calls has point n
    ∙ ap (λ (ws : List Entry). if touches call point n then changed call ws else ws) (same point n)
    ∙ sym (behind call others has point n)

-- ---- two records of which each lets alone what the other takes
pub exchanged : (a b : Call) (calls : List Call) → HasNonce a → HasNonce b → ShareNoNonce a b → SameQueues (b ∷ a ∷ calls) (a ∷ b ∷ calls)
exchanged a b calls has_a has_b apart point n =
    behind b (a ∷ calls) has_b point n
    ∙ ap (λ (ws : List Entry). if touches b point n then changed b ws else ws) (behind a calls has_a point n)
    ∙ by (touches a point n) (touches b point n) (λ e f. apart (point, n) (key_of a point n e) (key_of b point n f))
    ∙ sym (ap (λ (ws : List Entry). if touches a point n then changed a ws else ws) (behind b calls has_b point n))
    ∙ sym (behind a (b ∷ calls) has_a point n)
  where
    by : (s t : Bool) → (s ≡ true → t ≡ true → ⊥)
        → (if t then changed b (if s then changed a (queue point n calls) else queue point n calls) else (if s then changed a (queue point n calls) else queue point n calls))
        ≡ (if s then changed a (if t then changed b (queue point n calls) else queue point n calls) else (if t then changed b (queue point n calls) else queue point n calls))
    by true true not_both = absurd (not_both refl refl)
    by true false not_both = refl
    by false true not_both = refl
    by false false not_both = refl

-- ---- what an exit takes
first_found : (p : Entry → Bool) (ws : List Entry) → find p ws ≡ slice_get (filter p ws) 0
first_found p [] = refl
first_found p (w ∷ ws) = by (p w) (first_found p ws)
  where
    by : (b : Bool) → find p ws ≡ slice_get (filter p ws) 0
        → (if b then Some w else find p ws) ≡ slice_get (if b then w ∷ filter p ws else filter p ws) 0
    by true h = refl
    by false h = h

pub taken_alike : (call : Call) (calls others : List Call) → HasNonce call → SameQueues calls others → entry_of_call call calls ≡ entry_of_call call others
taken_alike (enters w) calls others has same = refl
taken_alike (exits e None) calls others has same = absurd (cc has)
taken_alike (exits e (Some n)) calls others has same =
    first_found (is_of e (Some n)) (waiting_of calls)
    ∙ ap (λ (ws : List Entry). slice_get ws 0) (same e n)
    ∙ sym (first_found (is_of e (Some n)) (waiting_of others))
taken_alike other calls others has same = refl

untouched : (call : Call) (calls : List Call) → HasNonce call → (point : ℕ) (n : ℤ) → touches call point n ≡ false
    → queue point n (call ∷ calls) ≡ queue point n calls
untouched call calls has point n e =
    behind call calls has point n ∙ ap (λ (b : Bool). if b then changed call (queue point n calls) else queue point n calls) e

not_touched : (a b : Call) → ShareNoNonce a b → (point : ℕ) (n : ℤ) → method_and_nonce a ≡ Some (point, n) → touches b point n ≡ false
not_touched a b apart point n own = by (touches b point n) refl
  where
    by : (t : Bool) → touches b point n ≡ t → t ≡ false
    by true e = absurd (apart (point, n) own (key_of b point n e))
    by false e = refl

-- what an exit takes isn't changed by a record of another method or nonce
pub taken_anyway : (a b : Call) (calls : List Call) → HasNonce a → HasNonce b → ShareNoNonce a b → entry_of_call a (b ∷ calls) ≡ entry_of_call a calls
taken_anyway (enters w) b calls has_a has_b apart = refl
taken_anyway (exits e None) b calls has_a has_b apart = absurd (cc has_a)
taken_anyway (exits e (Some n)) b calls has_a has_b apart =
    first_found (is_of e (Some n)) (waiting_of (b ∷ calls))
    ∙ ap (λ (ws : List Entry). slice_get ws 0) (untouched b calls has_b e n (not_touched (exits e (Some n)) b apart e n refl))
    ∙ sym (first_found (is_of e (Some n)) (waiting_of calls))
taken_anyway other b calls has_a has_b apart = refl
