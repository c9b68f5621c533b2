-- The entries that wait are those that no exit took.
use Rattle.std.proofs.Common.{◌≡◌, ◌∙◌, ◌<◌, ◌≤◌, ◌&&◌, ◌||◌, ◌==◌, ◌⊎◌, inl, inr, ℕ, ℤ, zero, suc, Bool, true, false, not, All, Contains, List, [], ◌∷◌, is_none, map, Option, Some, None, refl, sym, ap, subst, if◌then◌else◌, arith}
use Rattle.std.specs.Prelude.{⊤}
use Rattle.std.proofs.lemmas.Bool.{cases_lt}
use Rattle.std.proofs.lemmas.List.Elements.{All-cons, All-nil}
use Rattle.std.proofs.lemmas.List.Kept.{AllPairs-cons}
use Rattle.std.specs.List.{AllPairs, AllZip, list_any}
use Rattle.dk_calls.specs.Untaken.{IsEntryAt, IsLatest, Takes, UntakenEntriesWait, Waits}
use Rattle.dk_calls.specs.Waiting.{Call, Entry, enters, exits, other, is_of, is_plain, left_by, same_nonce, waiting_of, without_first, without_plain}

-- ---- entries with their places, ascending

abbrev Tags : Type 0
Tags = List (ℕ × Entry)

-- the places ascend, from n on
abbrev Above : ℕ → Tags → Type 0
Above n [] = ⊤
Above n (t ∷ ts) = (n ≤ t.0) × Above (suc t.0) ts

-- the entry has this place
abbrev At : Tags → ℕ → Entry → Type 0
At [] i w = ⊥
At (t ∷ ts) i w = ((i ≡ t.0) × (w ≡ t.1)) ⊎ At ts i w

abbrev entries_of : Tags → List Entry
entries_of ts = map (λ (t : ℕ × Entry). t.1) ts

low : (ts : Tags) (n : ℕ) → Above n ts → (i : ℕ) (w : Entry) → At ts i w → n ≤ i
low [] n a i w at = absurd at
low (t ∷ ts) n (h, a) i w (inl (e, f)) = omega (arith, h, e)
low (t ∷ ts) n (h, a) i w (inr at) = let more = low ts (suc t.0) a i w at in omega (arith, h, more)

above_less : (ts : Tags) (n m : ℕ) → n ≤ m → Above m ts → Above n ts
above_less [] n m h a = tt
above_less (t ∷ ts) n m h (g, a) = (omega (arith, h, g), a)

-- of the entries the one at this place is the first that passes
record First (p : Entry → Bool) (ts : Tags) (i : ℕ) : Type 0 where
  entry : Entry
  there : At ts i entry
  passes : p entry ≡ true
  none : (j : ℕ) (w : Entry) → j < i → At ts j w → p w ≡ false

true_false : (b : Bool) → b ≡ true → b ≡ false → ⊥
true_false b e f = cc (e, f)

first_tail : (p : Entry → Bool) (t : ℕ × Entry) (ts : Tags) (o : ℕ) → p t.1 ≡ false → First p (t ∷ ts) o → First p ts o
first_tail p t ts o differs l = go l.there
  where
    go : At (t ∷ ts) o l.entry → First p ts o
    go (inl (e, f)) = absurd (true_false (p l.entry) l.passes (ap p f ∙ differs))
    go (inr at) = record { entry = l.entry; there = at; passes = l.passes; none = λ j w h a. l.none j w h (inr a) }

first_more : (p : Entry → Bool) (t : ℕ × Entry) (ts : Tags) (o : ℕ) → p t.1 ≡ false → First p ts o → First p (t ∷ ts) o
first_more p t ts o differs l = record { entry = l.entry; there = inr l.there; passes = l.passes; none = none }
  where
    none : (j : ℕ) (w : Entry) → j < o → At (t ∷ ts) j w → p w ≡ false
    none j w h (inl (e, f)) = ap p f ∙ differs
    none j w h (inr a) = l.none j w h a

first_head : (p : Entry → Bool) (t : ℕ × Entry) (ts : Tags) → Above (suc t.0) ts → p t.1 ≡ true → First p (t ∷ ts) t.0
first_head p t ts a is = record { entry = t.1; there = inl (refl, refl); passes = is; none = none }
  where
    none : (j : ℕ) (w : Entry) → j < t.0 → At (t ∷ ts) j w → p w ≡ false
    none j w h (inl (e, f)) = absurd (omega (arith, h, e))
    none j w h (inr at) = let more = low ts (suc t.0) a j w at in absurd (omega (arith, h, more))

first_is_head : (p : Entry → Bool) (t : ℕ × Entry) (ts : Tags) (o : ℕ) → p t.1 ≡ true → First p (t ∷ ts) o → o ≤ t.0
first_is_head p t ts o is l = elim (cases_lt t.0 o) [
  | inl h ↦ absurd (true_false (p t.1) is (l.none t.0 t.1 h (inl (refl, refl))))
  | inr h ↦ h
]

abbrev some_pass : (Entry → Bool) → Tags → Bool
some_pass p ts = list_any (λ (t : ℕ × Entry). p t.1) ts

found : (p : Entry → Bool) (ts : Tags) (n : ℕ) → Above n ts → some_pass p ts ≡ true → (o : ℕ) × First p ts o
found p [] n a any = absurd (cc any)
found p (t ∷ ts) n (h, a) any = by (p t.1) refl any (found p ts (suc t.0) a)
  where
    by : (b : Bool) → p t.1 ≡ b → (b || some_pass p ts) ≡ true → (some_pass p ts ≡ true → (o : ℕ) × First p ts o) → (o : ℕ) × First p (t ∷ ts) o
    by true is any more = (t.0, first_head p t ts a is)
    by false is any more = let (o, l) = more any in (o, first_more p t ts o is l)

none_found : (p : Entry → Bool) (ts : Tags) (i : ℕ) (w : Entry) → some_pass p ts ≡ false → At ts i w → p w ≡ false
none_found p [] i w none at = absurd at
none_found p (t ∷ ts) i w none at = by (p t.1) refl none at (none_found p ts i w)
  where
    by : (b : Bool) → p t.1 ≡ b → (b || some_pass p ts) ≡ false → At (t ∷ ts) i w → (some_pass p ts ≡ false → At ts i w → p w ≡ false) → p w ≡ false
    by true is none at more = absurd (cc none)
    by false is none (inl (e, f)) more = ap p f ∙ is
    by false is none (inr at) more = more none at

-- ---- what an exit leaves

-- without the first own entry, and without those in front of it that go with it
abbrev behind : (own also : Entry → Bool) → Tags → Tags
behind own also [] = []
behind own also (t ∷ ts) = if own t.1 then ts else if also t.1 then behind own also ts else t ∷ behind own also ts

above_behind : (own also : Entry → Bool) (ts : Tags) (n : ℕ) → Above n ts → Above n (behind own also ts)
above_behind own also [] n a = tt
above_behind own also (t ∷ ts) n (h, a) = by (own t.1) (also t.1) (above_behind own also ts (suc t.0) a)
  where
    by : (b c : Bool) → Above (suc t.0) (behind own also ts) → Above n (if b then ts else if c then behind own also ts else t ∷ behind own also ts)
    by true c more = above_less ts n (suc t.0) (omega (arith, h)) a
    by false true more = above_less (behind own also ts) n (suc t.0) (omega (arith, h)) more
    by false false more = (h, more)

-- the entry at this place is own or goes with the first own one, and does not stand behind that one
record Goes (own also : Entry → Bool) (ts : Tags) (i : ℕ) : Type 0 where
  place : ℕ
  first : First own ts place
  within : i ≤ place
  entry : Entry
  there : At ts i entry
  goes : (own entry || also entry) ≡ true

goes_more : (own also : Entry → Bool) (t : ℕ × Entry) (ts : Tags) (i : ℕ) → own t.1 ≡ false → Goes own also ts i → Goes own also (t ∷ ts) i
goes_more own also t ts i differs g =
    record { place = g.place; first = first_more own t ts g.place differs g.first; within = g.within; entry = g.entry; there = inr g.there; goes = g.goes }

goes_tail : (own also : Entry → Bool) (t : ℕ × Entry) (ts : Tags) (i : ℕ) → own t.1 ≡ false → suc t.0 ≤ i → Goes own also (t ∷ ts) i → Goes own also ts i
goes_tail own also t ts i differs h g = go g.there
  where
    go : At (t ∷ ts) i g.entry → Goes own also ts i
    go (inl (e, f)) = absurd (omega (arith, h, e))
    go (inr at) = record { place = g.place; first = first_tail own t ts g.place differs g.first; within = g.within; entry = g.entry; there = at; goes = g.goes }

-- what is left of the entries are those that don't go
record Leaves (own also : Entry → Bool) (ts us : Tags) : Type 0 where
  out : (i : ℕ) (w : Entry) → At us i w → At ts i w × (Goes own also ts i → ⊥)
  stay : (i : ℕ) (w : Entry) → At ts i w → (Goes own also ts i → ⊥) → At us i w

leaves_at_own : (own also : Entry → Bool) (t : ℕ × Entry) (ts : Tags) → Above (suc t.0) ts → own t.1 ≡ true → Leaves own also (t ∷ ts) ts
leaves_at_own own also t ts a is = record { out = out; stay = stay }
  where
    out : (i : ℕ) (w : Entry) → At ts i w → At (t ∷ ts) i w × (Goes own also (t ∷ ts) i → ⊥)
    out i w at = (
      inr at,
      λ g.
          let head = first_is_head own t ts g.place is g.first in
          let more = low ts (suc t.0) a i w at in
          let within = g.within in omega (arith, head, more, within),
    )

    stay : (i : ℕ) (w : Entry) → At (t ∷ ts) i w → (Goes own also (t ∷ ts) i → ⊥) → At ts i w
    stay i w (inl (e, f)) stays = absurd (stays (record {
      place = t.0;
      first = first_head own t ts a is;
      within = omega (arith, e);
      entry = t.1;
      there = inl (e, refl);
      goes = ap (λ b. b || also t.1) is;
    }))
    stay i w (inr at) stays = at

leaves_without : (own also : Entry → Bool) (t : ℕ × Entry) (ts us : Tags) → Above (suc t.0) ts → own t.1 ≡ false → also t.1 ≡ true → (o : ℕ) → First own ts o
    → Leaves own also ts us → Leaves own also (t ∷ ts) us
leaves_without own also t ts us a is goes o first l = record { out = out; stay = stay }
  where
    out : (i : ℕ) (w : Entry) → At us i w → At (t ∷ ts) i w × (Goes own also (t ∷ ts) i → ⊥)
    out i w at = let (there, stays) = l.out i w at in (inr there, λ g. stays (goes_tail own also t ts i is (low ts (suc t.0) a i w there) g))

    stay : (i : ℕ) (w : Entry) → At (t ∷ ts) i w → (Goes own also (t ∷ ts) i → ⊥) → At us i w
    stay i w (inl (e, f)) stays =
        let more = low ts (suc t.0) a o first.entry first.there in
        absurd (stays (record {
          place = o;
          first = first_more own t ts o is first;
          within = omega (arith, e, more);
          entry = t.1;
          there = inl (e, refl);
          goes = ap (λ b. b || also t.1) is ∙ goes;
        }))
    stay i w (inr at) stays = l.stay i w at (λ g. stays (goes_more own also t ts i is g))

leaves_with : (own also : Entry → Bool) (t : ℕ × Entry) (ts us : Tags) → Above (suc t.0) ts → own t.1 ≡ false → also t.1 ≡ false
    → Leaves own also ts us → Leaves own also (t ∷ ts) (t ∷ us)
leaves_with own also t ts us a is stays l = record { out = out; stay = stay }
  where
    head : (i : ℕ) → i ≡ t.0 → (g : Goes own also (t ∷ ts) i) → At (t ∷ ts) i g.entry → ⊥
    head i e g (inl (e2, f)) =
        true_false (own g.entry || also g.entry) g.goes (ap (λ (w : Entry). own w || also w) f ∙ ap (λ b. b || also t.1) is ∙ stays)
    head i e g (inr at) = let more = low ts (suc t.0) a i g.entry at in omega (arith, e, more)

    out : (i : ℕ) (w : Entry) → At (t ∷ us) i w → At (t ∷ ts) i w × (Goes own also (t ∷ ts) i → ⊥)
    out i w (inl (e, f)) = (inl (e, f), λ g. head i e g g.there)
    out i w (inr at) = let (there, stays) = l.out i w at in (inr there, λ g. stays (goes_tail own also t ts i is (low ts (suc t.0) a i w there) g))

    stay : (i : ℕ) (w : Entry) → At (t ∷ ts) i w → (Goes own also (t ∷ ts) i → ⊥) → At (t ∷ us) i w
    stay i w (inl (e, f)) stays = inl (e, f)
    stay i w (inr at) stays = inr (l.stay i w at (λ g. stays (goes_more own also t ts i is g)))

leaves_behind : (own also : Entry → Bool) (ts : Tags) (n : ℕ) → Above n ts → some_pass own ts ≡ true → Leaves own also ts (behind own also ts)
leaves_behind own also [] n a any = absurd (cc any)
leaves_behind own also (t ∷ ts) n (h, a) any = by (own t.1) (also t.1) refl refl any (leaves_behind own also ts (suc t.0) a)
  where
    by : (b c : Bool) → own t.1 ≡ b → also t.1 ≡ c → (b || some_pass own ts) ≡ true → (some_pass own ts ≡ true → Leaves own also ts (behind own also ts))
        → Leaves own also (t ∷ ts) (if b then ts else if c then behind own also ts else t ∷ behind own also ts)
    by true c is goes any more = leaves_at_own own also t ts a is
    by false true is goes any more =
        let (o, first) = found own ts (suc t.0) a any in
        leaves_without own also t ts (behind own also ts) a is goes o first (more any)
    by false false is goes any more = leaves_with own also t ts (behind own also ts) a is goes (more any)

-- where there is no own entry, all stay
leaves_all : (own also : Entry → Bool) (ts : Tags) → some_pass own ts ≡ false → Leaves own also ts ts
leaves_all own also ts none = record {
  out = λ i w at. (at, λ g. true_false (own g.first.entry) g.first.passes (none_found own ts g.place g.first.entry none g.first.there));
  stay = λ i w at stays. at;
}

abbrev left_in : (own also : Entry → Bool) → Tags → Tags
left_in own also ts = if some_pass own ts then behind own also ts else ts

leaves : (own also : Entry → Bool) (ts : Tags) (n : ℕ) → Above n ts → Leaves own also ts (left_in own also ts)
leaves own also ts n a = by (some_pass own ts) refl
  where
    by : (b : Bool) → some_pass own ts ≡ b → Leaves own also ts (if b then behind own also ts else ts)
    by true is = leaves_behind own also ts n a is
    by false is = leaves_all own also ts is

above_left : (own also : Entry → Bool) (ts : Tags) (n : ℕ) → Above n ts → Above n (left_in own also ts)
above_left own also ts n a = by (some_pass own ts)
  where
    by : (b : Bool) → Above n (if b then behind own also ts else ts)
    by true = above_behind own also ts n a
    by false = a

-- ---- the same, without places

some_of : (p : Entry → Bool) (ts : Tags) → some_pass p ts ≡ list_any p (entries_of ts)
some_of p [] = refl
some_of p (t ∷ ts) = ap (λ b. p t.1 || b) (some_of p ts)

behind_plain : (point : ℕ) (ts : Tags) → entries_of (behind (is_of point None) is_plain ts) ≡ without_plain point (entries_of ts)
behind_plain point [] = refl
behind_plain point (t ∷ ts) = by (is_of point None t.1) (is_plain t.1) (behind_plain point ts)
  where
    by : (b c : Bool) → entries_of (behind (is_of point None) is_plain ts) ≡ without_plain point (entries_of ts)
        → entries_of (if b then ts else if c then behind (is_of point None) is_plain ts else t ∷ behind (is_of point None) is_plain ts)
        ≡ (if b then entries_of ts else if c then without_plain point (entries_of ts) else t.1 ∷ without_plain point (entries_of ts))
    by true c h = refl
    by false true h = h
    by false false h = ap (λ (l : List Entry). t.1 ∷ l) h

left_plain : (point : ℕ) (ts : Tags) → entries_of (left_in (is_of point None) is_plain ts) ≡ left_by point None (entries_of ts)
left_plain point ts = by (some_pass (is_of point None) ts) ∙ ap (λ b. if b then without_plain point (entries_of ts) else entries_of ts) (some_of (is_of point None) ts)
  where
    by : (b : Bool) → entries_of (if b then behind (is_of point None) is_plain ts else ts) ≡ (if b then without_plain point (entries_of ts) else entries_of ts)
    by true = behind_plain point ts
    by false = refl

-- nothing goes with an entry that has a nonce
abbrev alone : Entry → Bool
alone w = false

behind_first : (p : Entry → Bool) (ts : Tags) → entries_of (behind p alone ts) ≡ without_first p (entries_of ts)
behind_first p [] = refl
behind_first p (t ∷ ts) = by (p t.1) (behind_first p ts)
  where
    by : (b : Bool) → entries_of (behind p alone ts) ≡ without_first p (entries_of ts)
        → entries_of (if b then ts else t ∷ behind p alone ts) ≡ (if b then entries_of ts else t.1 ∷ without_first p (entries_of ts))
    by true h = refl
    by false h = ap (λ (l : List Entry). t.1 ∷ l) h

no_first : (p : Entry → Bool) (ts : Tags) → some_pass p ts ≡ false → entries_of ts ≡ without_first p (entries_of ts)
no_first p [] none = refl
no_first p (t ∷ ts) none = by (p t.1) none (no_first p ts)
  where
    by : (b : Bool) → (b || some_pass p ts) ≡ false → (some_pass p ts ≡ false → entries_of ts ≡ without_first p (entries_of ts))
        → t.1 ∷ entries_of ts ≡ (if b then entries_of ts else t.1 ∷ without_first p (entries_of ts))
    by true none h = absurd (cc none)
    by false none h = ap (λ (l : List Entry). t.1 ∷ l) (h none)

left_first : (p : Entry → Bool) (ts : Tags) → entries_of (left_in p alone ts) ≡ without_first p (entries_of ts)
left_first p ts = by (some_pass p ts) refl
  where
    by : (b : Bool) → some_pass p ts ≡ b → entries_of (if b then behind p alone ts else ts) ≡ without_first p (entries_of ts)
    by true is = behind_first p ts
    by false is = no_first p ts is

-- ---- one record more

abbrev later : Tags → Tags
later ts = map (λ (t : ℕ × Entry). (suc t.0, t.1)) ts

at_later : (ts : Tags) (i : ℕ) (w : Entry) → At ts i w → At (later ts) (suc i) w
at_later [] i w at = absurd at
at_later (t ∷ ts) i w (inl (e, f)) = inl (ap suc e, f)
at_later (t ∷ ts) i w (inr at) = inr (at_later ts i w at)

from_later : (ts : Tags) (i : ℕ) (w : Entry) → At (later ts) i w → (j : ℕ) × ((i ≡ suc j) × At ts j w)
from_later [] i w at = absurd at
from_later (t ∷ ts) i w (inl (e, f)) = (t.0, (e, inl (refl, f)))
from_later (t ∷ ts) i w (inr at) = let (j, (is, there)) = from_later ts i w at in (j, (is, inr there))

above_later : (ts : Tags) (n : ℕ) → Above n ts → Above (suc n) (later ts)
above_later [] n a = tt
above_later (t ∷ ts) n (h, a) = (omega (arith, h), above_later ts (suc t.0) a)

entries_later : (ts : Tags) → entries_of (later ts) ≡ entries_of ts
entries_later [] = refl
entries_later (t ∷ ts) = ap (λ (l : List Entry). t.1 ∷ l) (entries_later ts)

-- the waiting entries with their places
record Placed (calls : List Call) : Type 0 where
  tags : Tags
  above : Above 0 tags
  entries : entries_of tags ≡ waiting_of calls
  there : (i : ℕ) (w : Entry) → At tags i w → IsEntryAt calls i w
  waits : (i : ℕ) (w : Entry) → At tags i w → Waits calls i
  all : (i : ℕ) → Waits calls i → (w : Entry) × At tags i w

one_entry : (calls : List Call) (i : ℕ) (v w : Entry) → IsEntryAt calls i v → IsEntryAt calls i w → v ≡ w
one_entry calls i v w a b = let both : Some (enters v) ≡ Some (enters w) = sym a ∙ b in cc both

to_first : (calls : List Call) (g : Placed calls) (p : Entry → Bool) (o : ℕ) → IsLatest calls (λ j. Waits calls j) p o → First p g.tags o
to_first calls g p o l =
    let (w, at) = g.all o l.waiting in
    let same : w ≡ l.entry = one_entry calls o w l.entry (g.there o w at) l.there in
    record {
      entry = l.entry;
      there = subst (λ (v : Entry). At g.tags o v) same at;
      passes = l.passes;
      none = λ j v h a. l.none_later j v h (g.there j v a) (g.waits j v a);
    }

from_first : (calls : List Call) (g : Placed calls) (p : Entry → Bool) (o : ℕ) → First p g.tags o → IsLatest calls (λ j. Waits calls j) p o
from_first calls g p o l = record {
  entry = l.entry;
  there = g.there o l.entry l.there;
  waiting = g.waits o l.entry l.there;
  passes = l.passes;
  none_later = none;
}
  where
    none : (j : ℕ) (v : Entry) → j < o → IsEntryAt calls j v → Waits calls j → p v ≡ false
    none j v h e waiting =
        let (w, at) = g.all j waiting in
        subst (λ (u : Entry). p u ≡ false) (one_entry calls j w v (g.there j w at) e) (l.none j w h at)

or_true : (a b : Bool) → b ≡ true → (a || b) ≡ true
or_true true b e = refl
or_true false b e = e

true_or : (a b : Bool) → a ≡ true → (a || b) ≡ true
true_or a b e = ap (λ c. c || b) e

only_left : (a : Bool) → (a || false) ≡ true → a ≡ true
only_left true e = refl
only_left false e = absurd (cc e)

-- an exit with a nonce takes the first that passes
takes_first : (calls : List Call) (g : Placed calls) (p : Entry → Bool) (i : ℕ) → IsLatest calls (λ j. Waits calls j) p i → Goes p alone g.tags i
takes_first calls g p i l =
    let first = to_first calls g p i l in
    record { place = i; first = first; within = omega arith; entry = first.entry; there = first.there; goes = true_or (p first.entry) false first.passes }

goes_first : (calls : List Call) (g : Placed calls) (p : Entry → Bool) (i : ℕ) → Goes p alone g.tags i → IsLatest calls (λ j. Waits calls j) p i
goes_first calls g p i l = elim (cases_lt i l.place) [
  | inl h ↦ absurd (true_false (p l.entry) (only_left (p l.entry) l.goes) (l.first.none i l.entry h l.there))
  | inr h ↦ let within = l.within in
      let same : l.place ≡ i = omega (arith, h, within) in
      subst (λ (o : ℕ). IsLatest calls (λ j. Waits calls j) p o) same (from_first calls g p l.place l.first)
]

-- an exit without a nonce takes those without a nonce, up to its own
takes_plain : (calls : List Call) (g : Placed calls) (point i : ℕ) → Takes (exits point None) calls (λ j. Waits calls j) i → Goes (is_of point None) is_plain g.tags i
takes_plain calls g point i (own, (latest, within, waiting, (w, e, plain))) =
    let (v, at) = g.all i waiting in
    let same : v ≡ w = one_entry calls i v w (g.there i v at) e in
    record {
      place = own;
      first = to_first calls g (is_of point None) own latest;
      within = within;
      entry = w;
      there = subst (λ (u : Entry). At g.tags i u) same at;
      goes = or_true (is_of point None w) (is_plain w) plain;
    }

own_is_plain : (point p : ℕ) (n : Option ℤ) → ((p == point) && same_nonce n None) ≡ true → is_none n ≡ true
own_is_plain point p None e = refl
own_is_plain point p (Some m) e = by (p == point) e
  where
    by : (b : Bool) → (b && false) ≡ true → is_none (Some m) ≡ true
    by true e = cc e
    by false e = cc e

plain_of : (point : ℕ) (w : Entry) → (is_of point None w || is_plain w) ≡ true → is_plain w ≡ true
plain_of point w e = by (is_of point None w) refl e
  where
    by : (b : Bool) → is_of point None w ≡ b → (b || is_plain w) ≡ true → is_plain w ≡ true
    by true own e = own_is_plain point w.point w.nonce own
    by false own e = e

goes_plain : (calls : List Call) (g : Placed calls) (point i : ℕ) → Goes (is_of point None) is_plain g.tags i → Takes (exits point None) calls (λ j. Waits calls j) i
goes_plain calls g point i l = (
  l.place,
  (
    from_first calls g (is_of point None) l.place l.first,
    l.within,
    g.waits i l.entry l.there,
    (l.entry, g.there i l.entry l.there, plain_of point l.entry l.goes),
  ),
)

-- behind a record that is no entry, those wait that it leaves
placed_on : (call : Call) (calls : List Call) (g : Placed calls) (us : Tags) → Above 0 us → entries_of us ≡ waiting_of (call ∷ calls)
    → ((i : ℕ) (w : Entry) → At us i w → At g.tags i w × (Takes call calls (λ j. Waits calls j) i → ⊥))
    → ((i : ℕ) (w : Entry) → At g.tags i w → (Takes call calls (λ j. Waits calls j) i → ⊥) → At us i w)
    → ((w : Entry) → call ≡ enters w → ⊥) → Placed (call ∷ calls)
placed_on call calls g us a e out stay no_entry = record {
  tags = later us;
  above = above_less (later us) 0 1 (omega arith) (above_later us 0 a);
  entries = entries_later us ∙ e;
  there = there;
  waits = waits;
  all = all;
}
  where
    there : (i : ℕ) (w : Entry) → At (later us) i w → IsEntryAt (call ∷ calls) i w
    there i w at = let (j, (is, here)) = from_later us i w at in
        subst (λ (k : ℕ). IsEntryAt (call ∷ calls) k w) (sym is) (g.there j w (out j w here).0)

    waits : (i : ℕ) (w : Entry) → At (later us) i w → Waits (call ∷ calls) i
    waits i w at = let (j, (is, here)) = from_later us i w at in
        let P : ℕ → Type 0 = λ k. Waits (call ∷ calls) k in
        subst P (sym is) (g.waits j w (out j w here).0, (out j w here).1)

    all : (i : ℕ) → Waits (call ∷ calls) i → (w : Entry) × At (later us) i w
    all zero (w, is) = absurd (no_entry w is)
    all (suc j) (waiting, untaken) = let (w, at) = g.all j waiting in (w, at_later us j w (stay j w at untaken))

placed_entry : (w : Entry) (calls : List Call) → Placed calls → Placed (enters w ∷ calls)
placed_entry w calls g = record {
  tags = (0, w) ∷ later g.tags;
  above = (omega arith, above_later g.tags 0 g.above);
  entries = ap (λ (l : List Entry). w ∷ l) (entries_later g.tags ∙ g.entries);
  there = there;
  waits = waits;
  all = all;
}
  where
    there : (i : ℕ) (v : Entry) → At ((0, w) ∷ later g.tags) i v → IsEntryAt (enters w ∷ calls) i v
    there i v (inl (e, f)) = let P : ℕ → Type 0 = λ k. IsEntryAt (enters w ∷ calls) k v in
        subst P (sym e) (ap (λ (u : Entry). Some (enters u)) (sym f))
    there i v (inr at) = let (j, (is, here)) = from_later g.tags i v at in
        subst (λ (k : ℕ). IsEntryAt (enters w ∷ calls) k v) (sym is) (g.there j v here)

    waits : (i : ℕ) (v : Entry) → At ((0, w) ∷ later g.tags) i v → Waits (enters w ∷ calls) i
    waits i v (inl (e, f)) = let P : ℕ → Type 0 = λ k. Waits (enters w ∷ calls) k in subst P (sym e) (w, refl)
    waits i v (inr at) = let (j, (is, here)) = from_later g.tags i v at in
        let P : ℕ → Type 0 = λ k. Waits (enters w ∷ calls) k in
        subst P (sym is) (g.waits j v here, λ taken. taken)

    all : (i : ℕ) → Waits (enters w ∷ calls) i → (v : Entry) × At ((0, w) ∷ later g.tags) i v
    all zero (v, is) = (w, inl (refl, refl))
    all (suc j) (waiting, untaken) = let (v, at) = g.all j waiting in (v, inr (at_later g.tags j v at))

placed : (calls : List Call) → Placed calls
placed [] = record { tags = []; above = tt; entries = refl; there = λ i w at. absurd at; waits = λ i w at. absurd at; all = λ i h. absurd h }
placed (enters w ∷ calls) = placed_entry w calls (placed calls)
placed (exits point None ∷ calls) =
    let g = placed calls in
    let own = is_of point None in
    let l = leaves own is_plain g.tags 0 g.above in
    placed_on (exits point None) calls g (left_in own is_plain g.tags) (above_left own is_plain g.tags 0 g.above)
    (left_plain point g.tags ∙ ap (λ (ws : List Entry). left_by point None ws) g.entries)
    (λ i w at. ((l.out i w at).0, λ takes. (l.out i w at).1 (takes_plain calls g point i takes)))
    (λ i w at stays. l.stay i w at (λ goes. stays (goes_plain calls g point i goes)))
    (λ w is. cc is)
placed (exits point (Some n) ∷ calls) =
    let g = placed calls in
    let own = is_of point (Some n) in
    let l = leaves own alone g.tags 0 g.above in
    placed_on (exits point (Some n)) calls g (left_in own alone g.tags) (above_left own alone g.tags 0 g.above)
    (left_first own g.tags ∙ ap (λ (ws : List Entry). left_by point (Some n) ws) g.entries)
    (λ i w at. ((l.out i w at).0, λ takes. (l.out i w at).1 (takes_first calls g own i takes)))
    (λ i w at stays. l.stay i w at (λ goes. stays (goes_first calls g own i goes)))
    (λ w is. cc is)
placed (other ∷ calls) =
    let g = placed calls in
    placed_on other calls g g.tags g.above g.entries (λ i w at. (at, λ takes. takes)) (λ i w at stays. at) (λ w is. cc is)

-- ---- the places alone

abbrev places_of : Tags → List ℕ
places_of ts = map (λ (t : ℕ × Entry). t.0) ts

entries_there : (calls : List Call) (ts : Tags) → ((i : ℕ) (w : Entry) → At ts i w → IsEntryAt calls i w) → AllZip (IsEntryAt calls) (places_of ts) (entries_of ts)
entries_there calls [] there = tt
entries_there calls (t ∷ ts) there = (there t.0 t.1 (inl (refl, refl)), entries_there calls ts (λ i w at. there i w (inr at)))

all_wait : (calls : List Call) (ts : Tags) → ((i : ℕ) (w : Entry) → At ts i w → Waits calls i) → All (λ i. Waits calls i) (places_of ts)
all_wait calls [] waits = All-nil (λ i. Waits calls i)
all_wait calls (t ∷ ts) waits = All-cons (λ i. Waits calls i) t.0 (places_of ts) (waits t.0 t.1 (inl (refl, refl))) (all_wait calls ts (λ i w at. waits i w (inr at)))

contains : (ts : Tags) (i : ℕ) (w : Entry) → At ts i w → Contains (places_of ts) i
contains [] i w at = absurd at
contains (t ∷ ts) i w (inl (e, f)) = (0, omega arith, sym e)
contains (t ∷ ts) i w (inr at) = let (k, h, is) = contains ts i w at in (suc k, omega (arith, h), is)

-- the places ascend
past : (ts : Tags) (m n : ℕ) → m < n → Above n ts → All (λ j. m < j) (places_of ts)
past [] m n h a = All-nil (λ j. m < j)
past (t ∷ ts) m n h (g, a) = All-cons (λ j. m < j) t.0 (places_of ts) (omega (arith, h, g)) (past ts m (suc t.0) (omega (arith, h, g)) a)

ascend : (ts : Tags) (n : ℕ) → Above n ts → AllPairs (λ i j. i < j) (places_of ts)
ascend [] n a = λ i j d h within. absurd (omega arith)
ascend (t ∷ ts) n (h, a) = AllPairs-cons (λ i j. i < j) t.0 (places_of ts) (past ts t.0 (suc t.0) (omega arith) a) (ascend ts (suc t.0) a)

pub untaken_entries : UntakenEntriesWait
untaken_entries calls = let g = placed calls in record {
  places = places_of g.tags;
  ascend = ascend g.tags 0 g.above;
  entries = subst (AllZip (IsEntryAt calls) (places_of g.tags)) g.entries (entries_there calls g.tags g.there);
  waiting = all_wait calls g.tags g.waits;
  no_other = λ i h. let (w, at) = g.all i h in contains g.tags i w at;
}
