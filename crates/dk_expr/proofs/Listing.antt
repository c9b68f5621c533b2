-- Variables that are listed under names.
use Rattle.std.specs.Prelude.{◌≡◌, ◌+◌, ◌<◌, ◌⊎◌, ℕ, Bool, true, false, Contains, List, [], ◌∷◌, ◌++◌, bytes_eq, if◌then◌else◌, length, nat_eq, refl}
use Rattle.std.proofs.Common.{◌∙◌, ap, arith, get_or, inl, inr, subst, sym}
use Rattle.std.proofs.lemmas.Bool.{cases_lt}
use Rattle.std.proofs.lemmas.List.{get_or_default}
use Rattle.std.proofs.lemmas.List.Folds.{list_any-append}
use Rattle.std.proofs.lemmas.List.Elements.{Contains-append_left, Contains-push}
use Rattle.std.proofs.lemmas.Slice.Eq.{bytes_eq-Decides}
use Rattle.dk_base.specs.declared.kinds.VarId.{VarId}
use Rattle.dk_base.specs.declared.kinds.VarInfo.{VarInfo}
use Rattle.dk_filters.specs.Facts.{info_at, no_info}
use Rattle.dk_graph.specs.Notes.{noted, noted_under}
use Rattle.dk_expr.specs.Naming.{HaveLengths, Listed, has_length}

-- the variable that was noted is there
pub under_new : (listed : Listed) (name : List ℕ) (v : VarId) → Contains (noted_under (noted listed name v) name) v
under_new [] name v = rw ((bytes_eq-Decides name name).1 refl) (Contains-push [] v)
under_new (e ∷ es) name v = by (bytes_eq name e.0) refl (under_new es name v)
  where
    by : (b : Bool) → bytes_eq name e.0 ≡ b → Contains (noted_under (noted es name v) name) v → Contains (noted_under (noted (e ∷ es) name v) name) v
    by true h rest = rw (h, h) (Contains-push e.1 v)
    by false h rest = rw (h, h) rest

-- and what was there still is
pub under_more : (listed : Listed) (name : List ℕ) (v : VarId) (other : List ℕ) (w : VarId) → Contains (noted_under listed other) w → Contains (noted_under (noted listed name v) other) w
under_more [] name v other w h = absurd (nothing-there w h)
  where
    nothing-there : (w : VarId) → Contains {X = VarId} [] w → ⊥
    nothing-there w (k, lt, is) = omega (arith, lt)
under_more (e ∷ es) name v other w h = by (bytes_eq name e.0) (bytes_eq other e.0) refl refl h (under_more es name v other w)
  where
    by : (b c : Bool) → bytes_eq name e.0 ≡ b → bytes_eq other e.0 ≡ c → Contains (noted_under (e ∷ es) other) w
        → (Contains (noted_under es other) w → Contains (noted_under (noted es name v) other) w) → Contains (noted_under (noted (e ∷ es) name v) other) w
    by true true p q k rest = rw (p, q) (Contains-append_left e.1 (v ∷ []) w (rw q at k))
    by true false p q k rest = rw (p, q) (rw q at k)
    by false true p q k rest = rw (p, q) (rw q at k)
    by false false p q k rest = rw (p, q) (rest (rw q at k))

-- ---- one variable more
abbrev var : ℕ → VarId
var n = record { 0 = n }

named_there : (infos : List VarInfo) (i : ℕ) (info : VarInfo) (v : VarId) → i < length infos → info ≡ get_or infos i info → v.0 ≡ i → (info_at infos v).name ≡ info.name
named_there infos i info v lt is at = ap (λ (x : VarInfo). x.name) (ap (λ k. get_or infos k no_info) at ∙ get_or_default infos i no_info info lt ∙ sym is)

pub more_listed : (infos : List VarInfo) (old new : Listed) (i : ℕ) (info : VarInfo) (name : List ℕ) (w : VarId) → i < length infos → info ≡ get_or infos i info
    → name ≡ info.name → w.0 ≡ i → new ≡ noted old name w
    → ((v : VarId) → v.0 < i → Contains (noted_under old (info_at infos v).name) v) → (v : VarId) → v.0 < i + 1 → Contains (noted_under new (info_at infos v).name) v
more_listed infos old new i info name w lt is own at step so_far v below = elim (cases_lt v.0 i) as (λ _. Contains (noted_under new (info_at infos v).name) v) [
  | inl earlier ↦ subst (λ l. Contains (noted_under l (info_at infos v).name) v) (sym step) (under_more old name w (info_at infos v).name v (so_far v earlier))
  | inr later ↦
      let here : v.0 ≡ i = omega (arith, below, later) in
      let same : w ≡ v = ap var (at ∙ sym here) in
      let called : name ≡ (info_at infos v).name = own ∙ sym (named_there infos i info v lt is here) in
      subst (λ l. Contains (noted_under l (info_at infos v).name) v) (sym step)
      (subst (λ n. Contains (noted_under (noted old name w) n) v) called (subst (λ u. Contains (noted_under (noted old name w) name) u) same (under_new old name w)))
]

-- ---- the lengths of names
-- a length that was there stays, and the new one is there
pub lengths_more : (lengths : List ℕ) (n m : ℕ) → has_length lengths m ≡ true → has_length (if has_length lengths n then lengths else lengths ++ n ∷ []) m ≡ true
lengths_more lengths n m h = by (has_length lengths n)
  where
    by : (b : Bool) → has_length (if b then lengths else lengths ++ n ∷ []) m ≡ true
    by true = h
    by false = grind (arith, list_any-append (λ k. nat_eq k m) lengths (n ∷ []), h)

pub lengths_new : (lengths : List ℕ) (n : ℕ) → has_length (if has_length lengths n then lengths else lengths ++ n ∷ []) n ≡ true
lengths_new lengths n = by (has_length lengths n) refl
  where
    by : (b : Bool) → has_length lengths n ≡ b → has_length (if b then lengths else lengths ++ n ∷ []) n ≡ true
    by true h = h
    by false h = grind (arith, list_any-append (λ k. nat_eq k n) lengths (n ∷ []))

-- what is listed under a name with one variable more is that variable, or was there
under_old : (listed : Listed) (name : List ℕ) (v : VarId) (other : List ℕ) (w : VarId) → Contains (noted_under (noted listed name v) other) w
    → (other ≡ name) ⊎ Contains (noted_under listed other) w
under_old [] name v other w h = by (bytes_eq other name) refl h
  where
    by : (b : Bool) → bytes_eq other name ≡ b → Contains (if b then v ∷ [] else []) w → (other ≡ name) ⊎ Contains {X = VarId} [] w
    by true e h = inl ((bytes_eq-Decides other name).0 e)
    by false e h = inr h
under_old (e ∷ es) name v other w h = by (bytes_eq name e.0) (bytes_eq other e.0) refl refl h (under_old es name v other w)
  where
    by : (b c : Bool) → bytes_eq name e.0 ≡ b → bytes_eq other e.0 ≡ c → Contains (noted_under (noted (e ∷ es) name v) other) w
        → (Contains (noted_under (noted es name v) other) w → (other ≡ name) ⊎ Contains (noted_under es other) w)
        → (other ≡ name) ⊎ Contains (noted_under (e ∷ es) other) w
    by true true p q k rest = inl ((bytes_eq-Decides other e.0).0 q ∙ sym ((bytes_eq-Decides name e.0).0 p))
    by true false p q k rest = inr (rw q (rw (p, q) at k))
    by false true p q k rest = inr (rw q (rw (p, q) at k))
    by false false p q k rest = rw q (rest (rw (p, q) at k))

-- one variable more
pub more_lengths : (listed : Listed) (lengths : List ℕ) (name : List ℕ) (v : VarId) → HaveLengths listed lengths
    → HaveLengths (noted listed name v) (if has_length lengths (length name) then lengths else lengths ++ length name ∷ [])
more_lengths listed lengths name v have other w h = by (under_old listed name v other w h)
  where
    by : (other ≡ name) ⊎ Contains (noted_under listed other) w → has_length (if has_length lengths (length name) then lengths else lengths ++ length name ∷ []) (length other) ≡ true
    by (inl same) = rw (ap length same) (lengths_new lengths (length name))
    by (inr old) = lengths_more lengths (length name) (length other) (have other w old)
