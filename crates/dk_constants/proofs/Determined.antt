-- The constants of samples are determined, and where nothing is new and nothing ended they are the old ones.
use Rattle.std.specs.Prelude.{◌≡◌, ◌⊎◌, ◌<◌, ◌==◌, ℕ, zero, suc, if◌then◌else◌, Contains, IsSome, List, [], ◌∷◌, None, Option, Some, length, refl}
use Rattle.std.specs.Option.{option_or}
use Rattle.std.specs.List.{AllPairs}
use Rattle.std.proofs.Common.{ap, ◌∙◌, arith, get_or, sym, inl, inr, subst}
use Rattle.std.proofs.lemmas.Bool.{cases_Bool, eq-eqb, eqb-true, false≢true, ne_eqb}
use Rattle.std.proofs.lemmas.List.{get_or_default}
use Rattle.dk_base.specs.declared.kinds.VarId.{VarId}
use Rattle.dk_base.specs.declared.values.Value.{Value}
use Rattle.dk_samples.proofs.Members.{same_members}
use Rattle.dk_samples.specs.Leaders.{old_of}
use Rattle.dk_constants.proofs.Feeding.{some_in}
use Rattle.dk_constants.specs.Constants.{AreConstants, AreFed}
use Rattle.dk_constants.specs.Known.{Entries, EntriesAscend, entry_var_at, known_at, none_known}
use Rattle.dk_constants.specs.Laws.{ConstantsAreDetermined, KnownBefore, NoSamplesHaveNone}

abbrev EntryBefore : VarId × Value → VarId × Value → Type 0
EntryBefore a b = a.0.0 < b.0.0

entries_ascend : (known : Entries) → EntriesAscend known → AllPairs EntryBefore known
entries_ascend known up i j d l m =
    let a = get_or_default known i d none_known (omega (arith, l, m)) in
    let b = get_or_default known j d none_known m in
    let lt = up i j l m in
    let x : (get_or known i d).0.0 ≡ entry_var_at known i = ap (λ (e : VarId × Value). e.0.0) a in
    let y : (get_or known j d).0.0 ≡ entry_var_at known j = ap (λ (e : VarId × Value). e.0.0) b in
    omega (arith, lt, x, y)

-- an entry that is found is there
found_entry : (known : Entries) (v : VarId) (x : Value) → known_at known v ≡ Some x → Contains known (v, x)
found_entry [] v x h = absurd (cc)
found_entry (k ∷ known) v x h = elim (cases_Bool (k.0.0 == v.0)) [
  | inl e ↦
      let value : Some k.1 ≡ Some x = sym (ap (λ b. if b then Some k.1 else known_at known v) e) ∙ h in
      let same : k.1 ≡ x = cc in
      let key : k.0 ≡ v = ap (λ (n : ℕ). record { 0 = n }) (eqb-true k.0.0 v.0 e) in
      (0, omega arith, ap (λ (w : VarId). (w, k.1)) key ∙ ap (λ y. (v, y)) same)
  | inr n ↦ let rest = found_entry known v x (sym (ap (λ b. if b then Some k.1 else known_at known v) n) ∙ h) in let l = rest.1 in (suc rest.0, omega (arith, l), rest.2)
]

-- and an entry of ascending ones is found
entry_of : (known : Entries) → AllPairs EntryBefore known → (v : VarId) (x : Value) → Contains known (v, x) → known_at known v ≡ Some x
entry_of [] up v x (k, l, e) = absurd (omega (arith, l))
entry_of (k ∷ known) up v x (zero, l, e) =
    let key : k.0.0 ≡ v.0 = ap (λ (p : VarId × Value). p.0.0) e in
    ap (λ b. if b then Some k.1 else known_at known v) (eq-eqb k.0.0 v.0 key) ∙ ap (λ (p : VarId × Value). Some p.1) e
entry_of (k ∷ known) up v x (suc n, l, e) =
    let later : k.0.0 < v.0 = subst (λ (p : VarId × Value). k.0.0 < p.0.0) e (up 0 (suc n) (v, x) (omega arith) l) in
    ap (λ b. if b then Some k.1 else known_at known v) (ne_eqb k.0.0 v.0 (λ s. omega (arith, s, later)))
    ∙ entry_of known (λ i j d lt m. up (suc i) (suc j) d (omega (arith, lt)) (omega (arith, m))) v x (n, omega (arith, l), e)

pub entry_found : (known : Entries) → EntriesAscend known → (v : VarId) (x : Value) → Contains known (v, x) → known_at known v ≡ Some x
entry_found known up = entry_of known (entries_ascend known up)

-- ascending entries of which the same is known are equal
pub same_entries : (known others : Entries) → EntriesAscend known → EntriesAscend others → ((v : VarId) (x : Value) → known_at known v ≡ Some x → known_at others v ≡ Some x) → ((v : VarId) (x : Value) → known_at others v ≡ Some x → known_at known v ≡ Some x)
    → known ≡ others
same_entries known others up on to from =
    same_members EntryBefore (λ x y l m. omega (arith, l, m)) known others (entries_ascend known up) (entries_ascend others on)
    (λ e c. found_entry others e.0 e.1 (to e.0 e.1 (entry_found known up e.0 e.1 c)))
    (λ e c. found_entry known e.0 e.1 (from e.0 e.1 (entry_found others on e.0 e.1 c)))

pub constants_are_determined : ConstantsAreDetermined
constants_are_determined leaders samples known others is also =
    same_entries known others is.ascend also.ascend (λ v x e. (also.each v x).1 ((is.each v x).0 e)) (λ v x e. (is.each v x).1 ((also.each v x).0 e))

nothing_known : (leaders : List VarId) → AreConstants leaders [] []
nothing_known leaders = record {
  ascend = λ i j l m. absurd (omega (arith, m));
  each = λ v x. (λ e. absurd (cc), λ h. absurd (let some = h.1.some in omega (arith, some)));
}

pub no_samples_have_none : NoSamplesHaveNone
no_samples_have_none leaders known = (λ are. constants_are_determined leaders [] known [] are (nothing_known leaders), λ e. subst (AreConstants leaders []) (sym e) (nothing_known leaders))

-- where a constant is known there is a sample
pub known_some : (leaders : List VarId) (samples : List (List Value)) (known : Entries) → AreConstants leaders samples known → (v : VarId) (x : Value) → known_at known v ≡ Some x → 0 < length samples
known_some leaders samples known are v x e = ((are.each v x).0 e).1.some

pub fed_same : (known : Entries) (sample : List Value) (still : Entries) → EntriesAscend known → AreFed known [] sample still [] → still ≡ known
fed_same known sample still up fed = same_entries still known fed.still_ascend up (λ v x e. (fed.stays v x e).0) (λ v x e. elim (fed.each v (subst (λ o. IsSome o) (sym e) refl)) [
  | inl s ↦
      let found = some_in (known_at still v) s in
      let was : known_at known v ≡ Some found.0 = (fed.stays v found.0 found.1).0 in
      let same : found.0 ≡ x = (let both : Some found.0 ≡ Some x = sym was ∙ e in cc) in
      found.1 ∙ ap Some same
  | inr s ↦ absurd (some_none s)
])
  where
    some_none : IsSome (known_at [] (record { 0 = 0 })) → ⊥
    some_none s = false≢true s

-- what was known is still known or has ended
known_cases : (o : Option Value) → ((x : Value) × (o ≡ Some x)) ⊎ (o ≡ None)
known_cases None = inr refl
known_cases (Some x) = inl (x, refl)

not_some : (o : Option Value) → o ≡ None → IsSome o → ⊥
not_some o e s = false≢true (subst IsSome e s)

pub known_before : KnownBefore
known_before known new sample still over fed v =
    let was = known_at known (old_of new v) in
    let now = known_at still v in
    let last = known_at over v in
    elim (known_cases now) as (λ _. was ≡ option_or now last) [
      | inl s ↦ (fed.stays v s.0 s.1).0 ∙ sym (ap (λ o. option_or o last) s.1)
      | inr n ↦ elim (known_cases last) as (λ _. was ≡ option_or now last) [
        | inl s ↦ (fed.ended v s.0 s.1).0 ∙ (sym s.1 ∙ sym (ap (λ o. option_or o last) n))
        | inr m ↦ elim (known_cases was) as (λ _. was ≡ option_or now last) [
          | inl s ↦ absurd (elim (fed.each v (subst IsSome (sym s.1) refl)) as (λ _. ⊥) [ inl t ↦ not_some now n t | inr t ↦ not_some last m t ])
          | inr k ↦ k ∙ (sym m ∙ sym (ap (λ o. option_or o last) n))
        ]
      ]
    ]
