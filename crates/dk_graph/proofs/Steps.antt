-- One step of raising: what it keeps.
use Rattle.std.proofs.Common.{◌≡◌, ℕ, suc, ◌+◌, ◌-◌, ◌*◌, ◌==◌, ◌<◌, ◌≤◌, ◌≢◌, ◌⊎◌, inl, inr, Bool, true, false, nat_lt, nat_le, List, [], ◌∷◌, ◌++◌, length, set, None, Some, if◌then◌else◌, refl, ap, subst, sym, ◌∙◌, true≢false, sum_by, length-append, arith}
use Rattle.std.proofs.lemmas.List.{get_or-set_same, get_or-set_other, length-set}
use Rattle.std.proofs.lemmas.List.Sums.{sum_by-set}
use Rattle.std.proofs.lemmas.List.Elements.{Contains-append_left, Contains-push}
use Rattle.dk_graph.specs.declared.nodes.Edge.{Edge}
use Rattle.dk_graph.specs.Graphs.{height}
use Rattle.dk_graph.specs.Raising.{Raising, above}
use Rattle.dk_graph.specs.Raising.{first_rank, rank, over, IsSettled, IsReached, IsLow}
use Rattle.dk_graph.proofs.Heights.{highest-ge, eqb_true, eqb_same}
use Rattle.dk_graph.proofs.Places.{some-injective}
use Rattle.dk_graph.proofs.Members.{Has}

abbrev pub lifted : ℕ → Raising → ℕ → Raising
lifted child s parent = record { ranks = set s.ranks parent (rank s child + 1); queue = s.queue ++ parent ∷ [] }

-- what a step was
abbrev pub Stepped : ℕ → ℕ → Raising → ℕ → Raising → Type 0
Stepped limit child s parent t =
    ((rank s child < rank s parent) × (t ≡ s))
    ⊎ ((rank s parent ≤ rank s child) × (rank s child + 1 < limit) × (t ≡ lifted child s parent))

pub lt_true : (m n : ℕ) → nat_lt m n ≡ true → m < n
lt_true m n h = grind (arith, h)

pub lt_false : (m n : ℕ) → nat_lt m n ≡ false → n ≤ m
lt_false m n h = grind (arith, h)

pub stepped : (limit child : ℕ) (s : Raising) (parent : ℕ) (t : Raising) → above limit child s parent ≡ Some t → Stepped limit child s parent t
unfolding above
stepped limit child s parent t h =
    by (nat_lt (rank s child) (rank s parent)) (nat_lt (rank s child + 1) limit) refl refl h
  where
    by : (a b : Bool) → nat_lt (rank s child) (rank s parent) ≡ a → nat_lt (rank s child + 1) limit ≡ b
        → (if a then Some s else if b then Some (lifted child s parent) else None) ≡ Some t → Stepped limit child s parent t
    by true b p q h = inl (lt_true (rank s child) (rank s parent) p, sym (some-injective h))
    by false true p q h = inr (lt_false (rank s child) (rank s parent) p, lt_true (rank s child + 1) limit q, sym (some-injective h))
    by false false p q h = absurd (cc)

pub stopped : (limit child : ℕ) (s : Raising) (parent : ℕ) → above limit child s parent ≡ None → limit ≤ rank s child + 1
unfolding above
stopped limit child s parent h =
    by (nat_lt (rank s child) (rank s parent)) (nat_lt (rank s child + 1) limit) refl h
  where
    by : (a b : Bool) → nat_lt (rank s child + 1) limit ≡ b
        → (if a then Some s else if b then Some (lifted child s parent) else None) ≡ None → limit ≤ rank s child + 1
    by true b q h = absurd (cc)
    by false true q h = absurd (cc)
    by false false q h = lt_false (rank s child + 1) limit q

pub eq_or_not : (m n : ℕ) → (m ≡ n) ⊎ (m ≢ n)
eq_or_not m n = by (m == n) refl
  where
    by : (b : Bool) → m == n ≡ b → (m ≡ n) ⊎ (m ≢ n)
    by true p = inl (eqb_true m n p)
    by false p = inr (λ same. true≢false (sym (eqb_same n) ∙ sym (ap (λ k. k == n) same) ∙ p))

-- ranks only rise
pub rank-lifted : (child : ℕ) (s : Raising) (parent q : ℕ) → parent < length s.ranks → rank s parent ≤ rank s child
    → ((q ≡ parent) × (rank (lifted child s parent) q ≡ rank s child + 1)) ⊎ ((q ≢ parent) × (rank (lifted child s parent) q ≡ rank s q))
rank-lifted child s parent q below le = by (eq_or_not q parent)
  where
    by : (q ≡ parent) ⊎ (q ≢ parent) → ((q ≡ parent) × (rank (lifted child s parent) q ≡ rank s child + 1)) ⊎ ((q ≢ parent) × (rank (lifted child s parent) q ≡ rank s q))
    by (inl same) = inl (same, rw same (get_or-set_same s.ranks parent (rank s child + 1) 0 below))
    by (inr other) = inr (other, get_or-set_other s.ranks parent q (rank s child + 1) 0 other)

pub settled-lifted : (child : ℕ) (s : Raising) (parent : ℕ) → parent < length s.ranks → rank s parent ≤ rank s child
    → (q r : ℕ) → IsSettled s q r → IsSettled (lifted child s parent) q r
settled-lifted child s parent below le q r (inr waits) = inr (Contains-append_left s.queue (parent ∷ []) q waits)
settled-lifted child s parent below le q r (inl climbs) = by (rank-lifted child s parent q below le) (rank-lifted child s parent r below le)
  where
    t : Raising
    t = lifted child s parent

    by : ((q ≡ parent) × (rank t q ≡ rank s child + 1)) ⊎ ((q ≢ parent) × (rank t q ≡ rank s q))
        → ((r ≡ parent) × (rank t r ≡ rank s child + 1)) ⊎ ((r ≢ parent) × (rank t r ≡ rank s r)) → IsSettled t q r
    by (inl p) _ = inr (rw (p.0) (Contains-push s.queue parent))
    by (inr p) (inl o) = let at : rank s r ≡ rank s parent = ap (rank s) o.0 in inl (omega (arith, p.1, o.1, climbs, le, at))
    by (inr p) (inr o) = inl (omega (arith, p.1, o.1, climbs))

pub settled-step : (limit child : ℕ) (s : Raising) (parent : ℕ) (t : Raising) → parent < length s.ranks → Stepped limit child s parent t
    → (q r : ℕ) → IsSettled s q r → IsSettled t q r
settled-step limit child s parent t below (inl p) q r h = subst (λ u. IsSettled u q r) (sym p.1) h
settled-step limit child s parent t below (inr p) q r h = subst (λ u. IsSettled u q r) (sym p.2) (settled-lifted child s parent below p.0 q r h)

-- ---- the step settles its own edge

pub settles-lifted : (child : ℕ) (s : Raising) (parent : ℕ) → parent < length s.ranks → rank s parent ≤ rank s child → IsSettled (lifted child s parent) child parent
settles-lifted child s parent below le = by (rank-lifted child s parent child below le)
  where
    t : Raising
    t = lifted child s parent

    at : rank t parent ≡ rank s child + 1
    at = get_or-set_same s.ranks parent (rank s child + 1) 0 below

    by : ((child ≡ parent) × (rank t child ≡ rank s child + 1)) ⊎ ((child ≢ parent) × (rank t child ≡ rank s child)) → IsSettled t child parent
    by (inl p) = inr (rw (p.0) (Contains-push s.queue parent))
    by (inr p) = inl (omega (arith, p.1, at))

pub settles-step : (limit child : ℕ) (s : Raising) (parent : ℕ) (t : Raising) → parent < length s.ranks → Stepped limit child s parent t → IsSettled t child parent
settles-step limit child s parent t below (inl p) = subst (λ u. IsSettled u child parent) (sym p.1) (inl p.0)
settles-step limit child s parent t below (inr p) = subst (λ u. IsSettled u child parent) (sym p.2) (settles-lifted child s parent below p.0)

-- ---- ranks stay reached

le_true : (m n : ℕ) → nat_le m n ≡ true → m ≤ n
le_true m n h = grind (arith, h)

le_false : (m n : ℕ) → nat_le m n ≡ false → n < m
le_false m n h = grind (arith, h)

-- where a path comes to a child with as many edges as its number is above the first rank, one comes to the parent with an edge more
pub reached-above : (es : List Edge) (e : Edge) (r : ℕ) → Has es e → r - first_rank ≤ height es (r - first_rank) e.child.0
    → r + 1 - first_rank ≤ height es (r + 1 - first_rank) e.parent.0
reached-above es e r has reached = by (nat_le first_rank r) refl
  where
    by : (b : Bool) → nat_le first_rank r ≡ b → r + 1 - first_rank ≤ height es (r + 1 - first_rank) e.parent.0
    by true h =
        let there : r - first_rank + 1 ≤ height es (suc (r - first_rank)) e.parent.0 = omega (arith, highest-ge (height es (r - first_rank)) es has.0 e has.1, reached) in
        let le = le_true first_rank r h in
        let same : suc (r - first_rank) ≡ r + 1 - first_rank = omega (arith, le) in
        subst (λ n. n ≤ height es n e.parent.0) same (omega (arith, there))
    by false h = let less = le_false first_rank r h in omega (arith, less)

pub reached-lifted : (es : List Edge) (e : Edge) (s : Raising) → Has es e → e.parent.0 < length s.ranks → rank s e.parent.0 ≤ rank s e.child.0
    → IsReached es (over s) → IsReached es (over (lifted e.child.0 s e.parent.0))
reached-lifted es e s has below le reached q = by (rank-lifted e.child.0 s e.parent.0 q below le)
  where
    t : Raising
    t = lifted e.child.0 s e.parent.0

    there : rank s e.child.0 + 1 - first_rank ≤ height es (rank s e.child.0 + 1 - first_rank) e.parent.0
    there = reached-above es e (rank s e.child.0) has (reached e.child.0)

    by : ((q ≡ e.parent.0) × (rank t q ≡ rank s e.child.0 + 1)) ⊎ ((q ≢ e.parent.0) × (rank t q ≡ rank s q)) → rank t q - first_rank ≤ height es (rank t q - first_rank) q
    by (inl p) = rw (p.1, p.0) there
    by (inr p) = subst (λ n. n - first_rank ≤ height es (n - first_rank) q) (sym p.1) (reached q)

pub reached-step : (es : List Edge) (limit : ℕ) (e : Edge) (s t : Raising) → Has es e → e.parent.0 < length s.ranks → Stepped limit e.child.0 s e.parent.0 t
    → IsReached es (over s) → IsReached es (over t)
reached-step es limit e s t has below (inl p) reached = subst (λ u. IsReached es (over u)) (sym p.1) reached
reached-step es limit e s t has below (inr p) reached = subst (λ u. IsReached es (over u)) (sym p.2) (reached-lifted es e s has below p.0 reached)

-- a path of as many edges as the limit is above the first rank, where a step stopped
pub reached-stopped : (es : List Edge) (n : ℕ) (e : Edge) (s : Raising) → Has es e → above (first_rank + n) e.child.0 s e.parent.0 ≡ None
    → rank s e.child.0 < first_rank + n → IsReached es (over s) → n ≤ height es n e.parent.0
reached-stopped es n e s has stop below reached =
    let more = stopped (first_rank + n) e.child.0 s e.parent.0 stop in
    let same : rank s e.child.0 + 1 - first_rank ≡ n = omega (arith, more, below) in
    subst (λ k. k ≤ height es k e.parent.0) same (reached-above es e (rank s e.child.0) has (reached e.child.0))

-- ---- what is left to do

abbrev pub gap : ℕ → List ℕ → ℕ
gap limit ds = sum_by (λ d. limit - d) ds

abbrev pub to_do : ℕ → Raising → ℕ
to_do limit s = 2 * gap limit s.ranks + length s.queue

pub to_do-step : (limit child : ℕ) (s : Raising) (parent : ℕ) (t : Raising) → parent < length s.ranks → Stepped limit child s parent t → to_do limit t ≤ to_do limit s
to_do-step limit child s parent t below (inl p) = rw (p.1) (omega arith)
to_do-step limit child s parent t below (inr p) =
    rw (p.2) (omega (arith, sum_by-set (λ d. limit - d) s.ranks parent (rank s child + 1) 0 below, length-append s.queue (parent ∷ []), p.0, p.1))

pub length-step : (limit child : ℕ) (s : Raising) (parent : ℕ) (t : Raising) → Stepped limit child s parent t → length t.ranks ≡ length s.ranks
length-step limit child s parent t (inl p) = rw (p.1) refl
length-step limit child s parent t (inr p) = rw (p.2) (length-set s.ranks parent (rank s child + 1))

pub low-step : (limit child : ℕ) (s : Raising) (parent : ℕ) (t : Raising) → parent < length s.ranks → Stepped limit child s parent t → IsLow limit s.ranks → IsLow limit t.ranks
low-step limit child s parent t below (inl p) low = subst (λ u. IsLow limit u.ranks) (sym p.1) low
low-step limit child s parent t below (inr p) low = subst (λ u. IsLow limit u.ranks) (sym p.2) lift
  where
    lift : IsLow limit (lifted child s parent).ranks
    lift q within = by (rank-lifted child s parent q below p.0)
      where
        by : ((q ≡ parent) × (rank (lifted child s parent) q ≡ rank s child + 1)) ⊎ ((q ≢ parent) × (rank (lifted child s parent) q ≡ rank s q)) → rank (lifted child s parent) q < limit
        by (inl o) = omega (arith, o.1, p.1)
        by (inr o) = rw (o.1) (low q (omega (arith, within, length-set s.ranks parent (rank s child + 1))))
