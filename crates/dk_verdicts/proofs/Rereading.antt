-- Reading the claims, one after another.
use Rattle.std.specs.Prelude.{◌≡◌, ◌≢◌, ◌⊎◌, ◌+◌, ◌<◌, ◌≤◌, ℕ, zero, suc, List, [], ◌∷◌, length, slice_get, slice_set, IfSome, Option, Some, None, refl}
use Rattle.std.proofs.Common.{◌∙◌, ⊎_elim, ap, arith, inl, inr, subst, sym}
use Rattle.std.proofs.lemmas.Bool.{cases_lt}
use Rattle.std.proofs.lemmas.List.{length-set}
use Rattle.dk_base.specs.declared.kinds.PointId.{PointId}
use Rattle.dk_base.specs.declared.kinds.VarInfo.{VarInfo}
use Rattle.dk_claims.specs.declared.claims.Claim.{Claim}
use Rattle.dk_expr.specs.Naming.{AreUnderNames}
use Rattle.dk_hierarchy.specs.Samples.{all_vars_of}
use Rattle.dk_points.specs.Table.{Point}
use Rattle.dk_verdicts.proofs.Checked.{get_set, get_within, some_same}
use Rattle.dk_verdicts.specs.Reading.{AreListed, AreReread, IsFoundFrom, IsReread}
use Rattle.dk_verdicts.specs.Standing.{AreFindingsOf, IsFindingOf}
use Rattle.dk_verdicts.specs.declared.findings.Finding.{Finding}
use Rattle.dk_verdicts.specs.declared.findings.Finding.TheVariants.{Holds, Violated, Unknown}
use Rattle.dk_verdicts.specs.declared.reading.Listed.{Listed}

elsewhere : (xs : List Finding) (n i : ℕ) (g : Finding) → n < i → slice_get (slice_set xs n g) i ≡ slice_get xs i
elsewhere [] n i g less = refl
elsewhere (x ∷ xs) zero zero g less = absurd (omega (arith, less))
elsewhere (x ∷ xs) zero (suc i) g less = refl
elsewhere (x ∷ xs) (suc n) zero g less = absurd (omega (arith, less))
elsewhere (x ∷ xs) (suc n) (suc i) g less = elsewhere xs n i g (omega (arith, less))

-- the first claims are read, and of the others nothing is
pub record AreRereadTo (n from : ℕ) (ps : List Point) (claims : List Claim) (old new : List Finding) : Type 0 where
  pub long : length new ≡ length old
  pub done : (i : ℕ) (claim : Claim) (f g : Finding) → i < n → slice_get claims i ≡ Some claim → slice_get old i ≡ Some f → slice_get new i ≡ Some g → IsReread from ps claim f g
  pub others : (i : ℕ) → n ≤ i → slice_get new i ≡ slice_get old i

pub none_reread : (from : ℕ) (ps : List Point) (claims : List Claim) (old : List Finding) → AreRereadTo 0 from ps claims old old
none_reread from ps claims old = record {
  long = refl;
  done = λ i claim f g below. absurd (omega (arith, below));
  others = λ i past. refl;
}

pub all_reread : (n from : ℕ) (ps : List Point) (claims : List Claim) (old new : List Finding) → AreRereadTo n from ps claims old new → n ≡ length claims → AreReread from ps claims old new
all_reread n from ps claims old new are ends = record {
  long = are.long;
  each = λ i claim f g at was now. are.done i claim f g (let within = get_within claims i claim at in omega (arith, within, ends)) at was now;
}

module _ (n from : ℕ) (ps : List Point) (claims : List Claim) (old new : List Finding) (are : AreRereadTo n from ps claims old new) where
  -- a claim more, of which something was found
  pub one_kept : (f : Finding) → slice_get new n ≡ Some f → (f ≢ Unknown) → AreRereadTo (n + 1) from ps claims old new
  one_kept f at found = record {
    long = are.long;
    done = λ i claim g h below is was now. ⊎_elim
        (λ less. are.done i claim g h less is was now)
        (λ (same : i ≡ n).
        let first : g ≡ f = some_same g f (sym was ∙ ap (slice_get old) same ∙ sym (are.others n (omega arith)) ∙ at) in
        let second : h ≡ f = some_same h f (sym now ∙ ap (slice_get new) same ∙ at) in
        subst (λ x. IsReread from ps claim x h) (sym first) (subst (IsReread from ps claim f) (sym second) (kept claim f found)))
        (split i n below);
    others = λ i past. are.others i (omega (arith, past));
  }
    where
      kept : (claim : Claim) (f : Finding) → f ≢ Unknown → IsReread from ps claim f f
      kept claim Unknown found = absurd (found refl)
      kept claim (Holds p a m) found = refl
      kept claim (Violated x y) found = refl

      split : (i n : ℕ) → i < n + 1 → (i < n) ⊎ (i ≡ n)
      split i n below = elim (cases_lt i n) as (λ _. (i < n) ⊎ (i ≡ n)) [ inl less ↦ inl less | inr past ↦ inr (omega (arith, below, past)) ]

  -- and one of which nothing was
  pub one_read : (claim : Claim) (g : Finding) → slice_get claims n ≡ Some claim → slice_get new n ≡ Some Unknown → IsFoundFrom from ps claim g → AreRereadTo (n + 1) from ps claims old (slice_set new n g)
  one_read claim g is at found = record {
    long = length-set new n g ∙ are.long;
    done = λ i other f h below there was now. ⊎_elim
        (λ (same : (i ≡ n) × (g ≡ h)).
        let first : f ≡ Unknown = some_same f Unknown (sym was ∙ ap (slice_get old) same.0 ∙ sym (are.others n (omega arith)) ∙ at) in
        let its : claim ≡ other = some_same claim other (sym is ∙ ap (slice_get claims) (sym same.0) ∙ there) in
        subst (λ x. IsReread from ps other x h) (sym first) (subst (IsReread from ps other Unknown) same.1 (subst (λ c. IsFoundFrom from ps c g) its found)))
        (λ (away : (i ≢ n) × (slice_get new i ≡ Some h)). are.done i other f h (let ne = away.0 in omega (arith, below, ne)) there was away.1)
        (get_set new n i g h now);
    others = λ i past. elsewhere new n i g (omega (arith, past)) ∙ are.others i (omega (arith, past));
  }

-- what is found is still of the table
pub still_of : (ps : List Point) (findings : List Finding) (n : ℕ) (g : Finding) → AreFindingsOf ps findings → IsFindingOf ps g → AreFindingsOf ps (slice_set findings n g)
still_of ps findings n g are is i f at = ⊎_elim
    (λ (h : (i ≡ n) × (g ≡ f)). subst (IsFindingOf ps) h.1 is)
    (λ (h : (i ≢ n) × (slice_get findings i ≡ Some f)). are i f h.1)
    (get_set findings n i g f at)

-- ---- the last point's names
-- they serve where the point is the last one's
pub listed_before : (ps : List Point) (vars : List VarInfo) (point : PointId) (last : Option Listed) → vars ≡ all_vars_of ps point.0
    → IfSome last (AreListed ps) → IfSome last (λ l. l.point ≡ point → AreUnderNames vars l.names)
listed_before ps vars point None is are = tt
listed_before ps vars point (Some l) is are = λ same. subst (λ (infos : List VarInfo). AreUnderNames infos l.names) (ap (λ (p : PointId). all_vars_of ps p.0) same ∙ sym is) are

pub listed_behind : (ps : List Point) (vars : List VarInfo) (point : PointId) (last : Option Listed) → vars ≡ all_vars_of ps point.0
    → IfSome last (λ l. (l.point ≡ point) × AreUnderNames vars l.names) → IfSome last (AreListed ps)
listed_behind ps vars point None is are = tt
listed_behind ps vars point (Some l) is are =
    subst (λ (infos : List VarInfo). AreUnderNames infos l.names) (is ∙ ap (λ (p : PointId). all_vars_of ps p.0) (sym are.0)) are.1
