-- Making the checks that ways give, one way after another.
use Rattle.std.specs.Prelude.{◌≡◌, ◌≢◌, ◌==◌, ℕ, Bool, true, false, List, [], ◌∷◌, ◌++◌, slice_get, slice_set, option_map, if◌then◌else◌, Option, Some, None, refl}
use Rattle.std.specs.List.{cons_option}
use Rattle.std.proofs.Common.{◌∙◌, ⊎_elim, append_assoc, ap, sym}
use Rattle.std.proofs.lemmas.Bool.{eq-eqb, ne_eqb}
use Rattle.std.proofs.lemmas.List.{append-nil, length-set}
use Rattle.std.proofs.lemmas.List.Elements.{filter_map-append}
use Rattle.dk_base.specs.declared.kinds.VarId.{VarId}
use Rattle.dk_hierarchy.specs.Edges.{partners_at}
use Rattle.dk_hierarchy.specs.declared.way.Way.{Way}
use Rattle.dk_verdicts.proofs.Checked.{get_set, some_same, there_too}
use Rattle.dk_verdicts.specs.Checks.{AreWithChecks, check_by, checks_by}
use Rattle.dk_verdicts.specs.declared.checks.Check.{Check}

same_at : {X : Type 0} (xs : List X) (p : ℕ) (x y : X) → slice_get xs p ≡ Some x → slice_get xs p ≡ Some y → x ≡ y
same_at xs p x y a b = some_same x y (sym a ∙ b)

pub with_none : (claim : ℕ) (vars : List VarId) (checks : List (List Check)) → AreWithChecks claim vars [] checks checks
with_none claim vars checks = record {
  long = refl;
  each = λ p own others a b. same_at checks p others own b a ∙ sym (append-nil own);
}

module _ (claim : ℕ) (vars : List VarId) (way : Way) (checks : List (List Check)) where
  -- a variable has no partner
  pub with_no_more : partners_at way.partners vars ≡ None → AreWithChecks claim vars (way ∷ []) checks checks
  with_no_more none = record {
    long = refl;
    each = λ p own others a b.
        same_at checks p others own b a ∙ sym (append-nil own) ∙ ap (λ (l : List Check). own ++ l) (sym (ap (λ o. cons_option o []) (no_check p)));
  }
    where
      by : (b : Bool) (o : Option (List VarId)) → o ≡ None → (if b then option_map {U = Check} (λ (there : List VarId). record { claim = claim; vars = there; paths = way.paths }) o else None) ≡ None
      by true o e = ap (λ (o : Option (List VarId)). option_map {U = Check} (λ there. record { claim = claim; vars = there; paths = way.paths }) o) e
      by false o e = refl

      no_check : (p : ℕ) → check_by claim vars p way ≡ None
      no_check p = by (way.point.0 == p) (partners_at way.partners vars) none

  -- all have partners
  module _ (there : List VarId) (found : partners_at way.partners vars ≡ Some there) (at_point : List Check) (here : slice_get checks way.point.0 ≡ Some at_point) where
    abbrev made : Check
    made = record { claim = claim; vars = there; paths = way.paths }

    its_check : (p : ℕ) → way.point.0 ≡ p → check_by claim vars p way ≡ Some made
    its_check p e =
        ap (λ b. if b then option_map {U = Check} (λ (there : List VarId). record { claim = claim; vars = there; paths = way.paths }) (partners_at way.partners vars) else None) (eq-eqb way.point.0 p e)
        ∙ ap (option_map {U = Check} (λ (there : List VarId). record { claim = claim; vars = there; paths = way.paths })) found

    no_other : (p : ℕ) → p ≢ way.point.0 → check_by claim vars p way ≡ None
    no_other p ne =
        ap (λ b. if b then option_map {U = Check} (λ (there : List VarId). record { claim = claim; vars = there; paths = way.paths }) (partners_at way.partners vars) else None) (ne_eqb way.point.0 p (λ e. ne (sym e)))

    pub with_one_more : AreWithChecks claim vars (way ∷ []) checks (slice_set checks way.point.0 (at_point ++ made ∷ []))
    with_one_more = record {
      long = length-set checks way.point.0 (at_point ++ made ∷ []);
      each = λ p own others a b. ⊎_elim
          (λ h. sym h.1
          ∙ ap (λ (l : List Check). l ++ made ∷ []) (same_at checks p at_point own (ap (slice_get checks) h.0 ∙ here) a)
          ∙ ap (λ (l : List Check). own ++ l) (sym (ap (λ o. cons_option o []) (its_check p (sym h.0)))))
          (λ h. same_at checks p others own h.1 a
          ∙ sym (append-nil own)
          ∙ ap (λ (l : List Check). own ++ l) (sym (ap (λ o. cons_option o []) (no_other p h.0))))
          (get_set checks way.point.0 p (at_point ++ made ∷ []) others b);
    }

-- some ways, and then others
pub with_both : (claim : ℕ) (vars : List VarId) (first second : List Way) (old mid new : List (List Check)) → AreWithChecks claim vars first old mid → AreWithChecks claim vars second mid new
    → AreWithChecks claim vars (first ++ second) old new
with_both claim vars first second old mid new a b = record {
  long = b.long ∙ a.long;
  each = λ p own others at now.
      let m = there_too mid new p others b.long now in
      b.each p m.0 others m.1 now
      ∙ ap (λ (l : List Check). l ++ checks_by claim vars p second) (a.each p own m.0 at m.1)
      ∙ append_assoc own (checks_by claim vars p first) (checks_by claim vars p second)
      ∙ ap (λ (l : List Check). own ++ l) (sym (filter_map-append (check_by claim vars p) first second));
}
