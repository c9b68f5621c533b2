-- A state over variables that its row admits is a slot of the row.
use Rattle.std.specs.Prelude.{◌≡◌, ◌==◌, ◌<◌, ◌≤◌, ℕ, zero, suc, true, All, List, [], ◌∷◌, length, slice_get, zip}
use Rattle.std.specs.List.{AllZip, list_all}
use Rattle.std.proofs.Common.{arith}
use Rattle.std.proofs.lemmas.Bool.{and_parts, eqb-true, false≢true}
use Rattle.std.proofs.lemmas.List.Elements.{All-cons, All-nil}
use Rattle.dk_base.specs.Values.{IsOfKind}
use Rattle.dk_base.specs.declared.kinds.VarId.{VarId}
use Rattle.dk_base.specs.declared.kinds.VarInfo.{VarInfo}
use Rattle.dk_base.specs.declared.values.Value.{Value}
use Rattle.dk_forms.specs.declared.states.State.{State}
use Rattle.dk_grammar.specs.Runs.{IsSlot}
use Rattle.dk_instances.proofs.Whole.{is_tuple}
use Rattle.dk_instances.specs.Laws.{IsSample}
use Rattle.dk_template.specs.Admitted.{admits, suits}
use Rattle.dk_template.specs.Proper.{IsProper}
use Rattle.dk_template.specs.Templates.{form_of, role_kinds, roles_of, template_of}
use Rattle.dk_template.specs.declared.grammar.RowId.{RowId}
use Rattle.dk_template.specs.declared.templates.Role.{Role}
use Rattle.dk_template.specs.declared.templates.Takes.{Takes}
use Rattle.dk_template.specs.declared.templates.Takes.TheVariants.{One, Two, Three}

-- a row has one to three roles
some_roles : (takes : Takes) → 1 ≤ length (roles_of takes)
some_roles (One a) = omega arith
some_roles (Two a b) = omega arith
some_roles (Three a b c) = omega arith

few_roles : (takes : Takes) → length (roles_of takes) ≤ 3
few_roles (One a) = omega arith
few_roles (Two a b) = omega arith
few_roles (Three a b c) = omega arith

-- a variable that suits a role has a value in a sample
there : (role : Role) (infos : List VarInfo) (sample : List Value) (n : ℕ) → AllZip (λ (info : VarInfo) x. IsOfKind info.kind x) infos sample → suits role (slice_get infos n) ≡ true → n < length sample
there role [] sample n h s = absurd (false≢true s)
there role (info ∷ infos) [] n h s = absurd h
there role (info ∷ infos) (x ∷ sample) zero h s = omega arith
there role (info ∷ infos) (x ∷ sample) (suc n) h s = let l = there role infos sample n h.1 s in omega (arith, l)

are_there : (infos : List VarInfo) (sample : List Value) → AllZip (λ (info : VarInfo) x. IsOfKind info.kind x) infos sample → (roles : List Role) (vars : List VarId) → length vars ≡ length roles
    → list_all (λ (p : Role × VarId). suits p.0 (slice_get infos p.1.0)) (zip roles vars) ≡ true → All (λ v. v.0 < length sample) vars
are_there infos sample h [] [] e s = All-nil (λ v. v.0 < length sample)
are_there infos sample h [] (v ∷ vars) e s = absurd (omega (arith, e))
are_there infos sample h (r ∷ roles) [] e s = absurd (omega (arith, e))
are_there infos sample h (r ∷ roles) (v ∷ vars) e s =
    let s0 = and_parts (suits r (slice_get infos v.0)) (list_all (λ (p : Role × VarId). suits p.0 (slice_get infos p.1.0)) (zip roles vars)) s in
    All-cons (λ (w : VarId). w.0 < length sample) v vars (there r infos sample v.0 h s0.0) (are_there infos sample h roles vars (omega (arith, e)) s0.1)

pub slot_of : (row : RowId) (infos : List VarInfo) (sample : List Value) → IsSample infos sample → (vars : List VarId) → admits row infos vars ≡ true → (state : State) → IsProper (form_of row) state
    → IsSlot (role_kinds row) (form_of row) sample vars state
slot_of row infos sample is vars a state proper =
    let roles = roles_of (template_of row).takes in
    let parts = and_parts (length vars == length roles) (list_all (λ (p : Role × VarId). suits p.0 (slice_get infos p.1.0)) (zip roles vars)) a in
    let long = eqb-true (length vars) (length roles) parts.0 in
    let some = some_roles (template_of row).takes in
    let few = few_roles (template_of row).takes in
    record {
      proper = proper;
      some = omega (arith, long, some);
      few = omega (arith, long, few);
      there = are_there infos sample is.kinds roles vars long parts.1;
      tuple = is_tuple infos sample is row vars a;
    }
