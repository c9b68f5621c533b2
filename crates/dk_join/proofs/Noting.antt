-- What is noted of leaders with equal numbers.
use Rattle.std.specs.Prelude.{◌≡◌, ◌<◌, ◌≤◌, ◌&&◌, ℕ, Bool, true, List, [], ◌∷◌, Option, Some, map, option_map, refl, slice_get}
use Rattle.std.proofs.Common.{◌∙◌, ap, arith, get_or, sym}
use Rattle.std.proofs.lemmas.List.Elements.{All-cons, All-nil}
use Rattle.std.proofs.lemmas.Option.{slice_get-map}
use Rattle.dk_base.specs.declared.kinds.VarId.{VarId}
use Rattle.dk_base.specs.declared.kinds.VarInfo.{VarInfo}
use Rattle.dk_engine.specs.Reading.{state_read}
use Rattle.dk_engine.specs.Reading.Levels.{Whole}
use Rattle.dk_template.proofs.WrittenTuples.{admitted_arity}
use Rattle.dk_template.specs.Admitted.{admits}
use Rattle.dk_template.specs.Fitting.{fits}
use Rattle.dk_template.specs.Premises.{IsUsable, at_role, premise_fits}
use Rattle.dk_template.specs.Templates.{rows, rows_in}
use Rattle.dk_template.specs.declared.answers.Premise.TheVariants.{Holds}
use Rattle.dk_template.specs.declared.grammar.Grammar.{Grammar}
use Rattle.dk_template.specs.declared.grammar.Grammar.TheVariants as grammar
use Rattle.dk_join.specs.Noted.{equal_lines, equal_numbers, equal_row}

-- ---- the premise
there : (g : Grammar) → 11 ≤ rows_in g
there grammar.One = omega arith
there grammar.Two = omega arith

pub equal_usable : (g : Grammar) (infos : List VarInfo) (v w : VarId) → admits equal_row infos (v ∷ w ∷ []) ≡ true → IsUsable g infos (Holds equal_row (0 ∷ 1 ∷ 0 ∷ [])) (v ∷ w ∷ [])
unfolding rows
equal_usable g infos v w admitted = record {
  formed = refl;
  row = (omega arith, there g);
  roles = All-cons (λ role. role < 2) 0 (1 ∷ []) (omega arith) (All-cons (λ role. role < 2) 1 [] (omega arith) (All-nil (λ role. role < 2)));
  admitted = admitted;
}

pub equal_asked : (e : Whole) (roles : List ℕ) (vars : List VarId) → IsUsable e.grammar e.infos (Holds equal_row roles) vars
    → premise_fits (state_read e.kept) (Holds equal_row roles) vars ≡ equal_numbers e (at_role (get_or roles 0 0) vars) (at_role (get_or roles 1 0) vars)
unfolding rows
equal_asked e [] vars usable = let long = admitted_arity equal_row e.infos [] usable.admitted in absurd (omega (arith, long))
equal_asked e (a ∷ []) vars usable = let long = admitted_arity equal_row e.infos (at_role a vars ∷ []) usable.admitted in absurd (omega (arith, long))
equal_asked e (a ∷ b ∷ rest) vars usable = ap (λ k. k && fits (state_read e.kept equal_row (at_role a vars ∷ at_role b vars ∷ []))) (sym usable.admitted)

-- ---- looking up
pub mapped : {X Y : Type 0} (f : X → Y) (xs : List X) (k : ℕ) (x : X) → slice_get xs k ≡ Some x → slice_get (map f xs) k ≡ Some (f x)
mapped f xs k x is = slice_get-map f xs k ∙ ap (option_map f) is

pub noted_at : (e : Whole) (leaders : List VarId) (lines : List (List Bool)) → lines ≡ equal_lines e leaders leaders → (i j : ℕ) (v w : VarId) (line : List Bool) (b : Bool)
    → slice_get leaders i ≡ Some v → slice_get leaders j ≡ Some w → slice_get lines i ≡ Some line → slice_get line j ≡ Some b → b ≡ equal_numbers e v w
noted_at e leaders lines are i j v w line b first second here there =
    let own : ◌≡◌ {A = Option (List Bool)} (Some line) (Some (map (λ (u : VarId). equal_numbers e v u) leaders)) =
    sym here ∙ (ap (λ ls. slice_get ls i) are ∙ mapped (λ v. map (λ w. equal_numbers e v w) leaders) leaders i v first) in
    let same : line ≡ map (λ (u : VarId). equal_numbers e v u) leaders = cc own in
    let told : ◌≡◌ {A = Option Bool} (Some b) (Some (equal_numbers e v w)) = sym there ∙ (ap (λ l. slice_get l j) same ∙ mapped (λ (u : VarId). equal_numbers e v u) leaders j w second) in
    cc told
