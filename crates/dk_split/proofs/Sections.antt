-- The section of a point.
use Rattle.std.proofs.Common.{◌≡◌, ◌∙◌, ◌++◌, ℕ, Bool, true, false, List, [], ◌∷◌, length, slice_get, slice_index_or, Some, Result, Ok, Err, IfOk, OnOk, if◌then◌else◌, ap, arith, refl, sym}
use Rattle.std.proofs.lemmas.List.{append-nil, length-map}
use Rattle.dk_base.specs.Pieces.{is_empty}
use Rattle.dk_base.specs.declared.kinds.VarInfo.{VarInfo}
use Rattle.dk_base.specs.declared.values.Value.{Value}
use Rattle.dk_derive.specs.Values.{values_by_form}
use Rattle.dk_implications.specs.Reports.{implications_at, implications_text}
use Rattle.dk_implications.specs.Standing.{Engines, StandFor}
use Rattle.dk_hierarchy.specs.Samples.{OwnSamples, all_vars_of, own_samples_of}
use Rattle.dk_points.specs.Table.{Point, names}
use Rattle.dk_presence.specs.Patterns.{capped}
use Rattle.dk_report.proofs.Stated.{name_at}
use Rattle.dk_report.specs.Reports.{name_in_table}
use Rattle.dk_template.specs.declared.grammar.Grammar.{Grammar}
use Rattle.dk_template.specs.declared.grammar.Grammar.TheVariants.{Two}

-- what holds where a call succeeds
pub on_ok : {A E : Type 0} (r : Result A E) (P Q : Type 0) → (P → Q) → OnOk r P → OnOk r Q
on_ok (Ok x) P Q f h = f h
on_ok (Err e) P Q f h = tt

pub if_on : {A E : Type 0} (r : Result A E) (P Q : Type 0) → (P → Q) → IfOk r (λ _. P) → OnOk r Q
if_on (Ok x) P Q f h = f h
if_on (Err e) P Q f h = tt

-- ---- samples
none_of : (own : List (List Value)) (n : ℕ) → n ≡ capped (length own) → n ≡ 0 → is_empty own ≡ true
none_of [] n number nil = refl
none_of (x ∷ xs) n number nil = absurd (omega (arith, number, nil))

some_of : (own : List (List Value)) (n : ℕ) → n ≡ capped (length own) → (n ≡ 0 → ⊥) → is_empty own ≡ false
some_of [] n number some = absurd (some number)
some_of (x ∷ xs) n number some = refl

module _ (ps : List Point) (samples : OwnSamples) (p : ℕ) (split : Engines) (least : ℕ) (stands : StandFor split (own_samples_of ps samples p)) where
  abbrev own : List (List Value)
  own = slice_index_or samples p []

  number : split.whole.kept.samples ≡ capped (length own)
  number = stands.whole.kept_is.number ∙ ap capped (length-map own (values_by_form (all_vars_of ps p)))

  -- a point without own samples has none
  pub none_written : (text : List ℕ) → split.whole.kept.samples ≡ 0 → text ≡ text ++ implications_at Two least ps samples p
  unfolding implications_at
  none_written text nil = sym (ap (λ (b : Bool). text ++ (if b then [] else implications_text Two least (name_in_table ps p) (all_vars_of ps p) (own_samples_of ps samples p))) (none_of own split.whole.kept.samples number nil)
      ∙ append-nil text)

  pub some_written : (name : List ℕ) → (split.whole.kept.samples ≡ 0 → ⊥) → slice_get (names ps) p ≡ Some name → split.whole.grammar ≡ Two → split.whole.infos ≡ all_vars_of ps p
      → implications_text split.whole.grammar least name split.whole.infos (own_samples_of ps samples p) ≡ implications_at Two least ps samples p
  unfolding implications_at
  some_written name some named grammar infos =
      ap (λ (g : Grammar). implications_text g least name split.whole.infos (own_samples_of ps samples p)) grammar
      ∙ ap (λ (n : List ℕ). implications_text Two least n split.whole.infos (own_samples_of ps samples p)) (sym (name_at (names ps) p name named))
      ∙ ap (λ (vars : List VarInfo). implications_text Two least (name_in_table ps p) vars (own_samples_of ps samples p)) infos
      ∙ sym (ap (λ (b : Bool). if b then [] else implications_text Two least (name_in_table ps p) (all_vars_of ps p) (own_samples_of ps samples p)) (some_of own split.whole.kept.samples number some))
