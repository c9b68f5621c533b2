use Rattle.std.specs.Prelude.{◌≡◌, ◌++◌, ◌∷◌, [], ℤ, IsTrue, List, map, refl}
use Rattle.std.specs.Fmt.{signed_decimal}
use Rattle.std.specs.List.{join_with_byte}
use Rattle.std.proofs.Common.{◌∙◌, ap, arith}
use Rattle.dk_base.specs.Numbers.{fits_i64}
use Rattle.dk_base.specs.declared.values.Value.TheVariants.{IntSeq}
use Rattle.dk_forms.specs.declared.states.State.TheVariants.{Ints}
use Rattle.dk_state.specs.Fitting.{FitsState}
use Rattle.dk_state.specs.Lines.{fields_text}
use Rattle.dk_state.proofs.Plain.{int_plain, joined_plain}
use Rattle.dk_state.proofs.StateFields.{fields_joined}
use Rattle.dk_state.proofs.reading_states.ints.Goals as goal

pub returns-clause-read : goal.returns-clause-read
returns-clause-read c ks rest fits is = go ks fits is
  where
    go : (ks : List ℤ) → FitsState (Ints ks) → c.args.front.now ≡ fields_text (map signed_decimal ks) ++ 10 ∷ rest
        → (c.ints_in.result ≡ Ints ks) × (c.items.new.front ≡ 10 ∷ rest)
    go [] fits is = absurd (omega (arith, fits.0))
    go (k ∷ ks) fits is =
        let joined = join_with_byte 32 (map signed_decimal (k ∷ ks)) in
        let plain = joined_plain signed_decimal (λ z. IsTrue (fits_i64 z)) int_plain (k ∷ ks) fits.2 in
        let value = c.in_ok-value.ensures.read (IntSeq (k ∷ ks)) joined rest refl fits.2 plain refl (is ∙ ap (λ t. t ++ 10 ∷ rest) (fields_joined (signed_decimal k) (map signed_decimal ks))) in
        (c.ints_in.ensures.read (k ∷ ks) fits.0 fits.1 value.0, value.1)
