use Rattle.std.specs.Prelude.{◌≡◌, ◌++◌, ◌∷◌, [], ℕ, IsTrue, List, refl}
use Rattle.std.specs.List.{join_with_byte}
use Rattle.std.proofs.Common.{◌∙◌, ap, arith, subst}
use Rattle.std.proofs.lemmas.List.{map-id}
use Rattle.dk_base.specs.Values.Items.{is_text}
use Rattle.dk_base.specs.declared.values.Value.TheVariants.{StrSeq}
use Rattle.dk_forms.specs.declared.states.State.TheVariants.{Texts}
use Rattle.dk_state.specs.Fitting.{FitsState}
use Rattle.dk_state.specs.Lines.{fields_text}
use Rattle.dk_state.specs.Reading.{HasNone, ends_line}
use Rattle.dk_state.proofs.Plain.{joined_plain, text_plain}
use Rattle.dk_state.proofs.StateFields.{fields_joined}
use Rattle.dk_state.proofs.reading_states.texts.Goals as goal

pub returns-clause-read : goal.returns-clause-read
returns-clause-read c ts rest fits is = go ts fits is
  where
    go : (ts : List (List ℕ)) → FitsState (Texts ts) → c.args.front.now ≡ fields_text ts ++ 10 ∷ rest → (c.texts_in.result ≡ Texts ts) × (c.items.new.front ≡ 10 ∷ rest)
    go [] fits is = absurd (omega (arith, fits.0))
    go (t ∷ ts) fits is =
        let joined = join_with_byte 32 (t ∷ ts) in
        let plain : HasNone ends_line joined = subst (λ all. HasNone ends_line (join_with_byte 32 all)) (map-id (t ∷ ts)) (joined_plain (λ s. s) (λ s. IsTrue (is_text s)) text_plain (t ∷ ts) fits.1) in
        let value = c.in_ok-value.ensures.read (StrSeq (t ∷ ts)) joined rest refl fits.1 plain refl (is ∙ ap (λ all. all ++ 10 ∷ rest) (fields_joined t ts)) in
        (c.texts_in.ensures.read (t ∷ ts) fits.0 value.0, value.1)
