-- Variables and samples of whole numbers can be fed.
use Rattle.std.specs.Prelude.{◌≡◌, ◌<◌, ◌^◌, true, All, List, [], ◌∷◌, length, refl}
use Rattle.std.specs.List.{AllZip}
use Rattle.std.proofs.Common.{arith, subst, sym}
use Rattle.std.proofs.lemmas.List.Elements.{All-head, All-tail, All-weaker}
use Rattle.dk_base.specs.Shapes.{is_base_form}
use Rattle.dk_base.specs.Values.{IsOfKind}
use Rattle.dk_base.specs.Values.Spelling.{IsWritten}
use Rattle.dk_base.specs.declared.kinds.VarInfo.{VarInfo}
use Rattle.dk_base.specs.declared.values.Value.{Value}
use Rattle.dk_base.specs.declared.values.Value.TheVariants as value
use Rattle.dk_instances.specs.Laws.{IsSample}
use Rattle.dk_engine.specs.Exact.{AreOfPoint}
use Rattle.dk_engine.specs.Numbers.{IsNumber, IsNumberValue}

pub numbers_of_point : (infos : List VarInfo) → All IsNumber infos → length infos < 2 ^ 32 → AreOfPoint infos
numbers_of_point infos all few = record {
  few = few;
  base_first = λ i j d l m base. subst (λ f. is_base_form f ≡ true) (sym (all i d (omega (arith, l, m))).form) refl;
}

written : (x : Value) → IsNumberValue x → IsWritten x
written value.Missing is = tt
written (value.Int z) is = is
written _ is = absurd is

of_kind : (info : VarInfo) (x : Value) → IsNumber info → IsNumberValue x → IsOfKind info.kind x
of_kind info value.Missing is number = tt
of_kind info (value.Int z) is number = sym is.kind
of_kind info _ is number = absurd number

zipped : (infos : List VarInfo) (xs : List Value) → All IsNumber infos → All IsNumberValue xs → length xs ≡ length infos → AllZip (λ (info : VarInfo) x. IsOfKind info.kind x) infos xs
zipped [] [] all numbers e = tt
zipped [] (x ∷ xs) all numbers e = absurd (omega (arith, e))
zipped (info ∷ infos) [] all numbers e = absurd (omega (arith, e))
zipped (info ∷ infos) (x ∷ xs) all numbers e =
    (of_kind info x (All-head IsNumber info infos all) (All-head IsNumberValue x xs numbers), zipped infos xs (All-tail IsNumber info infos all) (All-tail IsNumberValue x xs numbers) (omega (arith, e)))

pub numbers_sample : (infos : List VarInfo) (xs : List Value) → All IsNumber infos → All IsNumberValue xs → length xs ≡ length infos → IsSample infos xs
numbers_sample infos xs all numbers e = record { kinds = zipped infos xs all numbers e; written = All-weaker IsNumberValue IsWritten written xs numbers }
