-- The test of two values decides whether they are one.
use Rattle.std.proofs.Common.{◌≡◌, Bool, true, false, Decides, refl, ap, subst}
use Rattle.std.specs.Bool.{beq}
use Rattle.std.specs.Cmp.Lexicographic.{bytes_decides, pointwise_decides}
use Rattle.std.proofs.lemmas.Bool.Decides.{Decides-int_eq, Decides-eqb, same_from_decides}
use Rattle.std.specs.Bool.{IsTrue}
use Rattle.dk_base.specs.declared.values.Value.{Value}
use Rattle.dk_base.specs.declared.values.Value.TheVariants as value
use Rattle.dk_base.specs.Values.SameValues.{same_value}

pub beq_decides : (a b : Bool) → Decides (beq a b) (a ≡ b)
beq_decides true true = (λ h. refl, λ h. refl)
beq_decides true false = (λ h. cc, λ h. cc)
beq_decides false true = (λ h. cc, λ h. cc)
beq_decides false false = (λ h. refl, λ h. refl)

value-same : (a b : Value) → same_value a b ≡ true → a ≡ b
value-same value.Missing value.Missing h = refl
value-same (value.Bool a) (value.Bool b) h = ap (λ x. value.Bool x) ((beq_decides a b).0 h)
value-same (value.Int a) (value.Int b) h = ap (λ x. value.Int x) ((Decides-int_eq a b).0 h)
value-same (value.Hash a) (value.Hash b) h = ap (λ x. value.Hash x) ((Decides-eqb a b).0 h)
value-same (value.Str a) (value.Str b) h = ap (λ x. value.Str x) ((bytes_decides a b).0 h)
value-same (value.BoolSeq a) (value.BoolSeq b) h = ap (λ x. value.BoolSeq x) ((pointwise_decides beq_decides a b).0 h)
value-same (value.IntSeq a) (value.IntSeq b) h = ap (λ x. value.IntSeq x) ((pointwise_decides Decides-int_eq a b).0 h)
value-same (value.HashSeq a) (value.HashSeq b) h = ap (λ x. value.HashSeq x) ((bytes_decides a b).0 h)
value-same (value.StrSeq a) (value.StrSeq b) h = ap (λ x. value.StrSeq x) ((pointwise_decides bytes_decides a b).0 h)
value-same _ _ h = cc

value-itself : (a : Value) → same_value a a ≡ true
value-itself value.Missing = refl
value-itself (value.Bool a) = (beq_decides a a).1 refl
value-itself (value.Int a) = (Decides-int_eq a a).1 refl
value-itself (value.Hash a) = (Decides-eqb a a).1 refl
value-itself (value.Str a) = (bytes_decides a a).1 refl
value-itself (value.BoolSeq a) = (pointwise_decides beq_decides a a).1 refl
value-itself (value.IntSeq a) = (pointwise_decides Decides-int_eq a a).1 refl
value-itself (value.HashSeq a) = (bytes_decides a a).1 refl
value-itself (value.StrSeq a) = (pointwise_decides bytes_decides a a).1 refl

pub same_value-decides : (a b : Value) → Decides (same_value a b) (a ≡ b)
same_value-decides a b = (value-same a b, λ e. subst (λ x. same_value a x ≡ true) e (value-itself a))

-- a test that tells whether two values are one is this test
pub value_test : (t : Bool) (a b : Value) → (IsTrue t → a ≡ b) × (a ≡ b → IsTrue t) → t ≡ same_value a b
value_test t a b tells = same_from_decides t (same_value a b) tells (same_value-decides a b)
