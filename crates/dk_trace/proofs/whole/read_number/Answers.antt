use Rattle.std.proofs.Common.{◌≡◌, ℤ, Option, Some, sym, subst, to_z, of_z, w64, SFits, rules}
use Rattle.std.proofs.lemmas.Int.{to_z-of_z}
use Rattle.dk_base.specs.declared.kinds.Kind.{Kind}
use Rattle.dk_base.specs.declared.kinds.Kind.TheVariants as kind
use Rattle.dk_base.specs.declared.values.View.TheVariants as view
use Rattle.dk_trace.specs.Whole.{NumberStands, TextStands}
use Rattle.dk_trace.specs.declared.marks.Unmarked.TheVariants as unmarked
use Rattle.dk_trace.proofs.InPlace.{text_of_number}
use Rattle.dk_trace.proofs.whole.read_number.Goals as goal

pub returns-in-Some : goal.returns-in-Some
returns-in-Some c =
    let is : c.args.kind ≡ Some kind.Int = search rules in
    let fits : SFits w64 c.in-Some.number = search rules in
    let number : ℤ = to_z w64 (of_z w64 c.in-Some.number) in
    subst (λ (k : Option Kind). TextStands k c.args.bytes.now (unmarked.Value (view.Int number)) c.in-Some.rest.now) (sym is)
    (text_of_number c.args.bytes.now c.in-Some.rest.now number (subst (λ (z : ℤ). NumberStands c.args.bytes.now z c.in-Some.rest.now) (sym (to_z-of_z w64 c.in-Some.number fits)) c.in-Some.ensures))
