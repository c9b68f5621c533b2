use Rattle.std.proofs.Common.{◌<◌, ◌%◌, pos, ap, sym, ◌∙◌, arith}
use Rattle.dk_forms.specs.declared.states.State.TheVariants.{Modulus}
use Rattle.dk_forms.specs.Modulus.{IsModulusState, class, modulus_state}
use Rattle.dk_forms.proofs.ModulusLaws.{class-mod, class-one, class-proper}
use Rattle.dk_forms.proofs.modulus.class_state.Goals as goal

pub returns-then-m-eq1 : goal.returns-then-m-eq1
returns-then-m-eq1 c = sym (ap modulus_state (ap (λ m. class m (pos c.args.r)) c.if-m-eq1.true ∙ class-one (pos c.args.r)))

pub returns-else-m-eq1 : goal.returns-else-m-eq1
returns-else-m-eq1 c =
    let m = c.args.m in
    let r = c.args.r in
    let some : 0 < m = c.requires in
    let p : IsModulusState (Modulus m (r % m)) = (omega arith, omega arith) in
    sym (class-proper m (r % m) p) ∙ ap modulus_state (class-mod m r some)
