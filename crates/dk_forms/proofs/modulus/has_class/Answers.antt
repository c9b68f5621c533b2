use Rattle.std.proofs.Common.{◌%◌}
use Rattle.std.proofs.lemmas.Bool.{eqb-true}
use Rattle.dk_forms.proofs.ModulusLaws.{join-class_within}
use Rattle.dk_forms.proofs.modulus.has_class.Goals as goal

pub returns-then-n-m-eq0 : goal.returns-then-n-m-eq0
returns-then-n-m-eq0 c = λ equal.
    let m = c.args.m in let r = c.args.r in let s = c.args.s in
    join-class_within m r c.args.n s c.requires c.if-n-m-eq0.true (eqb-true (s % m) r equal)
