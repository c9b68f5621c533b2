use Rattle.std.proofs.Common.{◌≡◌, pos, ap, sym, ◌∙◌, w64}
use Rattle.std.proofs.lemmas.Bool.{eqb-true}
use Rattle.std.proofs.lemmas.Int.{to_z-of_z}
use Rattle.dk_forms.specs.Modulus.{remainder}
use Rattle.dk_forms.proofs.ModulusLaws.{join-value_within}
use Rattle.dk_forms.proofs.modulus.has_value.Goals as goal

pub returns : goal.returns
returns c = λ equal.
    let m = c.args.m in let r = c.args.r in let w = c.args.w in
    let left : pos c.remainder_of.result ≡ remainder m w = c.remainder_of.ensures ∙ ap (remainder m) (to_z-of_z w64 w c.ranges.w) in
    join-value_within m r w c.requires (sym left ∙ ap pos (eqb-true c.remainder_of.result r equal))
