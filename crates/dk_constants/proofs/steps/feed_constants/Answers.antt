use Rattle.std.proofs.Common.{◌≡◌, ap, sym, subst, ◌∙◌, [], refl, arith}
use Rattle.std.specs.List.{All}
use Rattle.std.specs.Option.{option_or}
use Rattle.std.proofs.lemmas.Grind.{common_steps}
use Rattle.dk_base.specs.Values.{values_of}
use Rattle.dk_base.specs.declared.kinds.VarId.{VarId}
use Rattle.dk_base.specs.declared.values.Value.{Value}
use Rattle.dk_samples.specs.Samples.{value_in}
use Rattle.dk_constants.specs.Known.{born_of, known_at}
use Rattle.dk_constants.specs.Constants.{AreFed}
use Rattle.dk_constants.proofs.Feeding.{fed_parted, fed_quiet}
use Rattle.dk_constants.proofs.steps.feed_constants.Goals as goal

pub returns-then-are_still : goal.returns-then-are_still
returns-then-are_still c =
    let known = c.args.known.items in
    let new = c.args.new.now in
    let empty : c.in_ok-born.born.items ≡ [] = grind (arith, common_steps) in
    let born : c.in_ok-born.born.items ≡ born_of known new = c.in_ok-born.ensures ∙ ap (λ ks. born_of ks new) c.as_slice.ensures.value in
    let Has : VarId × Value → Type 0 = λ k. value_in (values_of c.args.sample.now) k.0 ≡ k.1 in
    let still : All Has known = subst (All Has) c.as_slice-then-is_empty.ensures.value (c.if-are_still.ensures.0 refl) in
    subst (AreFed known new (values_of c.args.sample.now) known) (sym c.new.ensures)
    (fed_quiet known new (values_of c.args.sample.now) c.requires.differ c.requires.unknown c.requires.ascend (sym born ∙ empty) still)

pub returns : goal.returns
returns c =
    let known = c.args.known.items in
    let new = c.args.new.now in
    let born : c.in_ok-born.born.items ≡ born_of known new = c.in_ok-born.ensures ∙ ap (λ ks. born_of ks new) c.as_slice.ensures.value in
    fed_parted known new (values_of c.args.sample.now) c.requires.differ c.requires.unknown c.in_ok-all.all.items c.in_ok-still.still.items c.in_ok-still.ended
    c.in_ok-all.ensures.ascend (λ v. c.in_ok-all.ensures.known v ∙ ap (λ b. option_or (known_at known v) (known_at b v)) born) c.in_ok-still.ensures
