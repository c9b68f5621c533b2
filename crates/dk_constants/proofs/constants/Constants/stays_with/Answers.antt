use Rattle.std.proofs.Common.{◌≡◌, ◌∙◌, [], get_or, subst, sym, refl, arith}
use Rattle.std.specs.List.{All}
use Rattle.std.proofs.lemmas.List.Elements.{Contains-get_or}
use Rattle.dk_base.specs.Values.{values_of}
use Rattle.dk_base.specs.declared.values.Value.{Value}
use Rattle.dk_base.specs.declared.kinds.VarId.{VarId}
use Rattle.dk_samples.specs.Samples.{value_in}
use Rattle.dk_constants.specs.Known.{EntriesAscend}
use Rattle.dk_constants.proofs.Determined.{entry_found}
use Rattle.dk_constants.proofs.Feeding.{fed_quiet}
use Rattle.dk_constants.proofs.constants.Constants.stays_with.Goals as goal

pub returns : goal.returns
returns c =
    let known = c.args.self.now in
    let sample = values_of c.args.sample.now in
    let Has : VarId × Value → Type 0 = λ k. value_in sample k.0 ≡ k.1 in
    let whole = c.as_slice.ensures.value ∙ c.self.view_is in
    let up = subst EntriesAscend c.self.view_is c.self.invariant in (
      λ still. fed_quiet known [] sample (λ i j d l m. absurd (omega (arith, m))) (λ k d l. absurd (omega (arith, l))) up refl (subst (All Has) whole (c.are_still.ensures.0 still)),
      λ fed. c.are_still.ensures.1 (subst (All Has) (sym whole) (λ k d l.
          let e = get_or known k d in
          (fed.stays e.0 e.1 (entry_found known up e.0 e.1 (Contains-get_or known k d l))).1)),
    )
