use Rattle.std.specs.Prelude.{◌++◌, ◌∷◌, unwrap_or}
use Rattle.std.proofs.Common.{subst, sym}
use Rattle.dk_base.specs.Values.Spelling.{spelling}
use Rattle.dk_base.specs.declared.values.Value.TheVariants.{Missing}
use Rattle.dk_state.specs.Fitting.{FitsConstant}
use Rattle.dk_state.specs.Lines.{behind_blank}
use Rattle.dk_state.proofs.DeclaredLines.{with_constant, without_constant}
use Rattle.dk_state.proofs.reading.constant.Goals as goal

pub returns-then-not-is_at-clause-read : goal.returns-then-not-is_at-clause-read
returns-then-not-is_at-clause-read c line value rest fits none is =
    without_constant line c.args.kind value rest c.args.front.now fits c.if-not-is_at.ensures.begins is

pub returns-clause-read : goal.returns-clause-read
returns-clause-read c line value rest fits none is =
    let k = c.args.kind in
    let found = with_constant line k value rest c.args.front.now none c.if-not-is_at.ensures.begins is in
    let passed = c.pass.ensures.read (behind_blank (spelling (unwrap_or value Missing)) ++ 10 ∷ rest) found.1 in
    let own = c.in_ok-value.ensures.read value rest (subst (λ there. FitsConstant there k value) found.0 fits) passed in
    let comes = sym found.0 in
    ((λ i. (comes i, own.0 i)), c.pass-2.ensures.read rest own.1)
