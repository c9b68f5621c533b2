use Rattle.std.specs.Prelude.{refl}
use Rattle.std.proofs.Common.{arith}
use Rattle.dk_template.specs.declared.grammar.Grammar.TheVariants.{One, Two}
use Rattle.dk_state.proofs.loading.grammar_of.Goals as goal

pub returns-then-version-eq1 : goal.returns-then-version-eq1
returns-then-version-eq1 c One is = refl
returns-then-version-eq1 c Two is = absurd (omega (arith, is, c.if-version-eq1.true))

pub returns-else-version-eq1 : goal.returns-else-version-eq1
returns-else-version-eq1 c One is = absurd (omega (arith, is, c.if-version-eq1.false))
returns-else-version-eq1 c Two is = refl
