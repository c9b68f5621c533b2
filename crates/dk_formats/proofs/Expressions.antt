-- What a line says as an expression.
use Rattle.std.proofs.Common.{◌≡◌, ℕ, List, Option, Some, Result, IfOk, subst, sym}
use Rattle.dk_base.specs.declared.kinds.VarId.{VarId}
use Rattle.dk_base.specs.declared.kinds.VarInfo.{VarInfo}
use Rattle.dk_base.specs.declared.memory.NoMemory.{NoMemory}
use Rattle.dk_expr.specs.declared.assertions.Assertion.{Assertion}
use Rattle.dk_languages.specs.Bases.{bases}
use Rattle.dk_languages.specs.Tellings.{telling}
use Rattle.dk_languages.specs.declared.languages.Language.{Language}
use Rattle.dk_languages.specs.declared.variables.Base.{Base}
use Rattle.dk_formats.specs.Telling.{expression_of}

-- with the variables as they are told, and those of the assertion
pub expressed : (l : Language) (infos : List VarInfo) (told : List Base) (a : Assertion) (vars : List VarId) (says : Option Assertion)
    (r : Result (Option (List ℕ)) NoMemory) → told ≡ bases l infos → vars ≡ a.vars → says ≡ Some a
    → IfOk r (λ expression. expression ≡ telling l infos told a.row vars a.state) → IfOk r (λ expression. expression ≡ expression_of l infos says)
expressed l infos told a vars says r told_is vars_are says_is said =
    subst (λ (s : Option Assertion). IfOk r (λ expression. expression ≡ expression_of l infos s)) (sym says_is)
    (subst (λ (vs : List VarId). IfOk r (λ expression. expression ≡ telling l infos (bases l infos) a.row vs a.state)) vars_are
    (subst (λ (bs : List Base). IfOk r (λ expression. expression ≡ telling l infos bs a.row vars a.state)) told_is said))
