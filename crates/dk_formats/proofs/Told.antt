-- Reports that are told section by section.
use Rattle.std.proofs.Common.{◌≡◌, ℕ, List, Result, IfOk, subst, sym}
use Rattle.std.proofs.lemmas.Result.{IfOk-weaker}
use Rattle.dk_base.specs.declared.memory.NoMemory.{NoMemory}
use Rattle.dk_claims.specs.declared.sections.Section.{Section}
use Rattle.dk_languages.specs.declared.languages.Language.{Language}
use Rattle.dk_points.specs.Table.{Point}
use Rattle.dk_formats.specs.Steps.{AreTold}
use Rattle.dk_formats.specs.Telling.{IsTold}
use Rattle.dk_formats.specs.declared.formats.Format.{Format}
use Rattle.dk_formats.specs.declared.formats.Format.TheVariants as format
use Rattle.dk_formats.specs.declared.formats.Sectioned.TheVariants as sectioned

pub json_told : (f : Format) (sections : List Section) (ps : List Point) (r : Result (List ℕ) NoMemory) → f ≡ format.Json
    → IfOk r (AreTold sectioned.Json sections ps) → IfOk r (IsTold f sections ps)
json_told f sections ps r is told =
    subst (λ (g : Format). IfOk r (IsTold g sections ps)) (sym is)
    (IfOk-weaker r (AreTold sectioned.Json sections ps) (IsTold format.Json sections ps)
    (λ text t. record { said = t.said; are_said = t.are_said; is_text = t.is_text }) told)

pub in_language_told : (f : Format) (l : Language) (sections : List Section) (ps : List Point) (r : Result (List ℕ) NoMemory) → f ≡ format.In l
    → IfOk r (AreTold (sectioned.In l) sections ps) → IfOk r (IsTold f sections ps)
in_language_told f l sections ps r is told =
    subst (λ (g : Format). IfOk r (IsTold g sections ps)) (sym is)
    (IfOk-weaker r (AreTold (sectioned.In l) sections ps) (IsTold (format.In l) sections ps)
    (λ text t. record { said = t.said; are_said = t.are_said; is_text = t.is_text }) told)
