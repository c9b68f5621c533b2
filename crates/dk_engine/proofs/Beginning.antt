-- What is kept of no samples.
use Rattle.std.specs.Prelude.{◌≡◌, ◌<◌, List, [], refl}
use Rattle.std.specs.List.{IsDistinct}
use Rattle.std.proofs.Common.{ap, ◌∙◌, arith}
use Rattle.std.proofs.lemmas.List.Elements.{All-nil}
use Rattle.dk_base.specs.declared.kinds.VarId.{VarId}
use Rattle.dk_base.specs.declared.kinds.VarInfo.{VarInfo}
use Rattle.dk_classes.specs.Classes.{AreLeaders, var_kinds}
use Rattle.dk_classes.specs.Leaders.{own_leaders}
use Rattle.dk_constants.proofs.Determined.{no_samples_have_none}
use Rattle.dk_constants.specs.Known.{Entries}
use Rattle.dk_presence.specs.Patterns.{held_patterns, same_vars}
use Rattle.dk_presence.specs.declared.held.Held.{Held}
use Rattle.dk_samples.specs.Leaders.{VarsAscend}
use Rattle.dk_template.specs.declared.grammar.Grammar.{Grammar}
use Rattle.dk_engine.specs.Exact.{IsKeptOf}
use Rattle.dk_engine.specs.declared.kept.Kept.{Kept}
use Rattle.dk_engine.specs.declared.slots.slot.Slot.{Slot}

abbrev parts : List VarId → Entries → List Held → List Slot → Kept
parts leaders known held slots = record { samples = 0; leaders = leaders; known = known; held = held; slots = slots }

abbrev pub nothing : List VarId → Kept
nothing leaders = parts leaders [] [] []

pub is_nothing : (leaders : List VarId) (known : Entries) (held : List Held) (slots : List Slot) → known ≡ [] → held ≡ [] → slots ≡ [] → parts leaders known held slots ≡ nothing leaders
is_nothing leaders known held slots a b c = ap (λ k. parts leaders k held slots) a ∙ (ap (λ h. parts leaders [] h slots) b ∙ ap (λ s. parts leaders [] [] s) c)

none_twice : IsDistinct same_vars (held_patterns [])
unfolding IsDistinct
none_twice = tt

-- one class for each kind, and nothing else
pub nothing_kept : (g : Grammar) (infos : List VarInfo) (leaders : List VarId) → AreLeaders (var_kinds infos) [] leaders → IsKeptOf g infos [] (nothing leaders)
nothing_kept g infos leaders are = record {
  number = refl;
  leaders = are;
  known = (no_samples_have_none (own_leaders leaders) []).1 refl;
  held = record {
    form = record { once = none_twice; some = All-nil (λ (h : Held). 0 < h.count); ascend = All-nil (λ (h : Held). VarsAscend h.leaders) };
    counted = λ p. refl;
  };
  slots = record {
    ascend = λ i j d l m. absurd (omega (arith, m));
    each = λ s. (λ h. absurd (omega (arith, h.1)), λ h. let l = h.some in absurd (omega (arith, l)));
  };
}
