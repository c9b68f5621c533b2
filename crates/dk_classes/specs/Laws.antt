-- What the definitions of classes come to.
use Rattle.std.specs.Prelude.{◌≡◌, ◌↔◌, ◌<◌, ℕ, List, length}
use Rattle.dk_base.specs.declared.kinds.Kind.{Kind}
use Rattle.dk_base.specs.declared.kinds.VarId.{VarId}
use Rattle.dk_base.specs.declared.values.Value.{Value}
use Rattle.dk_classes.specs.Classes.{AreLeaders, InClass}
use Rattle.dk_classes.specs.Leaders.{leader_at}

-- the leaders of samples are one list
abbrev pub LeadersAreDetermined : Type 0
LeadersAreDetermined =
    (kinds : List Kind) (samples : List (List Value)) (leaders others : List VarId)
    → AreLeaders kinds samples leaders → AreLeaders kinds samples others → leaders ≡ others

-- two variables have one leader exactly where they are of one class
abbrev pub LeadersTellClasses : Type 0
LeadersTellClasses =
    (kinds : List Kind) (samples : List (List Value)) (leaders : List VarId)
    → AreLeaders kinds samples leaders → (v w : ℕ) → v < length leaders → w < length leaders
    → (leader_at leaders v ≡ leader_at leaders w) ↔ InClass kinds samples v w

-- a variable and its leader are of one class: they are of one kind and agree
abbrev pub LeadersAgree : Type 0
LeadersAgree =
    (kinds : List Kind) (samples : List (List Value)) (leaders : List VarId) → AreLeaders kinds samples leaders
    → (v : ℕ) → v < length leaders → InClass kinds samples v (leader_at leaders v)
