-- What the definitions of patterns come to.
use Rattle.std.specs.Prelude.{◌↔◌, Contains, List}
use Rattle.dk_base.specs.declared.kinds.VarId.{VarId}
use Rattle.dk_presence.specs.Patterns.{AreCounted, AreHeld}
use Rattle.dk_presence.specs.declared.held.Held.{Held}

-- patterns with their counts are determined, but for their order
abbrev pub PatternsAreDetermined : Type 0
PatternsAreDetermined =
    (patterns : List (List VarId)) (held others : List Held) → AreHeld held → AreHeld others
    → AreCounted patterns held → AreCounted patterns others → (h : Held) → Contains held h ↔ Contains others h
