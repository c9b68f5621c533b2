-- The parts that are kept of two lists of samples together, from what is kept of each.
use Rattle.std.specs.Prelude.{◌≡◌, ◌<◌, ◌+◌, ℕ, List, Option, None, Some, filter, filter_map, if◌then◌else◌, length, sum_by}
use Rattle.std.specs.Option.{option_map}
use Rattle.dk_base.specs.Values.SameValues.{same_value}
use Rattle.dk_base.specs.declared.kinds.VarId.{VarId}
use Rattle.dk_base.specs.declared.kinds.VarInfo.{VarInfo}
use Rattle.dk_base.specs.declared.values.Value.{Value}
use Rattle.dk_classes.specs.Classes.{IsFirst}
use Rattle.dk_classes.specs.Leaders.{leader_at, own_leaders}
use Rattle.dk_constants.specs.Known.{Entries, known_at}
use Rattle.dk_presence.specs.Patterns.{AreHeld, capped, has, pattern_count, same_vars}
use Rattle.dk_presence.specs.declared.held.Held.{Held}
use Rattle.dk_template.specs.declared.grammar.Grammar.{Grammar}
use Rattle.dk_engine.specs.Feeding.{slots_of}
use Rattle.dk_engine.specs.Reading.Parts.{leader_of}
use Rattle.dk_engine.specs.Saved.{parts_of}
use Rattle.dk_engine.specs.declared.kept.Kept.{Kept}
use Rattle.dk_engine.specs.declared.saved.parts.Parts.{Parts}
use Rattle.dk_join.specs.Joining.{read_joined}

-- ---- classes
-- the variable w has the leader that v has, in both
pub record IsLedAlike (first second : List VarId) (v w : ℕ) : Type 0 where
  pub within : w < length first
  pub first_leader : leader_at first w ≡ leader_at first v
  pub second_leader : leader_at second w ≡ leader_at second v

-- the classes of the variables that agree in both: the leader of each variable is the first of those that are led alike
pub record AreJoinedLeaders (first second leaders : List VarId) : Type 0 where
  pub long : length leaders ≡ length first
  pub each : (v : ℕ) → v < length leaders → IsFirst (IsLedAlike first second v) (leader_at leaders v)

-- ---- patterns
-- The leaders that are present with a pattern of the old ones: each is where its old leader is.
abbrev pub present_with : List VarId → List VarId → List VarId → List VarId
present_with old leaders present = filter (λ v. has present (leader_of old v)) leaders

-- in how many samples exactly these of the leaders are present, by the patterns of the old ones
abbrev pub times_present : List VarId → List VarId → List Held → List VarId → ℕ
times_present old leaders held pattern = sum_by (λ h. if same_vars (present_with old leaders h.leaders) pattern then h.count else 0) held

-- the patterns of both, over the new leaders; the counts of equal ones are added
pub record AreJoinedPatterns (first second : Kept) (leaders : List VarId) (held : List Held) : Type 0 where
  pub form : AreHeld held
  pub counted : (pattern : List VarId)
      → pattern_count held pattern
      ≡ capped (times_present first.leaders leaders first.held pattern + times_present second.leaders leaders second.held pattern)

-- ---- constants
-- the value that is known in both, if it is one
abbrev pub common_value : Option Value → Option Value → Option Value
common_value (Some x) (Some y) = if same_value x y then Some x else None
common_value (Some x) None = None
common_value None other = None

-- what is known of a leader: the value that the leaders of its classes have in both
abbrev pub known_in_both : Kept → Kept → VarId → Option Value
known_in_both first second v =
    common_value (known_at first.known (leader_of first.leaders v)) (known_at second.known (leader_of second.leaders v))

-- the constant leaders, each with its value
abbrev pub joined_known : Kept → Kept → List VarId → Entries
joined_known first second leaders = filter_map (λ v. option_map (λ x. (v, x)) (known_in_both first second v)) leaders

-- ---- all parts
-- The slots are those of the new leaders with the joins of both states: in written order, not all constant, not Broken, and not
-- suppressed where these joins answer.
pub record IsJoinOf (grammar : Grammar) (infos : List VarInfo) (first second kept : Kept) : Type 0 where
  pub number : kept.samples ≡ capped (first.samples + second.samples)
  pub leaders : AreJoinedLeaders first.leaders second.leaders kept.leaders
  pub known : kept.known ≡ joined_known first second (own_leaders kept.leaders)
  pub held : AreJoinedPatterns first second (own_leaders kept.leaders) kept.held
  pub slots : kept.slots ≡ slots_of grammar infos (own_leaders kept.leaders) kept.known (read_joined first second)

-- these parts in the order in which they are saved
pub record AreJoinedParts (grammar : Grammar) (infos : List VarInfo) (first second : Kept) (parts : Parts) : Type 0 where
  pub kept : Kept
  pub joined : IsJoinOf grammar infos first second kept
  pub saved : parts_of kept ≡ parts
