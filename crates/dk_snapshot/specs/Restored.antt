-- Parts that are read back from the order in which they are saved.
use Rattle.std.specs.Prelude.{◌≡◌, ◌<◌, ◌+◌, ℕ, Bool, true, All, Contains, List, [], ◌∷◌, length, slice_index_or, slice_set, if◌then◌else◌}
use Rattle.std.specs.Cmp.Lexicographic.{slice_cmp}
use Rattle.std.specs.Ordering.{bool_cmp, is_lt}
use Rattle.dk_base.specs.declared.kinds.VarId.{VarId}
use Rattle.dk_base.specs.declared.values.Value.{Value}
use Rattle.dk_classes.specs.Leaders.{AreClasses}
use Rattle.dk_constants.specs.Known.{Entries, EntriesAscend}
use Rattle.dk_presence.specs.Patterns.{AreHeld}
use Rattle.dk_presence.specs.declared.held.Held.{Held}
use Rattle.dk_snapshot.specs.Classes.{classes_of}
use Rattle.dk_snapshot.specs.Entries.{all_known_of}
use Rattle.dk_snapshot.specs.Patterns.{patterns_of}
use Rattle.dk_snapshot.specs.declared.known.Known.{Known}
use Rattle.dk_snapshot.specs.declared.pattern.Pattern.{Pattern}

-- ---- what is saved like that
-- leaders of so many variables, of which the classes have these members
pub record HaveMembers (count : ℕ) (classes : List (List VarId)) (leaders : List VarId) : Type 0 where
  pub lawful : AreClasses leaders
  pub long : length leaders ≡ count
  pub saved : classes_of leaders ≡ classes

-- patterns over these leaders, which are saved as these
pub record HavePatterns (leaders : List VarId) (patterns : List Pattern) (held : List Held) : Type 0 where
  pub form : AreHeld held
  pub lead : All (λ h. All (Contains leaders) h.leaders) held
  pub saved : patterns_of leaders held ≡ patterns

-- entries that ascend, and are saved as these constants
abbrev pub HaveEntries : List Known → Entries → Type 0
HaveEntries known entries = EntriesAscend entries × (all_known_of entries ≡ known)

-- its truth values are less than those of the other, by the leaders in order
abbrev pub is_before : Pattern → Pattern → Bool
is_before p q = is_lt (slice_cmp bool_cmp p.present q.present)

-- each pattern is before the next one
abbrev pub Rise : List Pattern → Type 0
Rise patterns = (i : ℕ) (d : Pattern) → i + 1 < length patterns → is_before (slice_index_or patterns i d) (slice_index_or patterns (i + 1) d) ≡ true

-- patterns of some samples each, over so many leaders, in the order in which they are saved
pub record AreInOrder (count : ℕ) (patterns : List Pattern) : Type 0 where
  pub some : All (λ p. 0 < p.count) patterns
  pub full : All (λ p. length p.present ≡ count) patterns
  pub rise : Rise patterns

-- ---- how they are read back
-- these members get this leader
abbrev pub led_by : VarId → List VarId → List VarId → List VarId
led_by leader [] heads = heads
led_by leader (m ∷ members) heads = led_by leader members (slice_set heads m.0 leader)

-- the members get the first of them as their leader
abbrev pub led : List VarId → List VarId → List VarId
led [] heads = heads
led (m ∷ members) heads = led_by m (m ∷ members) heads

-- so do the members of each class
abbrev pub heads_of : List (List VarId) → List VarId → List VarId
heads_of [] heads = heads
heads_of (class ∷ classes) heads = heads_of classes (led class heads)

-- the leaders at whose places the truth values are true
abbrev pub chosen_leaders : List VarId → List Bool → List VarId
chosen_leaders [] truths = []
chosen_leaders (v ∷ leaders) [] = []
chosen_leaders (v ∷ leaders) (t ∷ truths) = if t then v ∷ chosen_leaders leaders truths else chosen_leaders leaders truths

abbrev pub held_of : List VarId → Pattern → Held
held_of leaders p = record { count = p.count; leaders = chosen_leaders leaders p.present }

abbrev pub entry_of : Known → VarId × Value
entry_of k = (k.leader, k.value)
