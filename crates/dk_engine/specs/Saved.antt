-- The kept parts in the order in which they are saved.
pub mod Bitmaps
pub mod Conditions
pub mod Restored
use Rattle.std.specs.Prelude.{◌≡◌, ◌≤◌, ◌^◌, List}
use Rattle.dk_base.specs.declared.kinds.VarInfo.{VarInfo}
use Rattle.dk_classes.specs.Leaders.{own_leaders}
use Rattle.dk_snapshot.specs.Classes.{classes_of}
use Rattle.dk_snapshot.specs.Entries.{all_known_of}
use Rattle.dk_snapshot.specs.Patterns.{patterns_of}
use Rattle.dk_template.specs.declared.grammar.Grammar.{Grammar}
use Rattle.dk_engine.specs.Saved.Conditions.{AreParts}
use Rattle.dk_engine.specs.declared.kept.Kept.{Kept}
use Rattle.dk_engine.specs.declared.saved.parts.Parts.{Parts}

-- the members of each class, by its leader; the patterns, ascending; the constants, by leader; and the slots
abbrev pub parts_of : Kept → Parts
parts_of kept = record {
  samples = kept.samples;
  classes = classes_of kept.leaders;
  patterns = patterns_of (own_leaders kept.leaders) kept.held;
  known = all_known_of kept.known;
  slots = kept.slots;
}

-- parts of some kept parts that meet the conditions, and of 1 to 2^40 samples
pub record AreSavedParts (grammar : Grammar) (infos : List VarInfo) (parts : Parts) : Type 0 where
  pub kept : Kept
  pub meets : AreParts grammar infos kept
  pub some : 1 ≤ parts.samples
  pub few : parts.samples ≤ 2 ^ 40
  pub saved : parts_of kept ≡ parts
