-- What the outside tells at a moment.
use Rattle.std.specs.Prelude.{ℕ, List, Option}
use Rattle.dk_io.specs.Outside.{HeldFile, Rose}
use Rattle.dk_io.specs.Streams.{Texts}

-- What the inputs and the sinks of a run tell at one moment.
pub record Outside : Type 0 where
  pub file : List ℕ → HeldFile
  pub rest : Option (List ℕ)
  pub read_faults : ℕ
  pub written : Texts
  pub write_faults : ℕ

-- the moment at which they tell these
abbrev pub outside : (List ℕ → HeldFile) → Option (List ℕ) → ℕ → Texts → ℕ → Outside
outside file rest read_faults written write_faults = record {
  file = file;
  rest = rest;
  read_faults = read_faults;
  written = written;
  write_faults = write_faults;
}

-- no fault of the outside rose
pub record IsCalm (before after : Outside) : Type 0 where
  pub read : Rose before.read_faults after.read_faults → ⊥
  pub write : Rose before.write_faults after.write_faults → ⊥
