-- What writing the report comes to.
use Rattle.std.specs.Prelude.{◌≡◌, ◌⊎◌, ℕ, List, Result, Ok, Err, flat_map}
use Rattle.std.specs.Io.{StartsWith}
use Rattle.std.specs.List.{range_with_len}
use Rattle.dk_blocks.specs.History.{History}
use Rattle.dk_io.specs.Outside.{Rose}
use Rattle.dk_io.specs.Streams.{AddsFront, Texts, with_bytes}
use Rattle.dk_io.specs.declared.outside.Stream.{Stream}
use Rattle.dk_io.specs.declared.outside.Stream.TheVariants.{Report}
use Rattle.dk_driver.specs.Consuming.{Record, Told}
use Rattle.dk_points.specs.Table.{Point}
use Rattle.dk_program.specs.declared.reporting.Halt.{Halt}
use Rattle.dk_program.specs.declared.reporting.Halt.TheVariants.{Write, NoMemory}

-- a front of this text was written to the stream, and a write failed; or memory ran out, and nothing was written
abbrev pub CutsText : Stream → List ℕ → Texts → Texts → ℕ → ℕ → Halt → Type 0
CutsText stream text old new before after Write = AddsFront old new stream text × Rose before after
CutsText stream text old new before after NoMemory = (new ≡ old) × (after ≡ before)

-- what writing this text to the stream comes to
abbrev pub WritesText : {A : Type 0} → Stream → List ℕ → Texts → Texts → ℕ → ℕ → Result A Halt → Type 0
WritesText stream text old new before after (Ok u) = (new ≡ with_bytes old stream text) × (after ≡ before)
WritesText stream text old new before after (Err halt) = CutsText stream text old new before after halt

-- A text was added to the report that is due of each history and its records, and no write failed.
pub record ToldWhole (Stands : History → List Record → Type 0) (IsDue : History → List Record → List ℕ → Type 0) (old new : Texts)
    (before after : ℕ) : Type 0 where
  pub text : List ℕ
  pub written : new ≡ with_bytes old Report text
  pub holds : (h : History) (records : List Record) → Stands h records → IsDue h records text
  pub calm : after ≡ before

-- why it is not written whole
abbrev pub HaltHasCause : ℕ → ℕ → Halt → Type 0
HaltHasCause before after Write = Rose before after
HaltHasCause before after NoMemory = after ≡ before

-- the text begins one that is due
abbrev pub BeginsOne : (List ℕ → Type 0) → List ℕ → Type 0
BeginsOne IsDue text = (whole : List ℕ) × IsDue whole × StartsWith whole text

-- Nothing was added, or a text that begins one that is due; and a write failed, or memory ran out.
pub record CutOff (Stands : History → List Record → Type 0) (IsDue : History → List Record → List ℕ → Type 0) (old new : Texts)
    (before after : ℕ) (halt : Halt) : Type 0 where
  pub written : (new ≡ old) ⊎ ((text : List ℕ) × (new ≡ with_bytes old Report text)
      × ((h : History) (records : List Record) → Stands h records → BeginsOne (IsDue h records) text))
  pub cause : HaltHasCause before after halt

-- ---- parts
-- the report in parts, one after another
abbrev pub in_parts : {A : Type 0} → (A → List Point → ℕ) → (A → Told → ℕ → List ℕ) → A → Told → List ℕ
in_parts count part a told = flat_map (part a told) (range_with_len 0 (count a told.points))

-- what writing the text that is due comes to
abbrev pub TellsOutcome : {A : Type 0} → (History → List Record → Type 0) → (History → List Record → List ℕ) → Texts → Texts → ℕ → ℕ
    → Result A Halt → Type 0
TellsOutcome Stands due old new before after (Ok u) = ToldWhole Stands (λ h records text. text ≡ due h records) old new before after
TellsOutcome Stands due old new before after (Err halt) = CutOff Stands (λ h records text. text ≡ due h records) old new before after halt
