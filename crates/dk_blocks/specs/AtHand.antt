-- Records that stand whole in the bytes at hand.
use Rattle.std.specs.Prelude.{◌≡◌, ⊤, ℕ, Bool, false, List, ◌∷◌, take, IfSome, Option, Some, None, Result, Ok, Err}
use Rattle.dk_base.specs.Reading.{Line}
use Rattle.dk_base.specs.Values.{values_of}
use Rattle.dk_lines.specs.Reading.{Reading, left_of}
use Rattle.dk_trace.specs.Whole.{StandsWhole}
use Rattle.dk_trace.specs.declared.whole.Whole.{Whole}
use Rattle.dk_blocks.specs.Fitting.{FitAt}
use Rattle.dk_blocks.specs.History.{History, after_sample, effect_of}
use Rattle.dk_blocks.specs.LineSteps.{BlockGives}
use Rattle.dk_blocks.specs.Standing.{Stands}
use Rattle.dk_blocks.specs.Steps.{Grown}
use Rattle.dk_blocks.specs.declared.found.Found.{Found}
use Rattle.dk_blocks.specs.declared.kept.ReaderParts.{ReaderParts}
use Rattle.dk_blocks.specs.declared.reader.Stop.{Stop}

-- a block of this first line is a sample record, and neither a comment nor a header line stands in front of it
abbrev pub BeginsRecord : ReaderParts → List ℕ → Type 0
BeginsRecord kept first = (ignores : Bool) (h : History) → Stands kept h → (n : ℕ) (ls : List Line) (close : Option ℕ)
    → effect_of ignores h (record { number = n; bytes = first } ∷ ls) close ≡ after_sample ignores h (record { number = n; bytes = first }) ls close

-- The bytes begin with a whole block that is a sample record, the first line of which has the number n; its values are of its variables.
pub record IsAtHand (kept : ReaderParts) (n : ℕ) (bytes : List ℕ) (w : Whole) : Type 0 where
  pub stands : StandsWhole kept.points n bytes w
  pub begins : BeginsRecord kept (take w.first_len bytes)
  pub fits : FitAt kept.points w.sample.point.0 (values_of w.sample.values.now)

-- What is said of the next block where it is read in the bytes at hand, with what is kept then, whatever is still to be read of the
-- file. Where it isn't, nothing is.
abbrev pub HandGives : Bool → History → Reading → ReaderParts → Result (Option Found) Stop → Reading → Option (List ℕ) → Type 0
HandGives ignores h r kept (Ok None) r' rest = ⊤
HandGives ignores h r kept (Ok (Some found)) r' rest = IfSome (left_of r rest) (λ xs.
    BlockGives ignores (effect_of ignores h) false r xs (Ok (record { kept = kept; is_over = false; found = Some found })) r' (left_of r' rest))
HandGives ignores h r kept (Err stop) r' rest = IfSome (left_of r rest) (λ xs.
    BlockGives ignores (effect_of ignores h) false r xs (Err stop) r' (left_of r' rest))

-- lines and totals, whatever is told
abbrev pub HandCounts : Reading → Result (Option Found) Stop → Reading → Type 0
HandCounts r (Ok None) r' = r' ≡ r
HandCounts r (Ok (Some found)) r' = (r'.limits ≡ r.limits) × (r'.is_started ≡ r.is_started) × Grown false r r'
HandCounts r (Err stop) r' = r'.limits ≡ r.limits
