-- The three texts that a run writes.
use Rattle.std.specs.Prelude.{◌≡◌, ◌⊎◌, ℕ, List, []}
use Rattle.std.specs.Io.{StartsWith}
use Rattle.std.specs.Io.KnownBytes.{append_known}
use Rattle.dk_io.specs.Streams.{Texts}
use Rattle.dk_io.specs.declared.outside.Stream.{Stream}
use Rattle.dk_io.specs.declared.outside.Stream.TheVariants.{Report, Messages, State}

-- what a run writes to each of the three streams
pub record Output : Type 0 where
  pub report : List ℕ
  pub messages : List ℕ
  pub state : List ℕ

-- this text on this stream, and nothing on the others
abbrev pub only_on : Stream → List ℕ → Output
only_on Report text = record { report = text; messages = []; state = [] }
only_on Messages text = record { report = []; messages = text; state = [] }
only_on State text = record { report = []; messages = []; state = text }

-- each stream with its text at its end
abbrev pub texts_followed_by : Texts → Output → Texts
texts_followed_by old output = record {
  report = append_known old.report output.report;
  messages = append_known old.messages output.messages;
  state = append_known old.state output.state;
}

-- each text is a front of the other's, and the state is written behind the whole report
pub record IsFront (front output : Output) : Type 0 where
  pub report : StartsWith output.report front.report
  pub messages : StartsWith output.messages front.messages
  pub state : StartsWith output.state front.state
  pub in_order : (front.report ≡ output.report) ⊎ (front.state ≡ [])

-- Each stream has a front of its text at its end.
pub record FollowedByFront (old new : Texts) (output : Output) : Type 0 where
  pub front : Output
  pub is_front : IsFront front output
  pub written : new ≡ texts_followed_by old front
