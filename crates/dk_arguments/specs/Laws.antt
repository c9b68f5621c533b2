-- What given words come to, in the words of a reader.
use Rattle.std.specs.Prelude.{◌≡◌, ◌≢◌, ◌≤◌, ◌<◌, [], ℕ, Bool, List, Option, Some, IfSome, codes, false, length, true}
use Rattle.std.specs.List.{All}
use Rattle.clap.specs.Words.{Row, Text}
use Rattle.dk_arguments.specs.Commands.{faults_of, rows_of}
use Rattle.dk_arguments.specs.Descriptions.{Argument, Command, Form, number, positional, positionals}
use Rattle.dk_arguments.specs.Given.{number_at, texts_at}
use Rattle.dk_arguments.specs.Requests.{are_among, request_of}
use Rattle.dk_arguments.specs.declared.request.Request.TheVariants.{Run}

-- an argument that takes numbers: its name, and the least and the most of them
pub record Wanted : Type 0 where
  pub name : Text
  pub low : ℕ
  pub high : ℕ

-- the argument takes these numbers, if it has this name
abbrev pub IsNumbered : Wanted → Argument → Type 0
IsNumbered wanted a = a.name ≡ wanted.name → a.form ≡ number wanted.low wanted.high

-- Of the command each argument of this name takes these numbers. The names of help and version are other ones.
pub record Takes (wanted : Wanted) (c : Command) : Type 0 where
  pub arguments : All (IsNumbered wanted) c.arguments
  pub no_help : wanted.name ≢ codes "help"
  pub no_version : wanted.name ≢ codes "version"

abbrev pub IsWithin : ℕ → ℕ → ℕ → Type 0
IsWithin low high n = (low ≤ n) × (n ≤ high)

-- Where no fault is found, a number that is given for an argument is within the argument's bounds.
abbrev pub NumbersAreWithinBounds : Type 0
NumbersAreWithinBounds = (c : Command) (wanted : Wanted) (words : List Text) → Takes wanted c → faults_of c words ≡ []
    → IfSome (number_at wanted.name (rows_of c words)) (IsWithin wanted.low wanted.high)

-- the argument has to be given
abbrev pub is_required : Form → Bool
is_required positional = true
is_required (positionals required) = required
is_required form = false

abbrev pub IsGivenIfRequired : List Row → Argument → Type 0
IsGivenIfRequired rows a = is_required a.form ≡ true → 0 < length (texts_at a.name rows)

-- Where no fault is found, a text is given for each argument that has to be given.
abbrev pub RequiredAreGiven : Type 0
RequiredAreGiven = (c : Command) (words : List Text) → faults_of c words ≡ [] → All (IsGivenIfRequired (rows_of c words)) c.arguments

-- A run that words ask for is what they mean: the command finds no fault in them, and each word that has to be one of several is.
pub record IsMeant {A : Type 0} (c : Command) (meant : List Row → Option A) (words : List Text) (a : A) : Type 0 where
  pub none : faults_of c words ≡ []
  pub among : are_among c (rows_of c words) ≡ true
  pub is : meant (rows_of c words) ≡ Some a

abbrev pub RunsAreMeant : {A : Type 0} → Command → (List Row → Option A) → Type 0
RunsAreMeant {A = A} c meant = (words : List Text) (a : A) → request_of c meant words ≡ Some (Run a) → IsMeant c meant words a
