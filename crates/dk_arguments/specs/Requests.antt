-- What given words ask of a command.
use Rattle.std.specs.Prelude.{◌≡◌, ◌≢◌, ◌∷◌, [], Bool, List, Option, Some, None, Result, Ok, Err, option_map, true, if◌then◌else◌}
use Rattle.std.specs.List.{list_all, list_any}
use Rattle.std.specs.Option.{option_map_or}
use Rattle.std.specs.Str.{bytes_eq}
use Rattle.clap.specs.Words.{Kinds, Row, Text}
use Rattle.clap.specs.declared.error.kind.ErrorKind.{ErrorKind}
use Rattle.clap.specs.declared.error.kind.ErrorKind.TheVariants as kind
use Rattle.dk_arguments.specs.Commands.{faults_of, rows_of}
use Rattle.dk_arguments.specs.Descriptions.{Argument, Command, Form, one_of}
use Rattle.dk_arguments.specs.Given.{text_at}
use Rattle.dk_arguments.specs.declared.fault.ArgumentsFault.{ArgumentsFault}
use Rattle.dk_arguments.specs.declared.fault.ArgumentsFault.TheVariants.{Refused, NoMemory}
use Rattle.dk_arguments.specs.declared.request.Request.{Request}
use Rattle.dk_arguments.specs.declared.request.Request.TheVariants.{Run, Help, Version}

-- the text is one of these
abbrev pub is_one_of : List Text → Text → Bool
is_one_of words text = list_any (λ word. bytes_eq word text) words

-- the text that was given, if there is one, is one of those of the form
abbrev pub is_of_form : Form → Option Text → Bool
is_of_form (one_of words) given = option_map_or (is_one_of words) given true
is_of_form form given = true

abbrev pub is_among : List Row → Argument → Bool
is_among rows a = is_of_form a.form (text_at a.name rows)

-- each argument that takes one of several words was given one of them
abbrev pub are_among : Command → List Row → Bool
are_among c rows = list_all (is_among rows) c.arguments

-- what a fault asks for; most ask for nothing
abbrev pub request_for : {A : Type 0} → ErrorKind → Option (Request A)
request_for kind.DisplayHelp = Some Help
request_for kind.DisplayVersion = Some Version
request_for _ = None

-- The run that the rows of accepted words mean, where they mean one.
abbrev pub run_by : {A : Type 0} → Command → (List Row → Option A) → List Row → Option (Request A)
run_by c meant rows = if are_among c rows then option_map (λ a. Run a) (meant rows) else None

-- a run where there is no fault, and else what the only fault asks for
abbrev pub request_by : {A : Type 0} → Command → (List Row → Option A) → Kinds → List Row → Option (Request A)
request_by c meant [] rows = run_by c meant rows
request_by c meant (k ∷ []) rows = request_for k
request_by c meant (k ∷ _) rows = None

-- what the words behind the program's name ask for
unfoldable pub request_of : {A : Type 0} → Command → (List Row → Option A) → List Text → Option (Request A)
request_of c meant words = request_by c meant (faults_of c words) (rows_of c words)

-- the answer to a fault of this kind; running out of memory asks for nothing
abbrev pub AnswersFault : {A : Type 0} → ErrorKind → Result (Request A) ArgumentsFault → Type 0
AnswersFault k (Ok request) = request_for k ≡ Some request
AnswersFault {A = A} k (Err Refused) = (request_for {A = A} k ≡ None) × (k ≢ kind.OutOfMemory)
AnswersFault k (Err NoMemory) = Unit {0}

-- The answer where the words ask for this, or for nothing. Memory may run out at any words.
abbrev pub Answers : {R : Type 0} → Option R → Result R ArgumentsFault → Type 0
Answers asked (Ok r) = asked ≡ Some r
Answers asked (Err Refused) = asked ≡ None
Answers asked (Err NoMemory) = Unit {0}

-- the text that answers a request, where it is for a text
abbrev pub text_of : {A : Type 0} → Command → Request A → Option Text
text_of c (Run a) = None
text_of c Help = Some c.help
text_of c Version = Some c.version
