-- Rows that are written as they come: what is known at each stage.
use Rattle.std.specs.Prelude.{◌≡◌, ◌<◌, ◌+◌, ◌++◌, ◌∷◌, [], ℕ, zero, suc, Bool, true, false, not, IfOk, List, Option, Some, None, Result, Ok, Err, length, map, if◌then◌else◌}
use Rattle.csv.specs.Reading.{records}
use Rattle.dk_io.specs.Streams.{Texts, with_bytes}
use Rattle.dk_io.specs.declared.outside.Stream.TheVariants.{Report}
use Rattle.dk_write.specs.Texts.{trace_text}
use Rattle.dk_table.specs.Columns.Judging.{Judged, fresh, judging, kind_by}
use Rattle.dk_table.specs.Streams.Pieces.{held_rows}
use Rattle.dk_table.specs.Tables.PlacedRows.{Placed}
use Rattle.dk_table.specs.Streams.Stops.{Writes}
use Rattle.dk_table.specs.Streams.{Step, first_cells, first_refusal, rows_steps, rows_stream, stream_by, stream_with, told_steps}
use Rattle.dk_table.specs.Tables.{◌>>=◌, are_paired, config_by, names_by, placed_from}
use Rattle.dk_table.specs.Traces.{are_named, declaration_of}
use Rattle.dk_table.specs.declared.words.command.Command.{Command}
use Rattle.dk_table.specs.declared.faults.Refusal.{Refusal}
use Rattle.dk_table.specs.declared.streaming.stages.Body.{Body}
use Rattle.dk_table.specs.declared.streaming.stages.Front.{Front}
use Rattle.dk_table.specs.declared.streaming.stages.Stage.{Stage}
use Rattle.dk_table.specs.declared.streaming.stages.Stage.TheVariants as stage
use Rattle.dk_table.specs.declared.streaming.stops.Stop.{Stop}
use Rattle.dk_table.specs.declared.streaming.advancing.Place.{Place}
use Rattle.dk_table.specs.declared.streaming.advancing.Taken.{Taken}

-- ---- a row
-- one of the table's body, a header, or one that is refused
abbrev pub steps_by : Placed → Result Bool Refusal → List Step
steps_by row (Ok true) = Ok row ∷ []
steps_by row (Ok false) = []
steps_by row (Err refusal) = Err refusal ∷ []

-- ---- finding kinds
abbrev pub none_left : Option ℕ → Bool
none_left None = false
none_left (Some zero) = true
none_left (Some (suc n)) = false

-- no row is still to be looked at
abbrev pub is_done : Judged → Bool
is_done judged = none_left judged.left

abbrev pub judging_step : Judged → Step → Result Judged Refusal
judging_step judged step = if is_done judged then Ok judged else (step >>= λ row. Ok (judging judged row))

-- with all these, up to the first that is refused, where one is still to be looked at
abbrev pub judging_steps : Judged → List Step → Result Judged Refusal
judging_steps judged [] = Ok judged
judging_steps judged (step ∷ steps) = judging_step judged step >>= λ next. judging_steps next steps

-- the names that the first of the rows gives, where there is one
abbrev pub first_names : Bool → List Placed → Option (List (List ℕ))
first_names header [] = None
first_names header (row ∷ rows) = Some (names_by header row.cells)

-- ---- what is known of the columns, behind these rows
-- The rows so far, by which kinds are found, are held, and more are to be looked at. The names are those that all rows give, with these
-- behind.
pub record IsReady (c : Command) (types : ℕ) (front : Front) (rows own : List Placed) : Type 0 where
  pub some : 0 < length (rows ++ own)
  pub names : front.names ≡ names_by c.has_header (first_cells (rows ++ own))
  pub held : held_rows c.separator front.held ≡ rows
  pub judged : judging_steps (fresh (Some types) (length front.names)) (rows_steps c.has_header front.names rows) ≡ Ok front.judge
  pub going : is_done front.judge ≡ false

-- There are such rows.
pub record IsFront (c : Command) (types : ℕ) (front : Front) (rows : List Placed) : Type 0 where
  pub some : 0 < length rows
  pub ready : IsReady c types front rows []

-- Kinds were found, and the rows are written.
pub record IsBody (c : Command) (point : List ℕ) (types : ℕ) (body : Body) (rows : List Placed) : Type 0 where
  pub some : 0 < length rows
  pub names : body.names ≡ names_by c.has_header (first_cells rows)
  pub known : (ended : Bool) (more : List Step) → let steps = rows_steps c.has_header body.names rows ++ more in
      stream_with point body.names types ended steps ≡ stream_by body.plan.decl body.plan.kinds steps
  pub declared : body.plan.decl ≡ declaration_of point body.names body.plan.kinds
  pub named : are_named body.plan.decl ≡ true
  pub told : first_refusal (told_steps body.plan.kinds (rows_steps c.has_header body.names rows)) ≡ None

-- the kinds and the declaration that were found, by which rows are written
pub record IsBegun (c : Command) (point : List ℕ) (front : Front) (body : Body) : Type 0 where
  pub names : body.names ≡ front.names
  pub kinds : body.plan.kinds ≡ map kind_by front.judge.columns
  pub declared : body.plan.decl ≡ declaration_of point front.names body.plan.kinds
  pub named : are_named body.plan.decl ≡ true

abbrev pub IsAt : Command → List ℕ → ℕ → Stage → List Placed → Type 0
IsAt c point types stage.Start rows = (rows ≡ []) × (0 < types)
IsAt c point types (stage.Front front) rows = IsFront c types front rows
IsAt c point types (stage.Body body) rows = IsBody c point types body rows

-- ---- what a chunk adds
-- Behind rows of this stage come these: what all come to was written, and then this is known; or the table is refused; or a front of it
-- was.
abbrev pub Goes : {A : Type 0} → Command → List ℕ → ℕ → Stage → List Placed
    → Texts → Texts → ℕ → ℕ → (A → List Placed → Type 0) → Result A Stop → Type 0
Goes c point types stage own old new before after Stands result =
    (rows : List Placed) (base : Texts) (start : ℕ) → IsAt c point types stage rows
    → old ≡ with_bytes base Report (trace_text (rows_stream c point types rows).written) → before ≡ start
    → let stream = rows_stream c point types (rows ++ own) in
    Writes (trace_text stream.written) stream.refusal base new start after result × IfOk result (λ a. Stands a (rows ++ own))

abbrev pub IsTaken : Command → List ℕ → ℕ → Taken → List Placed → Type 0
IsTaken c point types taken rows = IsAt c point types taken.stage rows

-- the rows of the next bytes of the file at this place
abbrev pub rows_behind : ℕ → ℕ → ℕ → List ℕ → List Placed
rows_behind separator file count bytes = placed_from file (count + 1) (records (config_by separator) bytes)

abbrev pub IsBehind : Command → List ℕ → ℕ → ℕ → Place → List ℕ → Place → List Placed → Type 0
IsBehind c point types file before bytes place rows =
    IsAt c point types place.stage rows × (place.count ≡ before.count + length (rows_behind c.separator file before.count bytes))
    × (place.is_paired ≡ (if are_paired bytes then before.is_paired else not before.is_paired))
