-- Where all files are read: what the rows that are held come to.
use Rattle.std.proofs.Common.{◌≡◌, ◌≤◌, ◌<◌, ◌∙◌, ◌∷◌, ◌++◌, [], ℕ, Bool, true, false, List, None, Result, Ok, Err, append-nil, inr, length, length-append, map, take, refl, sym, ap, subst, arith}
use Rattle.std.proofs.lemmas.List.{take_all}
use Rattle.dk_decl.specs.declared.decls.PointDecl.{PointDecl}
use Rattle.dk_io.specs.Outside.{HeldFile}
use Rattle.dk_io.specs.Streams.{Texts, with_bytes}
use Rattle.dk_io.specs.declared.outside.Stream.TheVariants.{Report}
use Rattle.dk_write.specs.Texts.{trace_text}
use Rattle.dk_table.specs.Tables.Contents.{AreReadAs, helds_of}
use Rattle.dk_table.specs.Columns.Judging.{kind_by}
use Rattle.dk_table.specs.Streams.Pieces.{held_rows}
use Rattle.dk_table.specs.Tables.PlacedRows.{Placed}
use Rattle.dk_table.specs.Streams.Progress.{AreBehind, AreWhole, EndedSays, StreamSays, all_rows}
use Rattle.dk_table.specs.Streams.Stages.{IsBody, IsFront}
use Rattle.dk_table.specs.Streams.Stops.{Writes}
use Rattle.dk_table.specs.Streams.{Step, Stream, all_steps, ended_stream, first_cells, first_refusal, nothing, rows_steps, rows_stream, stream_at, stream_by, stream_with}
use Rattle.dk_table.specs.Tables.{names_by, rows_in}
use Rattle.dk_table.specs.Traces.{declaration_of}
use Rattle.dk_table.specs.declared.columns.ColumnKind.{ColumnKind}
use Rattle.dk_table.specs.declared.words.command.Command.{Command}
use Rattle.dk_table.specs.declared.faults.TableWhy.TheVariants.{NoHeader}
use Rattle.dk_table.specs.declared.streaming.stages.Body.{Body}
use Rattle.dk_table.specs.declared.streaming.stages.Front.{Front}
use Rattle.dk_table.specs.declared.streaming.stages.Stage.{Stage}
use Rattle.dk_table.specs.declared.streaming.stages.Stage.TheVariants.{Start}
use Rattle.dk_table.specs.declared.streaming.stops.Stop.{Stop}
use Rattle.dk_table.specs.declared.streaming.stops.Stop.TheVariants.{Refused}
use Rattle.dk_io.proofs.Writing.{added_nil}
use Rattle.dk_table.proofs.Contents.{helds_length}
use Rattle.dk_table.proofs.Sent.{writes_after}
use Rattle.dk_table.proofs.Streamed.{Looked, by_named, few, first_stays, looked, written_ended, written_nothing}

module _ (c : Command) (point : List ℕ) (types : ℕ) (rows : List Placed) where
  abbrev names : List (List ℕ)
  names = names_by c.has_header (first_cells rows)

  abbrev with_names : Bool → List (List ℕ) → Stream
  with_names ended ns = stream_with point ns types ended (rows_steps c.has_header ns rows)

  abbrev ended_all : Stream
  ended_all = ended_stream c point types rows

  abbrev open_all : Stream
  open_all = rows_stream c point types rows

  ended_is : (l : List Placed) → 0 < length l
      → ended_stream c point types l ≡ stream_with point (names_by c.has_header (first_cells l)) types true (rows_steps c.has_header (names_by c.has_header (first_cells l)) l)
  ended_is [] some = absurd (omega arith)
  ended_is (row ∷ l) some = refl

  -- ---- no row has come
  pub none_came : (base old : Texts) (start before : ℕ) → rows ≡ [] → 0 < types → old ≡ with_bytes base Report (trace_text open_all.written) → before ≡ start
      → Writes {A = Unit {0}} (trace_text ended_all.written) ended_all.refusal base old start before (Err (Refused (record { file = 0; row = 1; why = NoHeader })))
  none_came base old start before none some so_far calm =
      let bare : List (List ℕ) = names_by c.has_header [] in
      let first : first_refusal (take types []) ≡ None = ap first_refusal (take_all types [] (omega arith)) in
      let empty : open_all ≡ nothing = ap (rows_stream c point types) none ∙ written_nothing point bare types [] first some in
      subst (λ (l : List Placed). Writes {A = Unit {0}} (trace_text (ended_stream c point types l).written) (ended_stream c point types l).refusal base old start before (Err (Refused (record { file = 0; row = 1; why = NoHeader })))) (sym none)
      (refl, so_far ∙ ap (λ (s : Stream). with_bytes base Report (trace_text s.written)) empty, calm)

  -- ---- rows are held
  module _ (front : Front) (f : IsFront c types front rows) where
    abbrev kinds : List ColumnKind
    kinds = map kind_by front.judge.columns

    abbrev d : PointDecl
    d = declaration_of point front.names kinds

    abbrev steps : List Step
    steps = rows_steps c.has_header front.names rows

    abbrev by_held : Stream
    by_held = stream_by d kinds (rows_steps c.has_header front.names (held_rows c.separator front.held))

    names_are : front.names ≡ names
    names_are = f.ready.names ∙ ap (λ (l : List Placed). names_by c.has_header (first_cells l)) (append-nil rows)

    looked_at : Looked types (length front.names) steps front.judge
    looked_at = looked types (length front.names) steps front.judge f.ready.judged

    nothing_yet : open_all ≡ nothing
    nothing_yet =
        ap (with_names false) (sym names_are)
        ∙ written_nothing point front.names types steps looked_at.none (few types (length front.names) steps front.judge f.ready.judged f.ready.going)

    comes_to : by_held ≡ ended_all
    comes_to =
        ap (λ (l : List Placed). stream_by d kinds (rows_steps c.has_header front.names l)) f.ready.held
        ∙ sym (written_ended point front.names types steps kinds looked_at.none looked_at.kinds) ∙ ap (with_names true) names_are ∙ sym (ended_is rows f.some)

    pub held_end : (A : Type 0) (r : Result A Stop) (base old new : Texts) (start before after : ℕ) → old ≡ with_bytes base Report (trace_text open_all.written) → before ≡ start
        → Writes (trace_text by_held.written) by_held.refusal old new before after r → Writes (trace_text ended_all.written) ended_all.refusal base new start after r
    held_end A r base old new start before after so_far calm h =
        writes_after r [] (trace_text ended_all.written) ended_all.refusal base old new start before after
        (so_far ∙ ap (λ (s : Stream). with_bytes base Report (trace_text s.written)) nothing_yet) calm
        (subst (λ (s : Stream). Writes (trace_text s.written) s.refusal old new before after r) comes_to h)

  -- ---- rows are written as they come
  module _ (body : Body) (b : IsBody c point types body rows) where
    abbrev told : List Step
    told = rows_steps c.has_header body.names rows

    by_kinds : (ended : Bool) → with_names ended body.names ≡ stream_by body.plan.decl body.plan.kinds told
    by_kinds ended =
        ap (stream_with point body.names types ended) (sym (append-nil told)) ∙ b.known ended []
        ∙ ap (stream_by body.plan.decl body.plan.kinds) (append-nil told)

    ended_by : ended_all ≡ stream_by body.plan.decl body.plan.kinds told
    ended_by = ended_is rows b.some ∙ ap (with_names true) (sym b.names) ∙ by_kinds true

    open_by : open_all ≡ stream_by body.plan.decl body.plan.kinds told
    open_by = ap (with_names false) (sym b.names) ∙ by_kinds false

    pub body_ends : (base old : Texts) (start before : ℕ) → old ≡ with_bytes base Report (trace_text open_all.written) → before ≡ start
        → Writes {A = Unit {0}} (trace_text ended_all.written) ended_all.refusal base old start before (Ok tt)
    body_ends base old start before so_far calm = (
      ap (λ (s : Stream). s.refusal) (ended_by ∙ by_named body.plan.decl body.plan.kinds told b.named) ∙ b.told,
      so_far ∙ ap (λ (s : Stream). with_bytes base Report (trace_text s.written)) (open_by ∙ sym ended_by),
      calm,
    )

-- ---- all files
-- before the first
pub none_behind : (c : Command) (point : List ℕ) (types : ℕ) (ns : List (List ℕ)) (file : List ℕ → HeldFile) (base : Texts) (start : ℕ) → 0 < types
    → AreBehind c point types ns file 0 [] Start base base start start
none_behind c point types ns file base start some =
    let first : first_refusal (take types []) ≡ None = ap first_refusal (take_all types [] (omega arith)) in
    let empty : rows_stream c point types [] ≡ nothing = written_nothing point (names_by c.has_header []) types [] first some in
    record {
      many = refl;
      read = tt;
      whole = record { steps = λ other. refl; first = tt };
      none = ap (λ (s : Stream). s.refusal) empty;
      at = (refl, some);
      written = sym (ap (λ (s : Stream). with_bytes base Report (trace_text s.written)) empty ∙ added_nil base Report);
      calm = refl;
    }

-- behind the last
ended_at : (c : Command) (point : List ℕ) (types : ℕ) (contents : List (List ℕ)) → AreWhole c contents → ended_stream c point types (all_rows c.separator 0 contents) ≡ stream_at c point types contents
ended_at c point types [] whole = refl
ended_at c point types (bytes ∷ more) whole =
    let own : List Placed = rows_in c.separator 0 bytes in
    let rest : List Placed = all_rows c.separator 1 more in
    let some : 0 < length (own ++ rest) = omega (arith, whole.first, length-append own rest) in
    let ns : List (List ℕ) = names_by c.has_header (first_cells own) in
    ended_is c point types (own ++ rest) (own ++ rest) some
    ∙ ap (λ (cells : List (List ℕ)). stream_with point (names_by c.has_header cells) types true (rows_steps c.has_header (names_by c.has_header cells) (own ++ rest))) (first_stays own rest whole.first)
    ∙ ap (stream_with point ns types true) (sym (whole.steps ns) ∙ sym (append-nil (all_steps c ns 0 (bytes ∷ more))))

module _ (c : Command) (point : List ℕ) (types : ℕ) (ns : List (List ℕ)) (file : List ℕ → HeldFile) (rose : Type 0) (contents : List (List ℕ)) (stage : Stage)
    (base old : Texts) (start before place : ℕ) (past : length ns ≤ place) (b : AreBehind c point types ns file place contents stage base old start before) where
  pub all_says : (r : Result (Unit {0}) Stop) (new : Texts) (after : ℕ)
      → Writes (trace_text (ended_stream c point types (all_rows c.separator 0 contents)).written) (ended_stream c point types (all_rows c.separator 0 contents)).refusal base new start after r
      → StreamSays c point types ns file rose base new start after r
  all_says r new after h = by r (contents, read_all, subst (λ (s : Stream). Writes (trace_text s.written) s.refusal base new start after r) (ended_at c point types contents b.whole) h)
    where
      read_all : AreReadAs (helds_of ns file) contents
      read_all =
          subst (λ (l : List HeldFile). AreReadAs l contents) (take_all (length contents) (helds_of ns file) (omega (arith, b.many, past, helds_length ns file))) b.read

      by : (x : Result (Unit {0}) Stop) → EndedSays c point types ns file base new start after x → StreamSays c point types ns file rose base new start after x
      by (Ok u) says = says
      by (Err stop) says = inr says
