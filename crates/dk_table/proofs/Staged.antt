-- What is known behind a chunk.
use Rattle.std.proofs.Common.{◌≡◌, ◌<◌, ◌+◌, ◌∙◌, ◌∷◌, ◌++◌, [], ℕ, zero, suc, Bool, true, false, List, Option, Some, None, Result, Ok, Err, append_assoc, append-nil, length, length-append, map, take, refl, sym, ap, subst, arith}
use Rattle.std.specs.Prelude.{IfOk, ⊤, not, if◌then◌else◌}
use Rattle.std.proofs.lemmas.Grind.{flat_map-append}
use Rattle.csv.specs.Reading.{records}
use Rattle.dk_decl.specs.declared.decls.PointDecl.{PointDecl}
use Rattle.dk_io.specs.Streams.{Texts, with_bytes}
use Rattle.dk_io.specs.declared.outside.Stream.TheVariants.{Report}
use Rattle.dk_io.proofs.Writing.{added_nil}
use Rattle.dk_write.specs.Texts.{trace_text}
use Rattle.dk_table.specs.Columns.Judging.{Judged, fresh, kind_by}
use Rattle.dk_table.specs.Outcomes.{Answers}
use Rattle.dk_table.specs.Streams.Pieces.{chunk_rows, held_rows}
use Rattle.dk_table.specs.Tables.PlacedRows.{Placed}
use Rattle.dk_table.specs.Streams.Stages.{Goes, IsAt, IsBegun, IsBody, IsFront, IsReady, IsBehind, IsTaken, first_names, is_done, judging_steps, rows_behind}
use Rattle.dk_table.specs.Streams.Stops.{Writes, stop_of_fault}
use Rattle.dk_table.specs.Writing.Forms.{form_of, rows_text}
use Rattle.dk_table.specs.Streams.{Step, Stream, first_cells, first_refusal, nothing, nothing_but, rows_before, rows_steps, rows_stream, stream_by, stream_with, told_steps, trace_before}
use Rattle.dk_table.specs.Tables.{◌>>=◌, are_paired, config_by, names_by, placed_from}
use Rattle.dk_table.specs.Traces.{declaration_of, writes_of}
use Rattle.dk_table.specs.declared.columns.ColumnKind.{ColumnKind}
use Rattle.dk_table.specs.declared.words.command.Command.{Command}
use Rattle.dk_table.specs.declared.faults.Refusal.{Refusal}
use Rattle.dk_table.specs.declared.faults.TableFault.{TableFault}
use Rattle.dk_table.specs.declared.faults.TableFault.TheVariants as fault
use Rattle.dk_table.specs.declared.streaming.held.Chunk.{Chunk}
use Rattle.dk_table.specs.declared.streaming.stages.Body.{Body}
use Rattle.dk_table.specs.declared.streaming.stages.Front.{Front}
use Rattle.dk_table.specs.declared.streaming.stages.Stage.{Stage}
use Rattle.dk_table.specs.declared.streaming.stages.Stage.TheVariants as stage
use Rattle.dk_table.specs.declared.streaming.stops.Stop.{Stop}
use Rattle.dk_table.specs.declared.streaming.stops.Stop.TheVariants.{NoMemory, Refused}
use Rattle.dk_table.specs.declared.streaming.advancing.Place.{Place}
use Rattle.dk_table.specs.declared.streaming.advancing.Taken.{Taken}
use Rattle.dk_table.specs.declared.writing.Form.{Form}
use Rattle.dk_table.proofs.Formed.{text_more}
use Rattle.dk_table.proofs.Opened.{stop_recast}
use Rattle.dk_table.proofs.Sent.{adds_none, writes_after}
use Rattle.dk_table.proofs.Streamed.{Looked, before_none, by_named, done_stays, enough, few, first_stays, judged_apart, looked, looked_refused, refused_behind, refused_early, steps_apart, told_apart, written_ended, written_known, written_nothing}

-- ---- rows by which kinds are found
module _ (c : Command) (point : List ℕ) (types : ℕ) (front : Front) (rows own : List Placed) (at : IsReady c types front rows own) where
  abbrev columns : ℕ
  columns = length front.names

  abbrev S : List Step
  S = rows_steps c.has_header front.names rows

  abbrev O : List Step
  O = rows_steps c.has_header front.names own

  abbrev all : List Placed
  all = rows ++ own

  stream_all : rows_stream c point types all ≡ stream_with point front.names types false (S ++ O)
  stream_all =
      ap (λ (names : List (List ℕ)). stream_with point names types false (rows_steps c.has_header names all)) (sym at.names)
      ∙ ap (stream_with point front.names types false) (steps_apart c.has_header front.names rows own)

  judged_all : judging_steps (fresh (Some types) columns) (S ++ O) ≡ judging_steps front.judge O
  judged_all =
      judged_apart (fresh (Some types) columns) S O ∙ ap (λ (r : Result Judged Refusal). r >>= λ next. judging_steps next O) at.judged

  pub ready_refused : (A : Type 0) (refusal : Refusal) (old : Texts) (now : ℕ) → judging_steps front.judge O ≡ Err refusal
      → Writes {A = A} (trace_text (rows_stream c point types all).written) (rows_stream c point types all).refusal old old now now (Err (Refused refusal))
  ready_refused A refusal old now e =
      let is : rows_stream c point types all ≡ nothing_but refusal =
      stream_all ∙ refused_early point front.names types false (S ++ O) refusal (looked_refused types columns (S ++ O) refusal (judged_all ∙ e)) in
      subst (λ (s : Stream). Writes {A = A} (trace_text s.written) s.refusal old old now now (Err (Refused refusal))) (sym is) (refl, sym (added_nil old Report), refl)

  pub ready_none : (A : Type 0) (old : Texts) (now : ℕ)
      → Writes {A = A} (trace_text (rows_stream c point types all).written) (rows_stream c point types all).refusal old old now now (Err NoMemory)
  ready_none A old now = (adds_none old (trace_text (rows_stream c point types all).written), refl)

  module _ (judge : Judged) (e : judging_steps front.judge O ≡ Ok judge) where
    judged_now : judging_steps (fresh (Some types) columns) (S ++ O) ≡ Ok judge
    judged_now = judged_all ∙ e

    judged_rows : judging_steps (fresh (Some types) columns) (rows_steps c.has_header front.names all) ≡ Ok judge
    judged_rows = ap (judging_steps (fresh (Some types) columns)) (steps_apart c.has_header front.names rows own) ∙ judged_now

    pub still_nothing : is_done judge ≡ false → rows_stream c point types all ≡ nothing
    still_nothing going =
        stream_all ∙ written_nothing point front.names types (S ++ O) (looked types columns (S ++ O) judge judged_now).none (few types columns (S ++ O) judge judged_now going)

    pub still_front : (next : Front) → next.names ≡ front.names → next.judge ≡ judge → held_rows c.separator next.held ≡ all → is_done judge ≡ false
        → IsFront c types next all
    still_front next names is held going = record {
      some = at.some;
      ready = record {
        some = omega (arith, at.some, length-append all []);
        names = names ∙ at.names ∙ ap (λ (l : List Placed). names_by c.has_header (first_cells l)) (sym (append-nil all));
        held = held;
        judged = subst (λ (ns : List (List ℕ)). judging_steps (fresh (Some types) (length ns)) (rows_steps c.has_header ns all) ≡ Ok next.judge) (sym names)
            (judged_rows ∙ ap (λ (j : Judged). Ok j) (sym is));
        going = ap is_done is ∙ going;
      };
    }

    abbrev kinds : List ColumnKind
    kinds = map kind_by judge.columns

    pub now_known : is_done judge ≡ true → (ended : Bool) (more : List Step)
        → stream_with point front.names types ended ((S ++ O) ++ more) ≡ stream_by (declaration_of point front.names kinds) kinds ((S ++ O) ++ more)
    now_known done ended more =
        let steps : List Step = (S ++ O) ++ more in
        let known : judging_steps (fresh (Some types) columns) steps ≡ Ok judge =
        judged_apart (fresh (Some types) columns) (S ++ O) more ∙ ap (λ (r : Result Judged Refusal). r >>= λ next. judging_steps next more) judged_now ∙ done_stays judge more done in
        let l : Looked types columns steps judge = looked types columns steps judge known in
        written_known point front.names types ended steps kinds l.none (enough types columns steps judge known done) l.kinds

    pub now_begun : is_done judge ≡ true → rows_stream c point types all ≡ stream_by (declaration_of point front.names kinds) kinds (S ++ O)
    now_begun done =
        stream_all ∙ ap (stream_with point front.names types false) (sym (append-nil (S ++ O))) ∙ now_known done false []
        ∙ ap (stream_by (declaration_of point front.names kinds) kinds) (append-nil (S ++ O))

    -- the stream that is begun is that of the rows that are held
    pub held_begun : is_done judge ≡ true → (next : Front) → next.names ≡ front.names → next.judge ≡ judge → held_rows c.separator next.held ≡ all
        → stream_by (declaration_of point next.names (map kind_by next.judge.columns)) (map kind_by next.judge.columns) (rows_steps c.has_header next.names (held_rows c.separator next.held))
        ≡ rows_stream c point types all
    held_begun done next names is held =
        ap (λ (j : Judged). stream_by (declaration_of point next.names (map kind_by j.columns)) (map kind_by j.columns) (rows_steps c.has_header next.names (held_rows c.separator next.held))) is
        ∙ ap (λ (ns : List (List ℕ)). stream_by (declaration_of point ns kinds) kinds (rows_steps c.has_header ns (held_rows c.separator next.held))) names
        ∙ ap (λ (l : List Placed). stream_by (declaration_of point front.names kinds) kinds (rows_steps c.has_header front.names l)) held
        ∙ ap (stream_by (declaration_of point front.names kinds) kinds) (steps_apart c.has_header front.names rows own)
        ∙ sym (now_begun done)

    pub body_begun : is_done judge ≡ true → (next : Front) (body : Body) → next.names ≡ front.names → next.judge ≡ judge → IsBegun c point next body
        → (rows_stream c point types all).refusal ≡ None → IsBody c point types body all
    body_begun done next body names is begun none =
        let same : body.names ≡ front.names = begun.names ∙ names in
        let own_kinds : body.plan.kinds ≡ kinds = begun.kinds ∙ ap (λ (j : Judged). map kind_by j.columns) is in
        let decl : body.plan.decl ≡ declaration_of point front.names kinds =
        begun.declared ∙ ap (λ (ns : List (List ℕ)). declaration_of point ns body.plan.kinds) names ∙ ap (declaration_of point front.names) own_kinds in
        let steps : rows_steps c.has_header body.names all ≡ S ++ O =
        ap (λ (ns : List (List ℕ)). rows_steps c.has_header ns all) same ∙ steps_apart c.has_header front.names rows own in
        let by : (more : List Step) → stream_by (declaration_of point front.names kinds) kinds ((S ++ O) ++ more) ≡ stream_by body.plan.decl body.plan.kinds (rows_steps c.has_header body.names all ++ more) =
        λ (more : List Step). sym (ap (λ (l : List Step). stream_by body.plan.decl body.plan.kinds (l ++ more)) steps
        ∙ ap (λ (d : PointDecl). stream_by d body.plan.kinds ((S ++ O) ++ more)) decl
        ∙ ap (λ (ks : List ColumnKind). stream_by (declaration_of point front.names kinds) ks ((S ++ O) ++ more)) own_kinds) in
        record {
          some = at.some;
          names = same ∙ at.names;
          known = λ ended more.
              ap (λ (ns : List (List ℕ)). stream_with point ns types ended (rows_steps c.has_header body.names all ++ more)) same
              ∙ ap (λ (l : List Step). stream_with point front.names types ended (l ++ more)) steps
              ∙ now_known done ended more ∙ by more;
          declared = begun.declared ∙ ap (λ (ns : List (List ℕ)). declaration_of point ns body.plan.kinds) (sym begun.names);
          named = begun.named;
          told =
              ap (λ (s : Stream). s.refusal) (sym (by_named body.plan.decl body.plan.kinds (rows_steps c.has_header body.names all) begun.named)
              ∙ ap (λ (l : List Step). stream_by body.plan.decl body.plan.kinds l) (sym (append-nil (rows_steps c.has_header body.names all)))
              ∙ sym (by []) ∙ ap (stream_by (declaration_of point front.names kinds) kinds) (append-nil (S ++ O)) ∙ sym (now_begun done)) ∙ none;
        }

-- ---- where all rows came
pub front_ended : (c : Command) (point : List ℕ) (types : ℕ) (front : Front) (rows : List Placed) → IsFront c types front rows
    → stream_by (declaration_of point front.names (map kind_by front.judge.columns)) (map kind_by front.judge.columns) (rows_steps c.has_header front.names (held_rows c.separator front.held))
    ≡ stream_with point front.names types true (rows_steps c.has_header front.names rows)
front_ended c point types front rows at =
    let columns : ℕ = length front.names in
    let steps : List Step = rows_steps c.has_header front.names rows in
    let l : Looked types columns steps front.judge = looked types columns steps front.judge at.ready.judged in
    let kinds : List ColumnKind = map kind_by front.judge.columns in
    ap (λ (held : List Placed). stream_by (declaration_of point front.names kinds) kinds (rows_steps c.has_header front.names held)) at.ready.held
    ∙ sym (written_ended point front.names types steps kinds l.none l.kinds)

-- ---- rows that are written as they come
module _ (c : Command) (point : List ℕ) (types : ℕ) (body : Body) (rows own : List Placed) (at : IsBody c point types body rows) where
  abbrev d : PointDecl
  d = body.plan.decl

  abbrev ks : List ColumnKind
  ks = body.plan.kinds

  abbrev A : List Step
  A = rows_steps c.has_header body.names rows

  abbrev B : List Step
  B = rows_steps c.has_header body.names own

  abbrev T : List Step → List Step
  T steps = told_steps ks steps

  same_names : body.names ≡ names_by c.has_header (first_cells (rows ++ own))
  same_names = at.names ∙ ap (names_by c.has_header) (sym (first_stays rows own at.some))

  now_is : rows_stream c point types (rows ++ own) ≡ trace_before d ks (T A ++ T B)
  now_is =
      ap (λ (ns : List (List ℕ)). stream_with point ns types false (rows_steps c.has_header ns (rows ++ own))) (sym same_names)
      ∙ ap (stream_with point body.names types false) (steps_apart c.has_header body.names rows own)
      ∙ at.known false B ∙ by_named d ks (A ++ B) at.named ∙ ap (trace_before d ks) (told_apart ks A B)

  was : rows_stream c point types rows ≡ trace_before d ks (T A)
  was =
      ap (λ (ns : List (List ℕ)). stream_with point ns types false (rows_steps c.has_header ns rows)) (sym at.names)
      ∙ ap (stream_with point body.names types false) (sym (append-nil A)) ∙ at.known false [] ∙ ap (stream_by d ks) (append-nil A) ∙ by_named d ks A at.named

  text_now : trace_text (rows_stream c point types rows).written ++ rows_text body.form (rows_before (T B)) ≡ trace_text (rows_stream c point types (rows ++ own)).written
  text_now =
      let e : PointDecl = declaration_of point body.names ks in
      ap (λ (s : Stream). trace_text s.written ++ rows_text body.form (rows_before (T B))) was
      ∙ ap (λ (f : Form). trace_text (writes_of d ks (rows_before (T A))) ++ rows_text f (rows_before (T B))) body.formed
      ∙ ap (λ (x : PointDecl). trace_text (writes_of x ks (rows_before (T A))) ++ rows_text (form_of x ks) (rows_before (T B))) at.declared
      ∙ sym (text_more point body.names ks (rows_before (T A)) (rows_before (T B)))
      ∙ ap (λ (x : PointDecl). trace_text (writes_of x ks (rows_before (T A) ++ rows_before (T B)))) (sym at.declared)
      ∙ ap (λ (l : List Placed). trace_text (writes_of d ks l)) (sym (before_none (T A) (T B) at.told))
      ∙ ap (λ (s : Stream). trace_text s.written) (sym now_is)

  refusal_now : first_refusal (T B) ≡ (rows_stream c point types (rows ++ own)).refusal
  refusal_now = sym (refused_behind (T A) (T B) at.told) ∙ ap (λ (s : Stream). s.refusal) (sym now_is)

  pub body_goes : {X : Type 0} (r : Result X Stop) (base old new : Texts) (start before after : ℕ)
      → old ≡ with_bytes base Report (trace_text (rows_stream c point types rows).written) → before ≡ start
      → Writes (rows_text body.form (rows_before (T B))) (first_refusal (T B)) old new before after r
      → Writes (trace_text (rows_stream c point types (rows ++ own)).written) (rows_stream c point types (rows ++ own)).refusal base new start after r
  body_goes r base old new start before after is calm h =
      subst (λ (text : List ℕ). Writes text (rows_stream c point types (rows ++ own)).refusal base new start after r) text_now
      (subst (λ (o : Option Refusal). Writes (trace_text (rows_stream c point types rows).written ++ rows_text body.form (rows_before (T B))) o base new start after r) refusal_now
      (writes_after r (trace_text (rows_stream c point types rows).written) (rows_text body.form (rows_before (T B))) (first_refusal (T B)) base old new start before after is calm h))

  pub body_stays : first_refusal (T B) ≡ None → IsBody c point types body (rows ++ own)
  body_stays none = record {
    some = omega (arith, at.some, length-append rows own);
    names = same_names;
    known = λ ended more.
        let apart : rows_steps c.has_header body.names (rows ++ own) ++ more ≡ A ++ (B ++ more) =
        ap (λ (l : List Step). l ++ more) (steps_apart c.has_header body.names rows own) ∙ append_assoc A B more in
        ap (stream_with point body.names types ended) apart ∙ at.known ended (B ++ more) ∙ ap (stream_by d ks) (sym apart);
    declared = at.declared;
    named = at.named;
    told = ap (λ (l : List Step). first_refusal (T l)) (steps_apart c.has_header body.names rows own) ∙ ap first_refusal (told_apart ks A B) ∙ refused_behind (T A) (T B) at.told ∙ none;
  }

-- ---- what the rows so far came to
-- rows behind those that are held
pub front_ready : (c : Command) (types : ℕ) (front : Front) (rows own : List Placed) → IsFront c types front rows → IsReady c types front rows own
front_ready c types front rows own at = record {
  some = omega (arith, at.some, length-append rows own);
  names =
      at.ready.names ∙ ap (λ (l : List Placed). names_by c.has_header (first_cells l)) (append-nil rows)
      ∙ ap (names_by c.has_header) (sym (first_stays rows own at.some));
  held = at.ready.held;
  judged = at.ready.judged;
  going = at.ready.going;
}

pub front_nothing : (c : Command) (point : List ℕ) (types : ℕ) (front : Front) (rows : List Placed) → IsFront c types front rows
    → rows_stream c point types rows ≡ nothing
front_nothing c point types front rows at =
    ap (rows_stream c point types) (sym (append-nil rows)) ∙ still_nothing c point types front rows [] at.ready front.judge refl at.ready.going

none_taken : (types : ℕ) → 0 < types → first_refusal (take {A = Step} types []) ≡ None
none_taken zero some = absurd (omega (arith, some))
none_taken (suc n) some = refl

pub start_nothing : (c : Command) (point : List ℕ) (types : ℕ) → 0 < types → rows_stream c point types [] ≡ nothing
start_nothing c point types some = written_nothing point (names_by c.has_header []) types [] (none_taken types some) some

still_going : (types columns : ℕ) → 0 < types → is_done (fresh (Some types) columns) ≡ false
still_going zero columns some = absurd (omega (arith, some))
still_going (suc n) columns some = refl

-- the first rows, whose first gives the names
pub first_ready : (c : Command) (types : ℕ) (front : Front) (names : List (List ℕ)) (own : List Placed) → 0 < types → first_names c.has_header own ≡ Some names
    → front ≡ record { names = names; judge = fresh (Some types) (length names); held = [] } → IsReady c types front [] own
first_ready c types front names [] some e is = absurd (cc e)
first_ready c types front names (row ∷ rows) some e is =
    let same : names_by c.has_header row.cells ≡ names = cc e in
    let fresh_front : Front = record { names = names; judge = fresh (Some types) (length names); held = [] } in
    subst (λ (f : Front). IsReady c types f [] (row ∷ rows)) (sym is)
    (record { some = omega arith; names = sym same; held = refl; judged = refl; going = still_going types (length names) some })

pub no_first : (header : Bool) (own : List Placed) → first_names header own ≡ None → own ≡ []
no_first header [] e = refl
no_first header (row ∷ rows) e = absurd (cc e)

-- nothing was written before
pub from_nothing : {X : Type 0} (r : Result X Stop) (stream : Stream) (due : List ℕ) (refusal : Option Refusal) (base old new : Texts) (start before after : ℕ)
    → stream ≡ nothing → old ≡ with_bytes base Report (trace_text stream.written) → before ≡ start
    → Writes due refusal old new before after r → Writes due refusal base new start after r
from_nothing r stream due refusal base old new start before after none is calm h =
    let same : old ≡ base = is ∙ ap (λ (s : Stream). with_bytes base Report (trace_text s.written)) none ∙ added_nil base Report in
    subst (λ (n : ℕ). Writes due refusal base new n after r) calm (subst (λ (t : Texts). Writes due refusal t new before after r) same h)

-- ---- memory ran out before anything was written
pub goes_none : {X : Type 0} (c : Command) (point : List ℕ) (types : ℕ) (at : Stage) (own : List Placed) (old : Texts) (now : ℕ) (Stands : X → List Placed → Type 0)
    → Goes {A = X} c point types at own old old now now Stands (Err NoMemory)
goes_none {X} c point types stage.Start own old now Stands rows base start (none, some) is calm =
    let due : List ℕ = trace_text (rows_stream c point types (rows ++ own)).written in
    let refusal : Option Refusal = (rows_stream c point types (rows ++ own)).refusal in
    let nothing_yet : rows_stream c point types rows ≡ nothing = ap (rows_stream c point types) none ∙ start_nothing c point types some in
    (from_nothing {X = X} (Err NoMemory) (rows_stream c point types rows) due refusal base old old start now now nothing_yet is calm (adds_none old due, refl), tt)
goes_none {X} c point types (stage.Front front) own old now Stands rows base start at is calm =
    let due : List ℕ = trace_text (rows_stream c point types (rows ++ own)).written in
    let refusal : Option Refusal = (rows_stream c point types (rows ++ own)).refusal in
    (from_nothing {X = X} (Err NoMemory) (rows_stream c point types rows) due refusal base old old start now now (front_nothing c point types front rows at) is calm (adds_none old due, refl), tt)
goes_none {X} c point types (stage.Body body) own old now Stands rows base start at is calm = (
  body_goes c point types body rows own at {X = X} (Err NoMemory) base old old start now now is calm
      (adds_none old (rows_text body.form (rows_before (told_steps body.plan.kinds (rows_steps c.has_header body.names own)))), refl),
  tt,
)

-- ---- one stage behind another
-- rows behind those that are held
pub goes_front : {X : Type 0} (r : Result X Stop) (c : Command) (point : List ℕ) (types : ℕ) (front : Front) (own : List Placed) (old new : Texts) (before after : ℕ)
    (Stands : X → List Placed → Type 0)
    → ((rows : List Placed) → IsReady c types front rows own
    → Writes (trace_text (rows_stream c point types (rows ++ own)).written) (rows_stream c point types (rows ++ own)).refusal old new before after r
    × IfOk r (λ a. Stands a (rows ++ own)))
    → Goes c point types (stage.Front front) own old new before after Stands r
goes_front r c point types front own old new before after Stands h rows base start at is calm =
    let own_h = h rows (front_ready c types front rows own at) in (
      from_nothing r (rows_stream c point types rows) (trace_text (rows_stream c point types (rows ++ own)).written) (rows_stream c point types (rows ++ own)).refusal base old new start before after
          (front_nothing c point types front rows at) is calm own_h.0,
      own_h.1,
    )

-- the first rows
pub goes_first : {X : Type 0} (r : Result X Stop) (c : Command) (point : List ℕ) (types : ℕ) (front : Front) (names : List (List ℕ)) (own : List Placed) (old new : Texts) (before after : ℕ)
    (Stands : X → List Placed → Type 0)
    → first_names c.has_header own ≡ Some names → front ≡ record { names = names; judge = fresh (Some types) (length names); held = [] }
    → ((rows : List Placed) → IsReady c types front rows own
    → Writes (trace_text (rows_stream c point types (rows ++ own)).written) (rows_stream c point types (rows ++ own)).refusal old new before after r
    × IfOk r (λ a. Stands a (rows ++ own)))
    → Goes c point types stage.Start own old new before after Stands r
goes_first {X} r c point types front names own old new before after Stands named is_fresh h rows base start (none, some) is calm =
    let own_h = h [] (first_ready c types front names own some named is_fresh) in
    let so_far : rows_stream c point types rows ≡ nothing = ap (rows_stream c point types) none ∙ start_nothing c point types some in
    let both : Writes (trace_text (rows_stream c point types own).written) (rows_stream c point types own).refusal base new start after r × IfOk r (λ a. Stands a own) =
    (from_nothing r (rows_stream c point types rows) (trace_text (rows_stream c point types own).written) (rows_stream c point types own).refusal base old new start before after so_far is calm own_h.0, own_h.1) in
    subst (λ (l : List Placed). Writes (trace_text (rows_stream c point types (l ++ own)).written) (rows_stream c point types (l ++ own)).refusal base new start after r × IfOk r (λ a. Stands a (l ++ own)))
    (sym none) both

-- no row came
pub goes_unnamed : (c : Command) (point : List ℕ) (types : ℕ) (own : List Placed) (old : Texts) (now : ℕ) (taken : Taken)
    → first_names c.has_header own ≡ None → taken.stage ≡ stage.Start
    → Goes c point types stage.Start own old old now now (IsTaken c point types) (Ok taken)
goes_unnamed c point types own old now taken e at_start rows base start (none, some) is calm =
    let all : rows ++ own ≡ [] = ap (λ (l : List Placed). l ++ own) none ∙ no_first c.has_header own e in
    let empty : rows_stream c point types (rows ++ own) ≡ nothing = ap (rows_stream c point types) all ∙ start_nothing c point types some in
    let so_far : rows_stream c point types rows ≡ nothing = ap (rows_stream c point types) none ∙ start_nothing c point types some in (
      (
        ap (λ (s : Stream). s.refusal) empty,
        is ∙ ap (λ (s : Stream). with_bytes base Report (trace_text s.written)) (so_far ∙ sym empty),
        calm,
      ),
      subst (λ (s : Stage). IsAt c point types s (rows ++ own)) (sym at_start) (all, some),
    )

-- ---- a chunk behind those that are held
pub held_more : (separator : ℕ) (held : List Chunk) (chunk : Chunk) (rows : List Placed) → held_rows separator held ≡ rows
    → held_rows separator (held ++ chunk ∷ []) ≡ rows ++ chunk_rows separator chunk
held_more separator held chunk rows is =
    flat_map-append (chunk_rows separator) held (chunk ∷ []) ∙ ap (λ (l : List Placed). l ++ (chunk_rows separator chunk ++ [])) is
    ∙ ap (λ (l : List Placed). rows ++ l) (append-nil (chunk_rows separator chunk))

module _ (c : Command) (point : List ℕ) (types : ℕ) (front : Front) (rows own : List Placed) (at : IsReady c types front rows own) where
  abbrev now_all : Stream
  now_all = rows_stream c point types (rows ++ own)

  -- why kinds weren't found
  pub take_fault : {B : Type 0} (A : Type 0) (shown : B → Judged) (f : TableFault) (ns : List (List ℕ)) (old : Texts) (now : ℕ) → ns ≡ front.names
      → Answers shown (judging_steps front.judge (rows_steps c.has_header ns own)) (Err f)
      → Writes {A = A} (trace_text now_all.written) now_all.refusal old old now now (Err (stop_of_fault f))
  take_fault A shown (fault.Refused refusal) ns old now same e =
      ready_refused c point types front rows own at A refusal old now (ap (λ (l : List (List ℕ)). judging_steps front.judge (rows_steps c.has_header l own)) (sym same) ∙ e)
  take_fault A shown fault.NoMemory ns old now same e = ready_none c point types front rows own at A old now

  module _ (judge : Judged) (ns : List (List ℕ)) (same : ns ≡ front.names) (e : judging_steps front.judge (rows_steps c.has_header ns own) ≡ Ok judge)
      (next : Front) (names : next.names ≡ front.names) (is : next.judge ≡ judge) (held : held_rows c.separator next.held ≡ rows ++ own) where
    found : judging_steps front.judge (rows_steps c.has_header front.names own) ≡ Ok judge
    found = ap (λ (l : List (List ℕ)). judging_steps front.judge (rows_steps c.has_header l own)) (sym same) ∙ e

    abbrev begun_stream : Stream
    begun_stream =
        stream_by (declaration_of point next.names (map kind_by next.judge.columns)) (map kind_by next.judge.columns) (rows_steps c.has_header next.names (held_rows c.separator next.held))

    -- more rows are to be looked at
    pub take_still : is_done judge ≡ false → (old : Texts) (now : ℕ) (taken : Taken) → taken.stage ≡ stage.Front next
        → Writes (trace_text now_all.written) now_all.refusal old old now now (Ok taken) × IsTaken c point types taken (rows ++ own)
    take_still going old now taken here =
        let none : now_all ≡ nothing = still_nothing c point types front rows own at judge found going in (
          (ap (λ (s : Stream). s.refusal) none, sym (ap (λ (s : Stream). with_bytes old Report (trace_text s.written)) none ∙ added_nil old Report), refl),
          subst (λ (s : Stage). IsAt c point types s (rows ++ own)) (sym here) (still_front c point types front rows own at judge found next names is held going),
        )

    -- those that are held were written, or a front of them
    pub take_stop : is_done judge ≡ true → (A B : Type 0) (stop : Stop) (old new : Texts) (before after : ℕ)
        → Writes {A = A} (trace_text begun_stream.written) begun_stream.refusal old new before after (Err stop)
        → Writes {A = B} (trace_text now_all.written) now_all.refusal old new before after (Err stop)
    take_stop done A B stop old new before after h =
        subst (λ (s : Stream). Writes {A = B} (trace_text s.written) s.refusal old new before after (Err stop))
        (held_begun c point types front rows own at judge found done next names is held) (stop_recast A B stop (trace_text begun_stream.written) begun_stream.refusal old new before after h)

    pub take_begun : is_done judge ≡ true → (body : Body) (old new : Texts) (before after : ℕ) (taken : Taken) → IsBegun c point next body → taken.stage ≡ stage.Body body
        → Writes (trace_text begun_stream.written) begun_stream.refusal old new before after (Ok body)
        → Writes (trace_text now_all.written) now_all.refusal old new before after (Ok taken) × IsTaken c point types taken (rows ++ own)
    take_begun done body old new before after taken begun here h =
        let written : Writes (trace_text now_all.written) now_all.refusal old new before after (Ok body) =
        subst (λ (s : Stream). Writes (trace_text s.written) s.refusal old new before after (Ok body)) (held_begun c point types front rows own at judge found done next names is held) h in (
          (written.0, written.1, written.2),
          subst (λ (s : Stage). IsAt c point types s (rows ++ own)) (sym here) (body_begun c point types front rows own at judge found done next body names is begun written.0),
        )

-- ---- the same with another name
pub goes_as : {X : Type 0} (r : Result X Stop) (c : Command) (point : List ℕ) (types : ℕ) (at other : Stage) (own : List Placed) (old new : Texts) (before after : ℕ)
    (Stands : X → List Placed → Type 0) → at ≡ other → Goes c point types other own old new before after Stands r → Goes c point types at own old new before after Stands r
goes_as r c point types at other own old new before after Stands same h = subst (λ (s : Stage). Goes c point types s own old new before after Stands r) (sym same) h

-- the rows of a chunk
pub chunk_own : (separator file count : ℕ) (bytes : List ℕ) (chunk : Chunk) → chunk.file ≡ file → chunk.front ≡ count → chunk.bytes ≡ bytes
    → chunk_rows separator chunk ≡ rows_behind separator file count bytes
chunk_own separator file count bytes chunk here front same =
    ap (λ (f : ℕ). placed_from f (chunk.front + 1) (records (config_by separator) chunk.bytes)) here
    ∙ ap (λ (n : ℕ). placed_from file (n + 1) (records (config_by separator) chunk.bytes)) front
    ∙ ap (λ (bs : List ℕ). placed_from file (count + 1) (records (config_by separator) bs)) same

module _ (c : Command) (point : List ℕ) (types : ℕ) (at : Stage) (file : ℕ) (before : Place) (bytes : List ℕ) (own : List Placed) (old new : Texts) (start after : ℕ)
    (is : own ≡ rows_behind c.separator file before.count bytes) where
  abbrev behind_rows : List Placed
  behind_rows = rows_behind c.separator file before.count bytes

  pub rows_stop : (stop : Stop) → Goes {A = Taken} c point types at own old new start after (IsTaken c point types) (Err stop)
      → Goes {A = Place} c point types at behind_rows old new start after (IsBehind c point types file before bytes) (Err stop)
  rows_stop stop h rows base first stands so_far calm =
      subst (λ (l : List Placed). Writes {A = Place} (trace_text (rows_stream c point types (rows ++ l)).written) (rows_stream c point types (rows ++ l)).refusal base new first after (Err stop) × ⊤) is
      (stop_recast Taken Place stop (trace_text (rows_stream c point types (rows ++ own)).written) (rows_stream c point types (rows ++ own)).refusal base new first after (h rows base first stands so_far calm).0, tt)

  pub rows_taken : (taken : Taken) (place : Place) → place.stage ≡ taken.stage → place.count ≡ before.count + taken.count → taken.count ≡ length own
      → place.is_paired ≡ (if are_paired bytes then before.is_paired else not before.is_paired)
      → Goes {A = Taken} c point types at own old new start after (IsTaken c point types) (Ok taken)
      → Goes {A = Place} c point types at behind_rows old new start after (IsBehind c point types file before bytes) (Ok place)
  rows_taken taken place here sum counted paired h rows base first stands so_far calm =
      let own_h = h rows base first stands so_far calm in
      let count : place.count ≡ before.count + length behind_rows = sum ∙ ap (λ (n : ℕ). before.count + n) (counted ∙ ap length is) in
      let at_here : IsAt c point types place.stage (rows ++ own) = subst (λ (s : Stage). IsAt c point types s (rows ++ own)) (sym here) own_h.1 in
      subst (λ (l : List Placed). Writes {A = Place} (trace_text (rows_stream c point types (rows ++ l)).written) (rows_stream c point types (rows ++ l)).refusal base new first after (Ok place)
      × (IsAt c point types place.stage (rows ++ l) × (place.count ≡ before.count + length behind_rows) × (place.is_paired ≡ (if are_paired bytes then before.is_paired else not before.is_paired)))) is
      ((own_h.0.0, own_h.0.1, own_h.0.2), (at_here, count, paired))
