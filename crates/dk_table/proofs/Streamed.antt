-- Rows in order, up to the first that is refused.
use Rattle.std.proofs.Common.{◌≡◌, ◌≤◌, ◌<◌, ◌∙◌, ◌∷◌, ◌++◌, [], ℕ, zero, suc, Bool, true, false, List, Option, Some, None, Result, Ok, Err, length, map, take, refl, sym, ap, arith, if◌then◌else◌}
use Rattle.std.proofs.lemmas.Bool.{false≢true, le-leb, lt-leb}
use Rattle.std.proofs.lemmas.Grind.{flat_map-append}
use Rattle.std.proofs.lemmas.List.{length-take, map-append, take_all}
use Rattle.dk_decl.specs.declared.decls.PointDecl.{PointDecl}
use Rattle.dk_table.specs.Columns.Judging.{Judged, fresh, judging, judging_all, kind_by, with_row}
use Rattle.dk_table.specs.Tables.PlacedRows.{Placed}
use Rattle.dk_table.specs.Streams.Stages.{is_done, judging_step, judging_steps}
use Rattle.dk_table.specs.Streams.{Step, first_cells, first_refusal, nothing, nothing_but, row_steps, rows_before, rows_steps, stream_behind, stream_by, stream_known, stream_with, told_step, told_steps, trace_before}
use Rattle.dk_table.specs.Tables.{◌>>=◌}
use Rattle.dk_table.specs.Traces.{are_named, declaration_of, kinds_of}
use Rattle.dk_table.specs.declared.columns.ColumnKind.{ColumnKind}
use Rattle.dk_table.specs.declared.faults.Refusal.{Refusal}
use Rattle.dk_table.specs.declared.faults.TableWhy.TheVariants.{BadName}
use Rattle.dk_table.specs.declared.columns.judging.Column.{Column}
use Rattle.dk_table.proofs.Judged.{kinds_judged}

-- ---- steps one after another
pub steps_apart : (header : Bool) (names : List (List ℕ)) (front rest : List Placed)
    → rows_steps header names (front ++ rest) ≡ rows_steps header names front ++ rows_steps header names rest
steps_apart header names front rest = flat_map-append (row_steps header names) front rest

pub told_apart : (kinds : List ColumnKind) (front rest : List Step) → told_steps kinds (front ++ rest) ≡ told_steps kinds front ++ told_steps kinds rest
told_apart kinds front rest = map-append (told_step kinds) front rest

abbrev either_refusal : Option Refusal → Option Refusal → Option Refusal
either_refusal (Some refusal) more = Some refusal
either_refusal None more = more

refusal_apart : (front rest : List Step) → first_refusal (front ++ rest) ≡ either_refusal (first_refusal front) (first_refusal rest)
refusal_apart [] rest = refl
refusal_apart (Ok row ∷ front) rest = refusal_apart front rest
refusal_apart (Err refusal ∷ front) rest = refl

pub refused_in_front : (front rest : List Step) (refusal : Refusal) → first_refusal front ≡ Some refusal → first_refusal (front ++ rest) ≡ Some refusal
refused_in_front front rest refusal is = refusal_apart front rest ∙ ap (λ (o : Option Refusal). either_refusal o (first_refusal rest)) is

pub refused_behind : (front rest : List Step) → first_refusal front ≡ None → first_refusal (front ++ rest) ≡ first_refusal rest
refused_behind front rest none = refusal_apart front rest ∙ ap (λ (o : Option Refusal). either_refusal o (first_refusal rest)) none

pub before_none : (front rest : List Step) → first_refusal front ≡ None → rows_before (front ++ rest) ≡ rows_before front ++ rows_before rest
before_none [] rest none = refl
before_none (Ok row ∷ front) rest none = ap (λ (l : List Placed). row ∷ l) (before_none front rest none)
before_none (Err refusal ∷ front) rest none = absurd (cc none)

pub before_some : (front rest : List Step) (refusal : Refusal) → first_refusal front ≡ Some refusal → rows_before (front ++ rest) ≡ rows_before front
before_some [] rest refusal some = absurd (cc some)
before_some (Ok row ∷ front) rest refusal some = ap (λ (l : List Placed). row ∷ l) (before_some front rest refusal some)
before_some (Err other ∷ front) rest refusal some = refl

-- Whatever is refused, the rows in front come first.
pub record Apart (front rest : List Step) : Type 0 where
  pub more : List Placed
  pub is : rows_before (front ++ rest) ≡ rows_before front ++ more
  pub some : (refusal : Refusal) → first_refusal front ≡ Some refusal → more ≡ []
  pub none : first_refusal front ≡ None → more ≡ rows_before rest

pub before_apart : (front rest : List Step) → Apart front rest
before_apart [] rest = record { more = rows_before rest; is = refl; some = λ r e. absurd (cc e); none = λ e. refl }
before_apart (Ok row ∷ front) rest =
    let a : Apart front rest = before_apart front rest in
    record { more = a.more; is = ap (λ (l : List Placed). row ∷ l) a.is; some = a.some; none = a.none }
before_apart (Err refusal ∷ front) rest = record { more = []; is = refl; some = λ r e. refl; none = λ e. absurd (cc e) }

pub count_before : (steps : List Step) → first_refusal steps ≡ None → length (rows_before steps) ≡ length steps
count_before [] none = refl
count_before (Ok row ∷ steps) none = ap suc (count_before steps none)
count_before (Err refusal ∷ steps) none = absurd (cc none)

-- ---- finding kinds
abbrev looking : ℕ → List Column → Judged
looking left columns = record { left = Some left; columns = columns }

abbrev unless : Option Refusal → Judged → Result Judged Refusal
unless None j = Ok j
unless (Some refusal) j = Err refusal

judged_steps : (left : ℕ) (columns : List Column) (steps : List Step)
    → judging_steps (looking left columns) steps ≡ unless (first_refusal (take left steps)) (judging_all (looking left columns) (rows_before (take left steps)))
judged_steps zero columns [] = refl
judged_steps (suc n) columns [] = refl
judged_steps zero columns (step ∷ steps) = judged_steps zero columns steps
judged_steps (suc n) columns (Ok row ∷ steps) = judged_steps n (with_row columns row) steps
judged_steps (suc n) columns (Err refusal ∷ steps) = refl

done_many : (left : ℕ) (columns : List Column) (rows : List Placed) → is_done (judging_all (looking left columns) rows) ≡ true → left ≤ length rows
done_many zero columns rows h = omega arith
done_many (suc n) columns [] h = absurd (false≢true h)
done_many (suc n) columns (row ∷ rows) h = let more = done_many n (with_row columns row) rows h in omega (arith, more)

going_few : (left : ℕ) (columns : List Column) (rows : List Placed) → is_done (judging_all (looking left columns) rows) ≡ false → length rows < left
going_few zero columns [] h = absurd (cc h)
going_few zero columns (row ∷ rows) h = absurd (omega (arith, going_few zero columns rows h))
going_few (suc n) columns [] h = omega arith
going_few (suc n) columns (row ∷ rows) h = let more = going_few n (with_row columns row) rows h in omega (arith, more)

-- those of several parts
apart_by : (r : Result Judged Refusal) (front rest : List Step) → ((next : Judged) → judging_steps next (front ++ rest) ≡ (judging_steps next front >>= λ k. judging_steps k rest))
    → (r >>= λ next. judging_steps next (front ++ rest)) ≡ ((r >>= λ next. judging_steps next front) >>= λ next. judging_steps next rest)
apart_by (Ok next) front rest more = more next
apart_by (Err refusal) front rest more = refl

pub judged_apart : (j : Judged) (front rest : List Step) → judging_steps j (front ++ rest) ≡ (judging_steps j front >>= λ next. judging_steps next rest)
judged_apart j [] rest = refl
judged_apart j (step ∷ front) rest = apart_by (judging_step j step) front rest (λ next. judged_apart next front rest)

pub done_stays : (j : Judged) (steps : List Step) → is_done j ≡ true → judging_steps j steps ≡ Ok j
done_stays j [] done = refl
done_stays j (step ∷ steps) done =
    ap (λ (b : Bool). (if b then Ok j else (step >>= λ row. Ok (judging j row))) >>= λ next. judging_steps next steps) done ∙ done_stays j steps done

module _ (types columns : ℕ) (steps : List Step) where
  abbrev front : List Step
  front = take types steps

  abbrev start : Judged
  start = fresh (Some types) columns

  front_short : length front ≤ types
  front_short = omega (arith, length-take types steps)

  -- the rows that are looked at have these kinds
  kinds_are : (j : Judged) → judging_all start (rows_before front) ≡ j → first_refusal front ≡ None → map kind_by j.columns ≡ kinds_of (rows_before front) columns
  kinds_are j is none =
      ap (λ (k : Judged). map kind_by k.columns) (sym is) ∙ kinds_judged (Some types) columns (rows_before front)
      ∙ ap (λ (l : List Placed). kinds_of l columns) (take_all types (rows_before front) (omega (arith, count_before front none, front_short)))

  pub record Looked (j : Judged) : Type 0 where
    pub none : first_refusal front ≡ None
    pub is : judging_all start (rows_before front) ≡ j
    pub kinds : map kind_by j.columns ≡ kinds_of (rows_before front) columns

  pub looked : (j : Judged) → judging_steps start steps ≡ Ok j → Looked j
  looked j e = go (first_refusal front) refl (sym (judged_steps types (fresh (Some types) columns).columns steps) ∙ e)
    where
      go : (o : Option Refusal) → first_refusal front ≡ o → unless o (judging_all start (rows_before front)) ≡ Ok j → Looked j
      go None none e = let is : judging_all start (rows_before front) ≡ j = cc e in record { none = none; is = is; kinds = kinds_are j is none }
      go (Some refusal) some e = absurd (cc e)

  pub looked_refused : (refusal : Refusal) → judging_steps start steps ≡ Err refusal → first_refusal front ≡ Some refusal
  looked_refused refusal e = go (first_refusal front) refl (sym (judged_steps types (fresh (Some types) columns).columns steps) ∙ e)
    where
      go : (o : Option Refusal) → first_refusal front ≡ o → unless o (judging_all start (rows_before front)) ≡ Err refusal → first_refusal front ≡ Some refusal
      go None none e = absurd (cc e)
      go (Some other) some e = let same : other ≡ refusal = cc e in some ∙ ap (λ (r : Refusal). Some r) same

  pub enough : (j : Judged) → judging_steps start steps ≡ Ok j → is_done j ≡ true → types ≤ length steps
  enough j e done =
      let l : Looked j = looked j e in
      let many : types ≤ length (rows_before front) = done_many types (fresh (Some types) columns).columns (rows_before front) (ap is_done l.is ∙ done) in
      omega (arith, many, count_before front l.none, length-take types steps)

  pub few : (j : Judged) → judging_steps start steps ≡ Ok j → is_done j ≡ false → length steps < types
  few j e going =
      let l : Looked j = looked j e in
      let short : length (rows_before front) < types = going_few types (fresh (Some types) columns).columns (rows_before front) (ap is_done l.is ∙ going) in
      omega (arith, short, count_before front l.none, length-take types steps)

-- ---- what is written
pub refused_early : (point : List ℕ) (names : List (List ℕ)) (types : ℕ) (ended : Bool) (steps : List Step) (refusal : Refusal)
    → first_refusal (take types steps) ≡ Some refusal → stream_with point names types ended steps ≡ nothing_but refusal
unfolding stream_with
refused_early point names types ended steps refusal is = ap (stream_behind point names types ended steps) is

pub written_nothing : (point : List ℕ) (names : List (List ℕ)) (types : ℕ) (steps : List Step)
    → first_refusal (take types steps) ≡ None → length steps < types → stream_with point names types false steps ≡ nothing
unfolding stream_with
written_nothing point names types steps none short =
    ap (stream_behind point names types false steps) none
    ∙ ap (λ (b : Bool). if b then (let kinds = kinds_of (rows_before (take types steps)) (length names) in stream_by (declaration_of point names kinds) kinds steps) else nothing)
    (lt-leb types (length steps) short)

pub written_known : (point : List ℕ) (names : List (List ℕ)) (types : ℕ) (ended : Bool) (steps : List Step) (kinds : List ColumnKind)
    → first_refusal (take types steps) ≡ None → types ≤ length steps → kinds ≡ kinds_of (rows_before (take types steps)) (length names)
    → stream_with point names types ended steps ≡ stream_by (declaration_of point names kinds) kinds steps
unfolding stream_with
written_known point names types ended steps kinds none many are =
    ap (stream_behind point names types ended steps) none ∙ go ended
    ∙ ap (λ (ks : List ColumnKind). stream_by (declaration_of point names ks) ks steps) (sym are)
  where
    go : (e : Bool) → stream_known point names types e steps
        ≡ stream_by (declaration_of point names (kinds_of (rows_before (take types steps)) (length names))) (kinds_of (rows_before (take types steps)) (length names)) steps
    go true = refl
    go false =
        ap (λ (b : Bool). if b then stream_by (declaration_of point names (kinds_of (rows_before (take types steps)) (length names))) (kinds_of (rows_before (take types steps)) (length names)) steps else nothing)
        (le-leb types (length steps) many)

pub written_ended : (point : List ℕ) (names : List (List ℕ)) (types : ℕ) (steps : List Step) (kinds : List ColumnKind)
    → first_refusal (take types steps) ≡ None → kinds ≡ kinds_of (rows_before (take types steps)) (length names)
    → stream_with point names types true steps ≡ stream_by (declaration_of point names kinds) kinds steps
unfolding stream_with
written_ended point names types steps kinds none are =
    ap (stream_behind point names types true steps) none ∙ ap (λ (ks : List ColumnKind). stream_by (declaration_of point names ks) ks steps) (sym are)

pub by_named : (d : PointDecl) (kinds : List ColumnKind) (steps : List Step) → are_named d ≡ true → stream_by d kinds steps ≡ trace_before d kinds (told_steps kinds steps)
unfolding stream_by
by_named d kinds steps named =
    ap (λ (b : Bool). if b then trace_before d kinds (told_steps kinds steps) else nothing_but (record { file = 0; row = 1; why = BadName })) named

pub by_unnamed : (d : PointDecl) (kinds : List ColumnKind) (steps : List Step) → are_named d ≡ false
    → stream_by d kinds steps ≡ nothing_but (record { file = 0; row = 1; why = BadName })
unfolding stream_by
by_unnamed d kinds steps named =
    ap (λ (b : Bool). if b then trace_before d kinds (told_steps kinds steps) else nothing_but (record { file = 0; row = 1; why = BadName })) named

-- ---- names
pub first_stays : (rows more : List Placed) → 0 < length rows → first_cells (rows ++ more) ≡ first_cells rows
first_stays [] more some = absurd (omega arith)
first_stays (row ∷ rows) more some = refl
