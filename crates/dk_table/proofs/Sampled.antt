-- The rows of a table as samples.
use Rattle.std.proofs.Common.{◌≡◌, ◌-◌, ◌∙◌, ◌∷◌, ◌++◌, [], ℕ, Bool, true, false, List, Option, Some, None, Result, Ok, append-nil, append_assoc, flat_map, length, map, replicate, slice_set, refl, sym, ap, if◌then◌else◌, arith}
use Rattle.std.specs.Prelude.{is_some, unwrap_or}
use Rattle.std.specs.List.{zip}
use Rattle.std.proofs.Math.Seq.{get_or-append_seam, set-append_seam}
use Rattle.dk_base.specs.Reading.{LineFault, ◌>>=◌}
use Rattle.dk_base.specs.declared.values.Value.{Value}
use Rattle.dk_base.specs.declared.why.Why.{Why}
use Rattle.dk_base.specs.declared.why.Why.TheVariants.{UnknownPoint}
use Rattle.dk_blocks.specs.Blocks.{groups_of}
use Rattle.dk_blocks.specs.Reading.{after_all}
use Rattle.dk_lines.specs.Left.{Left}
use Rattle.dk_lines.proofs.Whole.{whole_file}
use Rattle.dk_blocks.specs.History.{History, Taken, base_values, block_by, declared_effect, effect_of, nothing_by, or_left_out, own_samples_with, with_record, with_table, with_values}
use Rattle.dk_calls.specs.Records.{values_at_exit}
use Rattle.dk_decl.specs.Outcomes.{or_refused}
use Rattle.dk_decl.specs.declared.decls.PointDecl.{PointDecl}
use Rattle.dk_points.specs.Declaring.{at_line, has_many_vars}
use Rattle.dk_points.specs.Table.{Point, added_points}
use Rattle.dk_points.specs.Vars.{entry_of}
use Rattle.dk_points.specs.declared.declared.Declared.{Declared}
use Rattle.dk_template.specs.declared.grammar.Grammar.{Grammar}
use Rattle.dk_trace.specs.Records.{Sample, declared_place}
use Rattle.dk_write.specs.Course.{done, done_all, line_behind}
use Rattle.dk_write.specs.Records.{Recorded, sample_at, sample_values, told_values}
use Rattle.dk_write.specs.Texts.{Begins, Declares, Records, Write, trace_text}
use Rattle.dk_table.specs.Laws.{HasOnly, HasTable, RowsAreSamples, row_values}
use Rattle.dk_table.specs.Tables.PlacedRows.{Placed}
use Rattle.dk_table.specs.Traces.{declaration_of, judged, kinds_of, record_of, records_of, value_at, var_of, writes_of}
use Rattle.dk_table.specs.declared.columns.ColumnKind.{ColumnKind}
use Rattle.dk_table.proofs.Counted.{few_vars}
use Rattle.dk_table.proofs.Begun.{IsBegun, begins, begun}
use Rattle.dk_table.proofs.Traced.{IsTraced, kinds_length, made_of, table_of, tables_read}

-- ---- a record

record_done : (ignores : Bool) (h : History) (line p : ℕ) (r : Recorded) → declared_place h.table r.decl.name ≡ Some p → entry_of h.table p ≡ None
    → done ignores h line (Records r) ≡ Ok (with_values h (sample_at line p r) (sample_values r))
unfolding done base_values
record_done ignores h line p r place entry =
    ap (λ (o : Option ℕ). or_refused UnknownPoint line o >>= λ q. with_record ignores h (sample_at line q r)) place
    ∙ ap (λ (o : Option ℕ). or_left_out ignores h ((if is_some o then values_at_exit h.table s h.calls else Ok s.values) >>= λ values. Ok (with_values h s values))) entry
    ∙ by ignores
  where
    s : Sample
    s = sample_at line p r

    by : (b : Bool) → or_left_out b h (Ok (with_values h s s.values)) ≡ Ok (with_values h s s.values)
    by true = refl
    by false = refl

-- the sample has the row's values
values_read : (names : List (List ℕ)) (kinds : List ColumnKind) (cells : List (List ℕ)) → length kinds ≡ length names
    → flat_map told_values (zip (map var_of (zip names kinds)) (map value_at (zip kinds cells))) ≡ map value_at (zip kinds cells)
values_read [] [] cells even = refl
values_read [] (k ∷ kinds) cells even = absurd (omega (arith, even))
values_read (n ∷ names) [] cells even = absurd (omega (arith, even))
values_read (n ∷ names) (k ∷ kinds) [] even = refl
values_read (n ∷ names) (k ∷ kinds) (c ∷ cells) even = ap (λ (values : List Value). value_at (k, c) ∷ values) (values_read names kinds cells (omega (arith, even)))

-- ---- the records

-- the last of these points has these samples, behind what others have
record Stands (h : History) (ps : List Point) (front : List (List (List Value))) (own : List (List Value)) : Type 0 where
  table : h.table ≡ ps
  samples : h.samples ≡ front ++ own ∷ []

one_more : (front : List (List (List Value))) (own : List (List Value)) (values : List Value)
    → own_samples_with (front ++ own ∷ []) (length front) values ≡ front ++ (own ++ values ∷ []) ∷ []
one_more front own values =
    ap (λ (now : List (List Value)). slice_set (front ++ own ∷ []) (length front) (now ++ values ∷ [])) (get_or-append_seam front own [] [])
    ∙ set-append_seam front own [] (own ++ values ∷ [])

records_done : (ignores : Bool) (h : History) (line : ℕ) (point : List ℕ) (names : List (List ℕ)) (kinds : List ColumnKind) (rows : List Placed)
    (ps : List Point) (front : List (List (List Value))) (own : List (List Value)) → length kinds ≡ length names
    → IsBegun (declaration_of point names kinds) ps front → Stands h ps front own
    → (last : History) × (done_all ignores h line (records_of (declaration_of point names kinds) kinds rows) ≡ Ok last)
    × Stands last ps front (own ++ map (row_values kinds) rows)
records_done ignores h line point names kinds [] ps front own even first stands =
    (h, refl, record { table = stands.table; samples = stands.samples ∙ ap (λ (l : List (List Value)). front ++ l ∷ []) (sym (append-nil own)) })
records_done ignores h line point names kinds (row ∷ rows) ps front own even first stands =
    let d : PointDecl = declaration_of point names kinds in
    let r : Recorded = record_of d kinds row in
    let p : ℕ = length front in
    let t : Taken = with_values h (sample_at line p r) (sample_values r) in
    let next : ℕ = line_behind line (Records r) in
    let step : done ignores h line (Records r) ≡ Ok t =
    record_done ignores h line p r (ap (λ (qs : List Point). declared_place qs point) stands.table ∙ first.place) (ap (λ (qs : List Point). entry_of qs p) stands.table ∙ first.entry) in
    let now : Stands t.history ps front (own ++ row_values kinds row ∷ []) = record {
      table = stands.table;
      samples =
          ap (λ (all : List (List (List Value))). own_samples_with all p (sample_values r)) stands.samples ∙ one_more front own (sample_values r)
          ∙ ap (λ (values : List Value). front ++ (own ++ values ∷ []) ∷ []) (values_read names kinds row.cells even);
    } in
    let rest = records_done ignores t.history next point names kinds rows ps front (own ++ row_values kinds row ∷ []) even first now in (
      rest.0,
      ap (λ (taken : Result Taken LineFault). taken >>= λ u. done_all ignores u.history next (records_of d kinds rows)) step ∙ rest.1,
      record {
        table = rest.2.table;
        samples = rest.2.samples ∙ ap (λ (l : List (List Value)). front ++ l ∷ []) (append_assoc own (row_values kinds row ∷ []) (map (row_values kinds) rows));
      },
    )

-- ---- the trace

trace_done : (ignores : Bool) (grammar : Grammar) (point : List ℕ) (names : List (List ℕ)) (kinds : List ColumnKind) (rows : List Placed) → length kinds ≡ length names
    → has_many_vars [] (declaration_of point names kinds) ≡ false
    → (h : History) × (done_all ignores (nothing_by grammar) 1 (writes_of (declaration_of point names kinds) kinds rows) ≡ Ok h)
    × HasOnly h (declaration_of point names kinds) (map (row_values kinds) rows)
unfolding done
trace_done ignores grammar point names kinds rows even few =
    let d : PointDecl = declaration_of point names kinds in
    let ps : List Point = added_points [] d in
    let none : History = nothing_by grammar in
    let line : ℕ = line_behind 1 Begins in
    let next : ℕ = line_behind line (Declares d) in
    let first = begun point names kinds in
    let step = begins point names kinds first.0 first.1 few in
    let none_yet : List (List Value) = [] in
    let all : length ps - 0 ≡ length ps = omega arith in
    let stands : Stands (with_table none ps) ps first.0 [] =
    record { table = refl; samples = ap (λ (n : ℕ). replicate n none_yet) all ∙ first.1.others } in
    let rest = records_done ignores (with_table none ps) next point names kinds rows ps first.0 [] even first.1 stands in (
      rest.0,
      ap (λ (r : Result (List Point × Declared) Why). at_line line r >>= (λ u. Ok (block_by (declared_effect u.1) (with_table none u.0))) >>= λ t. done_all ignores t.history next (records_of d kinds rows)) step ∙ rest.1,
      record {
        table = rest.2.table;
        sampled =
            rest.2.samples
            ∙ ap (λ (front : List (List (List Value))). front ++ map (row_values kinds) rows ∷ [])
            (first.1.front_is ∙ ap (λ (qs : List Point). replicate (length qs - 1) []) (sym rest.2.table));
      },
    )

pub rows_sampled : RowsAreSamples
rows_sampled c name files ws e =
    let t : HasTable c files = table_of c name files ws e in
    let kinds : List ColumnKind = kinds_of (judged c.types t.rows) (length t.names) in
    let point : List ℕ = unwrap_or c.point name in
    let made : IsTraced (declaration_of point t.names kinds) kinds t.rows ws = made_of c name files ws t e in (
      t,
      (λ few line room keeps ignores grammar.
          let whole =
          trace_done ignores grammar point t.names kinds t.rows (kinds_length (judged c.types t.rows) (length t.names)) (few_vars point t.names kinds few) in (
            whole.0,
            ap (λ (l : Left). after_all ignores (effect_of ignores (nothing_by grammar)) (groups_of l)) (whole_file line room 0 (trace_text ws) keeps.lines keeps.whole)
                ∙ tables_read c name files ws e ignores (nothing_by grammar) refl ∙ ap (λ (us : List Write). done_all ignores (nothing_by grammar) 1 us) (sym made.is) ∙ whole.1,
            whole.2,
          )),
    )
