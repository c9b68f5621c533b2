-- What blocks add to a history.
use Rattle.std.proofs.Common.{◌≡◌, ◌∙◌, ◌+◌, ◌-◌, ◌++◌, ℕ, Bool, true, false, List, [], ◌∷◌, length, replicate, Option, Some, None, Result, Ok, Err, ap, arith, is_some, length-append, refl, subst, sym, if◌then◌else◌}
use Rattle.std.proofs.lemmas.List.{append-nil}
use Rattle.dk_base.specs.Reading.{Line, LineFault, ◌>>=◌}
use Rattle.dk_base.specs.declared.values.Value.{Value}
use Rattle.dk_base.specs.declared.why.Why.{Why}
use Rattle.dk_base.specs.declared.why.Why.TheVariants.{BadHeader, LongLine as WhyLong, TooLong as WhyMany}
use Rattle.dk_decl.proofs.LastLines.{bind_ok}
use Rattle.dk_decl.specs.Blocks.{block_decl as decl_by}
use Rattle.dk_decl.specs.Headers.{awaits_word, is_implicit}
use Rattle.dk_decl.specs.Outcomes.{refused}
use Rattle.dk_decl.specs.declared.decls.PointDecl.{PointDecl}
use Rattle.dk_decl.specs.declared.header.Header.{Header}
use Rattle.dk_lines.specs.Left.{End, Over, Broken, LongLine, TooLong}
use Rattle.dk_points.specs.Declaring.{at_line, declared}
use Rattle.dk_points.specs.Table.{Point}
use Rattle.dk_points.specs.declared.declared.Declared.{Declared}
use Rattle.dk_points.specs.declared.declared.Declared.TheVariants.{New, Same}
use Rattle.dk_trace.specs.Records.{Sample, sample_of}
use Rattle.dk_blocks.proofs.Growing.{declared_points, same_points}
use Rattle.dk_blocks.specs.Adding.{Adds, AddsNothing, AddsPoints, AddsSample, EffectsAreAdded}
use Rattle.dk_blocks.specs.Blocks.{Group, Groups, Last}
use Rattle.dk_blocks.specs.Fronts.{block_front}
use Rattle.dk_blocks.specs.History.{Declares, Effect, History, Nothing, Samples, Taken, after_declaration, after_front, after_lines, after_record, after_sample, base_values, block, block_by, declared_effect, effect_of, is_declaration, is_list_of_implementors, no_block, or_left_out, where_it_ends, with_declaration, with_record, own_samples_with, with_table, with_values, without_record}
use Rattle.dk_blocks.specs.Reading.{Stepped, after_last, after_next, stepped, stop_or}

-- what a block leaves is the history with what it does
abbrev pub AddsOnly : History → Taken → Type 0
AddsOnly h t = Adds h t.effect t.history × (t.history.grammar ≡ h.grammar)

nothing_added : (h : History) → AddsNothing h h
nothing_added h = record { table = refl; samples = refl }

-- another header adds nothing
headed : (h : History) (header : Header) (o : Option Effect) (h' : History) → Adds (record h { header = header }) o h' → Adds h o h'
headed h header None h' a = record { table = a.table; samples = a.samples }
headed h header (Some Nothing) h' a = record { table = a.table; samples = a.samples }
headed h header (Some Declares) h' a = record { more = a.more; table = a.table; samples = a.samples }
headed h header (Some (Samples p line values)) h' a = record { table = a.table; samples = a.samples }

-- what is judged where the block ends
at_end : (close : Option ℕ) (h : History) (r : Result Taken LineFault) (t : Taken) → ((u : Taken) → r ≡ Ok u → AddsOnly h u) → where_it_ends close h r ≡ Ok t → AddsOnly h t
at_end None h r t adds e = let same : no_block h ≡ t = cc e in subst (AddsOnly h) same (nothing_added h, refl)
at_end (Some close) h r t adds e = adds t e

declaration_adds : (h : History) (ps : List Point) (d : PointDecl) (line : ℕ) (x : Declared) → at_line line (declared h.table d) ≡ Ok (ps, x) → AddsOnly h (block_by (declared_effect x) (with_table h ps))
declaration_adds h ps d line (New p) e =
    let extends = declared_points h.table ps d line (New p) e in
    let many : length ps - length h.table ≡ length extends.0 = omega (arith, ap length extends.1, length-append h.table extends.0) in
    let none : List (List Value) = [] in
    (record { more = extends.0; table = extends.1; samples = ap (λ (n : ℕ). h.samples ++ replicate n none) many }, refl)
declaration_adds h ps d line (Same p) e =
    let same = same_points h.table ps d line p e in
    let many : length ps - length h.table ≡ 0 = omega (arith, ap length same) in
    let none : List (List Value) = [] in
    (record { table = same; samples = ap (λ (n : ℕ). h.samples ++ replicate n none) many ∙ append-nil h.samples }, refl)

with_declaration_adds : (h : History) (line : ℕ) (d : PointDecl) (t : Taken) → with_declaration h line d ≡ Ok t → AddsOnly h t
with_declaration_adds h line d t e =
    bind_ok (at_line line (declared h.table d)) (λ r. Ok (block_by (declared_effect r.1) (with_table h r.0))) t e (λ r told done.
    let same : block_by (declared_effect r.1) (with_table h r.0) ≡ t = cc done in
    subst (AddsOnly h) same (declaration_adds h r.0 d line r.1 told))

with_record_adds : (ignores : Bool) (h : History) (s : Sample) (t : Taken) → with_record ignores h s ≡ Ok t → AddsOnly h t
with_record_adds ignores h s t e = by ignores (base_values h.table s h.calls) e
  where
    sampled : (base : List Value) → AddsOnly h (with_values h s base)
    sampled base = (record { table = refl; samples = refl }, refl)

    by : (b : Bool) (r : Result (List Value) LineFault) → or_left_out b h (r >>= λ values. Ok (with_values h s values)) ≡ Ok t → AddsOnly h t
    by true (Ok base) e = let same : with_values h s base ≡ t = cc e in subst (AddsOnly h) same (sampled base)
    by false (Ok base) e = let same : with_values h s base ≡ t = cc e in subst (AddsOnly h) same (sampled base)
    by true (Err fault) e = let same : block h ≡ t = cc e in subst (AddsOnly h) same (nothing_added h, refl)
    by false (Err fault) e = absurd (cc e)

record_adds : (ignores : Bool) (h : History) (first : Line) (ls : List Line) (close : Option ℕ) (t : Taken) → after_record ignores h first ls close ≡ Ok t → AddsOnly h t
record_adds ignores h first ls close t e = by (is_declaration first.bytes) (is_list_of_implementors first.bytes) e
  where
    by : (a b : Bool) → (if a then after_declaration h first ls close else if b then where_it_ends close h (Ok (block h)) else after_sample ignores h first ls close) ≡ Ok t → AddsOnly h t
    by true b e =
        bind_ok (decl_by (is_implicit h.header) first ls close) (λ d. where_it_ends close h (with_declaration h first.number d)) t e (λ d is rest.
        at_end close h (with_declaration h first.number d) t (with_declaration_adds h first.number d) rest)
    by false true e = at_end close h (Ok (block h)) t (λ u is. let same : block h ≡ u = cc is in subst (AddsOnly h) same (nothing_added h, refl)) e
    by false false e =
        bind_ok (sample_of h.table first ls close) (λ s. where_it_ends close h (with_record ignores h s)) t e (λ s is rest.
        at_end close h (with_record ignores h s) t (with_record_adds ignores h s) rest)

alone_adds : (h : History) (last : Option ℕ) (close : Option ℕ) (t : Taken) → without_record h last close ≡ Ok t → AddsOnly h t
alone_adds h None close t e = let same : no_block h ≡ t = cc e in subst (AddsOnly h) same (nothing_added h, refl)
alone_adds h (Some last) close t e = at_end close h _ t (word (awaits_word h.header)) e
  where
    word : (b : Bool) (u : Taken) → (if b then refused BadHeader last else Ok (block h)) ≡ Ok u → AddsOnly h u
    word true u is = absurd (cc is)
    word false u is = let same : block h ≡ u = cc is in subst (AddsOnly h) same (nothing_added h, refl)

lines_add : (ignores : Bool) (h : History) (last : Option ℕ) (ls : List Line) (close : Option ℕ) (t : Taken) → after_lines ignores h last ls close ≡ Ok t → AddsOnly h t
lines_add ignores h last [] close t e = alone_adds h last close t e
lines_add ignores h last (l ∷ ls) close t e = record_adds ignores h l ls close t e

pub added : EffectsAreAdded
unfolding effect_of
added ignores h ls close t e =
    bind_ok (block_front h.header None ls) (λ front. after_front ignores h front close) t e (λ front is rest.
    let own = lines_add ignores (record h { header = front.header }) front.last front.lines close t rest in
    (headed h front.header t.effect t.history own.0, own.1))

-- ---- the next block

-- behind a history to which nothing was added
behind : (h h1 h2 : History) (o : Option Effect) → AddsNothing h h1 → Adds h1 o h2 → Adds h o h2
behind h h1 h2 None n a = record { table = a.table ∙ n.table; samples = a.samples ∙ n.samples }
behind h h1 h2 (Some Nothing) n a = record { table = a.table ∙ n.table; samples = a.samples ∙ n.samples }
behind h h1 h2 (Some Declares) n a =
    let none : List (List Value) = [] in
    record {
      more = a.more;
      table = a.table ∙ ap (λ (ps : List Point). ps ++ a.more) n.table;
      samples = a.samples ∙ ap (λ (own : List (List (List Value))). own ++ replicate (length a.more) none) n.samples;
    }
behind h h1 h2 (Some (Samples p line values)) n a = record { table = a.table ∙ n.table; samples = a.samples ∙ ap (λ (own : List (List (List Value))). own_samples_with own p values) n.samples }

-- what a step through the groups leaves is the history with what its block does
abbrev pub AddsStep : History → Stepped → Type 0
AddsStep h step = Adds h step.effect step.history × (step.history.grammar ≡ h.grammar)

never : (n : ℕ) (why : Why) (r : Result Taken LineFault) (t : Taken) → (r >>= λ _. Err (record { line = n; why = why })) ≡ Ok t → ⊥
never n why (Ok u) t e = cc e
never n why (Err f) t e = cc e

last_adds : (ignores : Bool) (h : History) (ls : List Line) (end : End) (t : Taken) → after_last (effect_of ignores h) ls end ≡ Ok t → AddsOnly h t
last_adds ignores h ls (Over n) t e = added ignores h ls (Some n) t e
last_adds ignores h ls Broken t e = added ignores h ls None t e
last_adds ignores h ls (LongLine n) t e = absurd (never n WhyLong (effect_of ignores h ls None) t e)
last_adds ignores h ls (TooLong n) t e = absurd (never n WhyMany (effect_of ignores h ls None) t e)

pub next_added : (ignores : Bool) (h : History) (gs : Groups) (step : Stepped) → after_next ignores (effect_of ignores h) gs ≡ Ok step → AddsStep h step
next_added ignores h (Group ls close rest) step e =
    bind_ok (effect_of ignores h ls (Some close)) (λ t. stop_or t rest (after_next ignores (effect_of ignores t.history) rest)) step e (λ t is more.
    by t t.effect refl (added ignores h ls (Some close) t is) (next_added ignores t.history rest step) more)
  where
    by : (t : Taken) (o : Option Effect) → t.effect ≡ o → AddsOnly h t → (after_next ignores (effect_of ignores t.history) rest ≡ Ok step → AddsStep t.history step)
        → (if is_some o then Ok (record { effect = o; history = t.history; left = rest }) else after_next ignores (effect_of ignores t.history) rest) ≡ Ok step → AddsStep h step
    by t (Some effect) is own later e =
        let same : record { effect = Some effect; history = t.history; left = rest } ≡ step = cc e in
        subst (AddsStep h) same (subst (λ (o : Option Effect). Adds h o t.history) is own.0, own.1)
    by t None is own later e =
        let more = later e in
        (behind h t.history step.history step.effect (subst (λ (o : Option Effect). Adds h o t.history) is own.0) more.0, more.1 ∙ own.1)
next_added ignores h (Last ls end) step e =
    bind_ok (after_last (effect_of ignores h) ls end) (λ t. Ok (stepped t (Last [] end))) step e (λ t is done.
    let same : stepped t (Last [] end) ≡ step = cc done in
    subst (AddsStep h) same (last_adds ignores h ls end t is))
