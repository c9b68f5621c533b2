-- What the blocks of a trace do, one after another.
use Rattle.std.specs.Prelude.{◌≡◌, ◌+◌, ℕ, Bool, false, List, [], ◌∷◌, ◌++◌, ⊤, Contains, length, IfOk, IsTrue, Some, Result, Ok}
use Rattle.dk_base.specs.Reading.{LineFault, ◌>>=◌}
use Rattle.dk_base.specs.declared.why.Why.TheVariants.{UnknownPoint}
use Rattle.dk_decl.specs.Headers.{awaits_word, first_header}
use Rattle.dk_decl.specs.Outcomes.{or_refused}
use Rattle.dk_decl.specs.declared.decls.PointDecl.{PointDecl}
use Rattle.dk_points.specs.Table.{Point}
use Rattle.dk_trace.specs.Records.{declared_place, var_decls_at}
use Rattle.dk_blocks.specs.History.{History, Taken, block, with_declaration, with_record}
use Rattle.dk_write.specs.Records.{sample_at}
use Rattle.dk_write.specs.Texts.{Write, Begins, Declares, Records, block_lines}
use Rattle.dk_write.specs.Writable.{IsRecordWithin, IsWithin, can_declare, can_record}

-- What is written does to a history, where its block begins at this line. It takes whether exits without an entry are left out.
unfoldable pub done : Bool → History → ℕ → Write → Result Taken LineFault
done ignores h line Begins = Ok (block (record h { header = first_header }))
done ignores h line (Declares d) = with_declaration h line d
done ignores h line (Records r) =
    or_refused UnknownPoint line (declared_place h.table r.decl.name) >>= λ p. with_record ignores h (sample_at line p r)

-- the line at which the next block begins: a blank line stands between the two
abbrev pub line_behind : ℕ → Write → ℕ
line_behind line w = line + length (block_lines w) + 1

-- one after another, the first of which begins at this line
abbrev pub done_all : Bool → History → ℕ → List Write → Result History LineFault
done_all ignores h line [] = Ok h
done_all ignores h line (w ∷ ws) = done ignores h line w >>= λ t. done_all ignores t.history (line_behind line w) ws

-- the table has this declaration at its name
abbrev pub HasDeclared : List Point → PointDecl → Type 0
HasDeclared ps d = (p : ℕ) × (declared_place ps d.name ≡ Some p) × (var_decls_at ps p ≡ d.vars)

-- A declaration that its lines tell, and a record that its lines tell, of a point that is declared so.
abbrev pub IsReadable : History → Write → Type 0
IsReadable h Begins = awaits_word h.header ≡ false
IsReadable h (Declares d) = (h.header ≡ first_header) × IsTrue (can_declare d) × IsWithin d
IsReadable h (Records r) =
    (h.header ≡ first_header) × IsTrue (can_declare r.decl) × IsTrue (can_record r) × IsRecordWithin r × HasDeclared h.table r.decl

-- each of them is, with what those before it did
abbrev pub AreReadable : Bool → History → ℕ → List Write → Type 0
AreReadable ignores h line [] = ⊤
AreReadable ignores h line (w ∷ ws) =
    IsReadable h w × IfOk (done ignores h line w) (λ t. AreReadable ignores t.history (line_behind line w) ws)

-- What a writer writes behind the header lines, where it has declared these points: declarations that their lines tell, and of declared points
-- records that theirs tell.
abbrev pub AreWritten : List PointDecl → List Write → Type 0
AreWritten ds [] = ⊤
AreWritten ds (Begins ∷ ws) = ⊥
AreWritten ds (Declares d ∷ ws) = IsTrue (can_declare d) × IsWithin d × AreWritten (ds ++ d ∷ []) ws
AreWritten ds (Records r ∷ ws) = Contains ds r.decl × IsTrue (can_record r) × IsRecordWithin r × AreWritten ds ws
