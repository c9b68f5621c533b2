-- A block of what is written does what it is meant to.
use Rattle.std.proofs.Common.{◌≡◌, ◌+◌, ◌∙◌, ◌==◌, ◌&&◌, ◌∷◌, ◌++◌, [], ℕ, Bool, true, false, List, Option, Some, None, Result, Ok, codes, length, map, flat_map, is_none, refl, sym, ap}
use Rattle.std.specs.Prelude.{not}
use Rattle.std.specs.List.{list_all, zip}
use Rattle.std.proofs.lemmas.Bool.{and_parts, eqb-true, false≢true, not-true}
use Rattle.dk_base.specs.Names.{escaped}
use Rattle.dk_base.specs.Reading.{Line, LineFault, ◌>>=◌}
use Rattle.dk_base.specs.declared.why.Why.{Why}
use Rattle.dk_blocks.specs.Fronts.{Front, block_front}
use Rattle.dk_blocks.specs.History.{History, after_declaration, after_front, after_record, effect_of, is_declaration, is_list_of_implementors, where_it_ends, with_declaration, with_record}
use Rattle.dk_decl.specs.Blocks.{block_decl}
use Rattle.dk_decl.specs.Comments.{is_comment}
use Rattle.dk_decl.specs.Headers.{awaits_word, comparability_word, first_header, header_line, is_implicit}
use Rattle.dk_decl.specs.LineWords.{begins, operand}
use Rattle.dk_decl.specs.declared.decls.PointDecl.{PointDecl}
use Rattle.dk_decl.specs.declared.header.Header.{Header}
use Rattle.dk_lines.specs.Passing.{numbered_lines}
use Rattle.dk_trace.specs.Records.{Sample, declared_place, sample_of}
use Rattle.dk_write.specs.Course.{IsReadable, done}
use Rattle.dk_write.specs.Declarations.{declaration_lines, edge_line, point_line, var_lines}
use Rattle.dk_write.specs.Laws.{BlocksAreRead}
use Rattle.dk_write.specs.Records.{Recorded, nonce_lines, record_lines, sample_at, told_lines}
use Rattle.dk_write.specs.Texts.{Begins, Declares, Records, header_lines}
use Rattle.dk_write.specs.Writable.{IsWithin, begins_record, can_declare, can_record, is_told_value}
use Rattle.dk_write.proofs.Declared.{ppt_read}
use Rattle.dk_write.proofs.Recorded.{sample_read}

-- ---- the front of a block

none_of : (o : Option (Result Header Why)) → is_none o ≡ true → o ≡ None
none_of None h = refl
none_of (Some r) h = absurd (false≢true h)

-- a record begins at the first line
fronted : (header : Header) (l : Line) (ls : List Line) → is_comment l.bytes ≡ false → header_line header l.bytes ≡ None
    → block_front header None (l ∷ ls) ≡ Ok (record { header = header; last = None; lines = l ∷ ls })
fronted header l ls comment at = rw (comment, at) refl

at_first : (ignores : Bool) (h : History) (l : Line) (ls : List Line) (close : Option ℕ) → is_comment l.bytes ≡ false → header_line h.header l.bytes ≡ None
    → effect_of ignores h (l ∷ ls) close ≡ after_record ignores h l ls close
unfolding effect_of
at_first ignores h l ls close comment at =
    ap (λ (r : Result Front LineFault). r >>= λ front. after_front ignores h front close) (fronted h.header l ls comment at)

-- ---- header lines

version_line : (header : Header) → awaits_word header ≡ false → header_line header (codes "decl-version 2.0") ≡ Some (Ok header)
unfolding header_line begins operand
version_line header h = rw h refl

comparability_line : (header : Header) → awaits_word header ≡ false → header_line header (codes "var-comparability implicit") ≡ Some (Ok first_header)
unfolding header_line begins operand comparability_word
comparability_line header h = rw h refl

no_comment_version : is_comment (codes "decl-version 2.0") ≡ false
unfolding is_comment
no_comment_version = refl

no_comment_comparability : is_comment (codes "var-comparability implicit") ≡ false
unfolding is_comment
no_comment_comparability = refl

headers_fronted : (header : Header) (n : ℕ) → awaits_word header ≡ false
    → block_front header None (numbered_lines n header_lines) ≡ Ok (record { header = first_header; last = Some (n + 1); lines = [] })
headers_fronted header n h = rw (no_comment_version, version_line header h, no_comment_comparability, comparability_line header h) refl

begins_read : (ignores : Bool) (h : History) (n close : ℕ) → awaits_word h.header ≡ false → effect_of ignores h (numbered_lines n header_lines) (Some close) ≡ done ignores h n Begins
unfolding effect_of done
begins_read ignores h n close is =
    ap (λ (r : Result Front LineFault). r >>= λ front. after_front ignores h front (Some close)) (headers_fronted h.header n is)

-- ---- declarations

no_comment_point : (name : List ℕ) → is_comment (point_line name) ≡ false
unfolding is_comment
no_comment_point name = refl

no_header_point : (name : List ℕ) → header_line first_header (point_line name) ≡ None
unfolding header_line begins
no_header_point name = refl

point_declares : (name : List ℕ) → is_declaration (point_line name) ≡ true
unfolding is_declaration
point_declares name = refl

ppt_block : (d : PointDecl) (n close : ℕ) → can_declare d ≡ true → IsWithin d
    → block_decl true (record { number = n; bytes = point_line d.name }) (numbered_lines (n + 1) (map edge_line d.edges ++ flat_map (var_lines d.edges) d.vars)) (Some close) ≡ Ok d
unfolding block_decl
ppt_block d n close can within = ppt_read d n (n + 1) close can within

at_declaration : (ignores : Bool) (h : History) (l : Line) (ls : List Line) (close : Option ℕ) → is_declaration l.bytes ≡ true
    → after_record ignores h l ls close ≡ after_declaration h l ls close
at_declaration ignores h l ls close is = rw is refl

declares_read : (ignores : Bool) (h : History) (n close : ℕ) (d : PointDecl) → h.header ≡ first_header → can_declare d ≡ true → IsWithin d
    → effect_of ignores h (numbered_lines n (declaration_lines d)) (Some close) ≡ done ignores h n (Declares d)
unfolding done
declares_read ignores h n close d is can within =
    let first : Line = record { number = n; bytes = point_line d.name } in
    let rest : List Line = numbered_lines (n + 1) (map edge_line d.edges ++ flat_map (var_lines d.edges) d.vars) in
    at_first ignores h first rest (Some close) (no_comment_point d.name) (ap (λ (x : Header). header_line x (point_line d.name)) is ∙ no_header_point d.name)
    ∙ at_declaration ignores h first rest (Some close) (point_declares d.name)
    ∙ ap (λ (x : Header). block_decl (is_implicit x) first rest (Some close) >>= λ e. where_it_ends (Some close) h (with_declaration h n e)) is
    ∙ ap (λ (r : Result PointDecl LineFault). r >>= λ e. where_it_ends (Some close) h (with_declaration h n e)) (ppt_block d n close can within)

-- ---- records

pub record RecordBegins (line : List ℕ) : Type 0 where
  pub comment : is_comment line ≡ false
  pub header : header_line first_header line ≡ None
  pub declaration : is_declaration line ≡ false
  pub implementors : is_list_of_implementors line ≡ false

record_begins : (line : List ℕ) → begins_record line ≡ true → RecordBegins line
unfolding begins_record
record_begins line h =
    let a = and_parts (not (is_comment line)) (is_none (header_line first_header line) && (not (is_declaration line) && not (is_list_of_implementors line))) h in
    let b = and_parts (is_none (header_line first_header line)) (not (is_declaration line) && not (is_list_of_implementors line)) a.1 in
    let c = and_parts (not (is_declaration line)) (not (is_list_of_implementors line)) b.1 in
    record {
      comment = not-true (is_comment line) a.0;
      header = none_of (header_line first_header line) b.0;
      declaration = not-true (is_declaration line) c.0;
      implementors = not-true (is_list_of_implementors line) c.1;
    }

pub record CanRecord (r : Recorded) : Type 0 where
  pub begins : RecordBegins (escaped r.decl.name)
  pub long : length r.decl.vars ≡ length r.values
  pub values : list_all is_told_value (zip r.decl.vars r.values) ≡ true

pub can_record_parts : (r : Recorded) → can_record r ≡ true → CanRecord r
unfolding can_record
can_record_parts r h =
    let values : Bool = list_all is_told_value (zip r.decl.vars r.values) in
    let a = and_parts (begins_record (escaped r.decl.name)) (length r.decl.vars == length r.values && values) h in
    let b = and_parts (length r.decl.vars == length r.values) values a.1 in
    record {
      begins = record_begins (escaped r.decl.name) a.0;
      long = eqb-true (length r.decl.vars) (length r.values) b.0;
      values = b.1;
    }

at_sample : (ignores : Bool) (h : History) (l : Line) (ls : List Line) (close : ℕ) → is_declaration l.bytes ≡ false → is_list_of_implementors l.bytes ≡ false
    → after_record ignores h l ls (Some close) ≡ (sample_of h.table l ls (Some close) >>= λ s. with_record ignores h s)
at_sample ignores h l ls close declaration implementors = rw (declaration, implementors) refl

told_by : (ignores : Bool) (h : History) (n p : ℕ) (r : Recorded) → declared_place h.table r.decl.name ≡ Some p → done ignores h n (Records r) ≡ with_record ignores h (sample_at n p r)
unfolding done
told_by ignores h n p r at = rw at refl

records_read : (ignores : Bool) (h : History) (n close : ℕ) (r : Recorded) → IsReadable h (Records r)
    → effect_of ignores h (numbered_lines n (record_lines r)) (Some close) ≡ done ignores h n (Records r)
records_read ignores h n close r readable =
    let parts : CanRecord r = can_record_parts r readable.2 in
    let begins = parts.begins in
    let place = readable.4 in
    let within = readable.3 in
    let first : Line = record { number = n; bytes = escaped r.decl.name } in
    let rest : List Line = numbered_lines (n + 1) (nonce_lines r.nonce ++ flat_map told_lines (zip r.decl.vars r.values)) in
    at_first ignores h first rest (Some close) begins.comment (ap (λ (x : Header). header_line x (escaped r.decl.name)) readable.0 ∙ begins.header)
    ∙ at_sample ignores h first rest close begins.declaration begins.implementors
    ∙ ap (λ (q : Result Sample LineFault). q >>= λ s. with_record ignores h s)
    (sample_read h.table r n place.0 (Some close) place.1 place.2 parts.long parts.values within.values within.nonce)
    ∙ sym (told_by ignores h n place.0 r place.1)

pub blocks_read : BlocksAreRead
blocks_read ignores h line Begins readable = begins_read ignores h line (line + length header_lines) readable
blocks_read ignores h line (Declares d) readable = declares_read ignores h line (line + length (declaration_lines d)) d readable.0 readable.1 readable.2
blocks_read ignores h line (Records r) readable = records_read ignores h line (line + length (record_lines r)) r readable
