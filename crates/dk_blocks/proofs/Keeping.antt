-- What is kept from block to block, block after block.
use Rattle.std.proofs.Common.{◌≡◌, ◌∙◌, ◌≤◌, ◌-◌, ℕ, true, false, All, Bool, is_some, if◌then◌else◌, List, [], ◌∷◌, ◌++◌, length, replicate, Option, Some, None, Result, Ok, Err, refl, sym, ap, subst, arith, length-append}
use Rattle.std.proofs.lemmas.List.{length-replicate}
use Rattle.std.proofs.lemmas.List.Elements.{All-cons, All-weaker}
use Rattle.std.specs.Option.{option_map_or}
use Rattle.dk_base.specs.Reading.{LineFault, ◌>>=◌}
use Rattle.dk_base.specs.declared.faults.BlockFault.{BlockFault}
use Rattle.dk_base.specs.declared.values.Value.{Value}
use Rattle.dk_calls.specs.Records.{call_of, entry_with, is_entry_at}
use Rattle.dk_calls.specs.Standing.{CallsStandForRecords as CallsStandFor, WaitAlike}
use Rattle.dk_calls.specs.Waiting.{Call, enters, exits, other}
use Rattle.dk_calls.specs.declared.calls.Calls.{Calls}
use Rattle.dk_decl.specs.Headers.{awaits_word, is_implicit, with_word}
use Rattle.dk_decl.specs.Outcomes.{FaultAgrees}
use Rattle.dk_decl.specs.declared.decls.PointDecl.{PointDecl}
use Rattle.dk_decl.specs.declared.header.Header.{Header}
use Rattle.dk_points.specs.Declaring.{at_line, declared}
use Rattle.dk_points.specs.Table.{Point}
use Rattle.dk_points.specs.Vars.{entry_of}
use Rattle.dk_points.specs.declared.declared.Declared.{Declared}
use Rattle.dk_trace.specs.Records.{Sample}
use Rattle.dk_blocks.proofs.Fronting.{told_at, told_closes, told_declared}
use Rattle.dk_blocks.proofs.Growing.{still_fits}
use Rattle.dk_blocks.proofs.Values.{call_fits}
use Rattle.dk_blocks.specs.Fitting.{CallFits, Extends, FitAt, WaitingFit}
use Rattle.dk_blocks.specs.History.{History, Taken, base_values, block, block_by, declared_effect, or_left_out, with_declaration, with_record, with_table, with_values}
use Rattle.dk_blocks.specs.Keeping.{Keeping}
use Rattle.dk_blocks.specs.Standing.{Closes, DeclaredAs, IsBetweenFiles, Stands}
use Rattle.dk_blocks.specs.declared.kept.ReaderParts.{ReaderParts}

-- ---- samples

pub many_samples : (ps ps' : List Point) (samples : List (List (List Value))) → length ps ≤ length ps' → length samples ≡ length ps → length (samples ++ replicate (length ps' - length ps) []) ≡ length ps'
many_samples ps ps' samples most many =
    let none : List (List Value) = [] in
    omega (arith, length-append samples (replicate (length ps' - length ps) none), length-replicate (length ps' - length ps) none)

-- ---- calls

-- what waits is the same
pub stand_alike : (old new : Calls) (earlier : List Call) → WaitAlike old new → CallsStandFor old earlier → CallsStandFor new earlier
stand_alike old new earlier alike stands = record { plain = alike.plain ∙ stands.plain; nonces = λ point n. alike.nonces point n ∙ stands.nonces point n }

pub waiting_alike : (ps : List Point) (old new : Calls) → WaitAlike old new → WaitingFit ps old → WaitingFit ps new
waiting_alike ps old new alike (earlier, stands, fit) = (earlier, stand_alike old new earlier alike stands, fit)

-- a record more
pub waiting_more : (ps : List Point) (s : Sample) (old new : Calls) → FitAt ps s.point s.values
    → ((earlier : List Call) → CallsStandFor old earlier → CallsStandFor new (call_of ps s ∷ earlier)) → WaitingFit ps old → WaitingFit ps new
waiting_more ps s old new fits more (earlier, stands, fit) = (call_of ps s ∷ earlier, more earlier stands, All-cons (CallFits ps) (call_of ps s) earlier (call_fits ps s fits) fit)

-- a table with more points
pub call_still : (ps ps' : List Point) → Extends ps ps' → (call : Call) → CallFits ps call → CallFits ps' call
call_still ps ps' extends (enters w) h = still_fits ps ps' w.point w.values extends h
call_still ps ps' extends (exits point n) h = tt
call_still ps ps' extends other h = tt

pub waiting_still : (ps ps' : List Point) (calls : Calls) → Extends ps ps' → WaitingFit ps calls → WaitingFit ps' calls
waiting_still ps ps' calls extends (earlier, stands, fit) = (earlier, stands, All-weaker (CallFits ps) (CallFits ps') (call_still ps ps' extends) earlier fit)

-- a record that is neither an exit that must match an entry, nor an entry
pub other_call : (ps : List Point) (s : Sample) → is_some (entry_of ps s.point) ≡ false → is_entry_at ps s.point ≡ false → call_of ps s ≡ other
unfolding call_of
other_call ps s no_exit no_entry = by_entry (entry_of ps s.point) no_exit ∙ ap (λ b. if b then enters (entry_with s) else other) no_entry where
  by_entry : (e : Option ℕ) → is_some e ≡ false → option_map_or (λ e. exits e s.nonce) e (if is_entry_at ps s.point then enters (entry_with s) else other) ≡ (if is_entry_at ps s.point then enters (entry_with s) else other)
  by_entry None lacks = refl
  by_entry (Some e) lacks = absurd (cc (lacks))

-- ---- declarations

-- a declaration that is taken, and one that is refused
pub declared_ok : (h : History) (ps ps' : List Point) (line : ℕ) (d : PointDecl) (x : Declared) → ps ≡ h.table → at_line line (declared ps d) ≡ Ok (ps', x)
    → with_declaration h line d ≡ Ok (block_by (declared_effect x) (with_table h ps'))
declared_ok h ps ps' line d x table is =
    ap (λ (r : Result (List Point × Declared) LineFault). r >>= λ t. Ok (block_by (declared_effect t.1) (with_table h t.0))) (ap (λ (qs : List Point). at_line line (declared qs d)) (sym table) ∙ is)

pub declared_told : (h : History) (ps : List Point) (line : ℕ) (d : PointDecl) (e : BlockFault) → ps ≡ h.table → FaultAgrees e (at_line line (declared ps d)) → DeclaredAs (Err e) (with_declaration h line d)
declared_told h ps line d e table told =
    told_declared e (with_declaration h line d)
    (told_at e (at_line line (declared h.table d)) (λ t. Ok (block_by (declared_effect t.1) (with_table h t.0))) (subst (λ (qs : List Point). FaultAgrees e (at_line line (declared qs d))) table told))

-- ---- records

taken_whole : (ignores : Bool) (h : History) (t : Taken) → or_left_out ignores h (Ok t) ≡ Ok t
taken_whole true h t = refl
taken_whole false h t = refl

refused_whole : (h : History) (r : Result Taken LineFault) → or_left_out false h r ≡ r
refused_whole h (Ok t) = refl
refused_whole h (Err e) = refl

-- a record whose values are there, one that is refused, and one that is left out
pub recorded_ok : (ignores : Bool) (h : History) (ps : List Point) (s : Sample) (values : List Value) → ps ≡ h.table → base_values ps s h.calls ≡ Ok values
    → with_record ignores h s ≡ Ok (with_values h s values)
recorded_ok ignores h ps s values table is =
    ap (λ (r : Result (List Value) LineFault). or_left_out ignores h (r >>= λ vs. Ok (with_values h s vs))) (ap (λ (qs : List Point). base_values qs s h.calls) (sym table) ∙ is)
    ∙ taken_whole ignores h (with_values h s values)

pub recorded_told : (h : History) (ps : List Point) (s : Sample) (e : BlockFault) → ps ≡ h.table → FaultAgrees e (base_values ps s h.calls) → Closes (Err e) (with_record false h s)
recorded_told h ps s e table told =
    told_closes e (with_record false h s)
    (subst (FaultAgrees e) (sym (refused_whole h (base_values h.table s h.calls >>= λ vs. Ok (with_values h s vs))))
    (told_at e (base_values h.table s h.calls) (λ vs. Ok (with_values h s vs)) (subst (λ (qs : List Point). FaultAgrees e (base_values qs s h.calls)) table told)))

pub recorded_left : (h : History) (ps : List Point) (s : Sample) (fault : LineFault) → ps ≡ h.table → base_values ps s h.calls ≡ Err fault → with_record true h s ≡ Ok (block h)
recorded_left h ps s fault table is =
    ap (λ (r : Result (List Value) LineFault). or_left_out true h (r >>= λ vs. Ok (with_values h s vs))) (ap (λ (qs : List Point). base_values qs s h.calls) (sym table) ∙ is)

-- ---- what a history is kept as

-- another header is in force
pub with_header : (kept kept' : ReaderParts) (h : History) (header : Header) → Stands kept h → kept'.points ≡ kept.points → kept'.header ≡ header → kept'.calls ≡ kept.calls
    → Stands kept' (record h { header = header })
unfolding Stands
with_header kept kept' h header stands points is calls = record {
  table = points ∙ stands.table;
  header = is;
  calls = subst (λ (cs : Calls). CallsStandFor cs h.calls) (sym calls) stands.calls;
  many = stands.many;
}

word_again : (header : Header) → awaits_word header ≡ false → with_word (is_implicit header) ≡ header
word_again header none = ap (λ (b : Bool). record { implicit = header.implicit; awaits_word = b }) (sym none)

-- what is kept of a history between two files
pub begins : (k : Keeping) (h : History) (implicit : Bool) → IsBetweenFiles h → k.points ≡ h.table → k.header ≡ with_word implicit → implicit ≡ is_implicit h.header → CallsStandFor k.calls [] → Stands k h
unfolding Stands
begins k h implicit between points header word calls = record {
  table = points;
  header = header ∙ ap with_word word ∙ word_again h.header between.no_word;
  calls = subst (λ (cs : List Call). CallsStandFor k.calls cs) (sym between.no_calls) calls;
  many = between.many;
}
