-- Which values fit the points of a table.
use Rattle.std.specs.Prelude.{◌≡◌, ◌++◌, ℕ, ⊤, All, List, Ok, Some}
use Rattle.dk_base.specs.Reading.{Line}
use Rattle.dk_base.specs.declared.values.Value.{Value}
use Rattle.dk_calls.specs.Standing.{CallsStandForRecords as CallsStandFor}
use Rattle.dk_calls.specs.Waiting.{Call, enters, exits, other}
use Rattle.dk_calls.specs.declared.calls.Calls.{Calls}
use Rattle.dk_decl.specs.Blocks.{decl_resumed}
use Rattle.dk_decl.specs.declared.block.DeclBlock.{DeclBlock}
use Rattle.dk_decl.specs.declared.decls.PointDecl.{PointDecl}
use Rattle.dk_points.specs.Table.{Point, decl_at}
use Rattle.dk_trace.specs.Fitting.{FitKinds, HasFittingConstant, declared_kinds}
use Rattle.dk_trace.specs.Records.{Sample}
use Rattle.dk_trace.specs.RecordsResumed.{record_resumed}
use Rattle.dk_trace.specs.declared.reader.RecordReader.{RecordReader}

-- ---- constants
-- each constant of a declaration is one of its variable's values
abbrev pub HasFittingConstants : PointDecl → Type 0
HasFittingConstants d = All HasFittingConstant d.vars

abbrev pub ConstantsFit : List Point → Type 0
ConstantsFit ps = All (λ (p : Point). HasFittingConstants p.decl) ps

-- whatever lines are left, what the block declares has such constants
abbrev pub DeclaresFitting : DeclBlock → Type 0
DeclaresFitting reader = (ls : List Line) (close : ℕ) (d : PointDecl) → decl_resumed reader ls (Some close) ≡ Ok d → HasFittingConstants d

-- ---- records
-- a record's values are of the variables that the point at this place declares
abbrev pub FitAt : List Point → ℕ → List Value → Type 0
FitAt ps p values = (d : PointDecl) × (decl_at ps p ≡ Some d) × FitKinds (declared_kinds d.vars) values

-- whatever lines are left, the record's values are
abbrev pub ReadsFitting : List Point → RecordReader → Type 0
ReadsFitting ps reader =
    (ls : List Line) (close : ℕ) (s : Sample) → record_resumed ps reader ls (Some close) ≡ Ok s → FitAt ps s.point s.values

-- ---- calls
abbrev pub CallFits : List Point → Call → Type 0
CallFits ps (enters w) = FitAt ps w.point w.values
CallFits ps (exits point n) = ⊤
CallFits ps other = ⊤

-- the entries that wait are those behind records with such values
abbrev pub WaitingFit : List Point → Calls → Type 0
WaitingFit ps calls = (earlier : List Call) × CallsStandFor calls earlier × All (CallFits ps) earlier

-- ---- tables
-- the same points, and behind them those that are new
abbrev pub Extends : List Point → List Point → Type 0
Extends ps ps' = (more : List Point) × (ps' ≡ ps ++ more)
