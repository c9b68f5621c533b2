-- Which bytes are the spelling of a state.
use Rattle.std.specs.Prelude.{◌≡◌, ◌≤◌, ◌<◌, ◌==◌, ◌^◌, ℕ, All, Bool, IsTrue, List, [], ◌∷◌, flat_map, is_none, is_some, length, map, slice_get, slice_index_or, Option, Some, None, option_and_then, Result, Ok, Err, if◌then◌else◌}
use Rattle.std.specs.List.{enumerate_from, range_with_len}
use Rattle.std.specs.Option.{option_map_or}
use Rattle.dk_base.specs.declared.why.Why.{Why}
use Rattle.dk_decl.specs.declared.decls.PointDecl.{PointDecl}
use Rattle.dk_engine.specs.Exact.{AreOfPoint, AreSamples}
use Rattle.dk_engine.specs.declared.saved.parts.Parts.{Parts}
use Rattle.dk_hierarchy.specs.Samples.{OwnSamples, all_vars_of, own_samples_of}
use Rattle.dk_points.specs.Declaring.{declared}
use Rattle.dk_points.specs.Table.{Point, decl_at}
use Rattle.dk_points.specs.declared.declared.Declared.{Declared}
use Rattle.dk_points.specs.declared.declared.Declared.TheVariants.{New, Same}
use Rattle.dk_template.specs.declared.grammar.Grammar.{Grammar}
use Rattle.dk_state.specs.Compact.{compact_form_of}
use Rattle.dk_state.specs.Declarations.{decls_of}
use Rattle.dk_state.specs.Fitting.{FitsSlot}
use Rattle.dk_state.specs.Given.{CanBeGiven}
use Rattle.dk_state.specs.Kept.{parts_lines}
use Rattle.dk_state.specs.Saved.{state_text}
use Rattle.dk_engine.specs.Saved.{AreSavedParts, parts_of}
use Rattle.dk_engine.specs.declared.kept.Kept.{Kept}

-- ---- the table
-- the table behind the declaration of a new point
abbrev pub if_new : Result (List Point × Declared) Why → Option (List Point)
if_new (Ok (ps, New p)) = Some ps
if_new (Ok (ps, Same p)) = None
if_new (Err why) = None

-- the table behind these declarations, in order, each of a new point
abbrev pub table_behind : List Point → List PointDecl → Option (List Point)
table_behind ps [] = Some ps
table_behind ps (d ∷ ds) = option_and_then (λ next. table_behind next ds) (if_new (declared ps d))

-- The table is what its own declarations make of the empty one, and each of them is one that a block can give.
pub record IsOwnTable (ps : List Point) : Type 0 where
  pub made : table_behind [] (decls_of ps) ≡ Some ps
  pub given : All CanBeGiven (decls_of ps)

-- ---- what a state file says
-- the grammar, the table of points, the comparability word, and for each point of the table what is kept of its own samples, if there are
-- any
pub record Content : Type 0 where
  pub grammar : Grammar
  pub points : List Point
  pub implicit : Bool
  pub saved : List (Option Parts)

-- the lines of what is kept, if anything is
abbrev pub saved_lines : ℕ × Option Parts → List ℕ
saved_lines e = option_map_or (parts_lines e.0) e.1 []

abbrev pub text_of_content : Content → List ℕ
text_of_content c = state_text c.grammar (decls_of c.points) c.implicit (flat_map saved_lines (enumerate_from 0 c.saved))

-- Parts at a declared point that meet the conditions, with numbers within their types.
pub record AreSavedAt (g : Grammar) (ps : List Point) (p : ℕ) (parts : Parts) : Type 0 where
  pub declared : IsTrue (is_some (decl_at ps p))
  pub meet : AreSavedParts g (all_vars_of ps p) parts
  pub within : All FitsSlot parts.slots

abbrev pub IsSavedAt : Grammar → List Point → ℕ → Option Parts → Type 0
IsSavedAt g ps p None = Unit {0}
IsSavedAt g ps p (Some parts) = AreSavedAt g ps p parts

pub record IsContent (c : Content) : Type 0 where
  pub table : IsOwnTable c.points
  pub long : length c.saved ≡ length c.points
  pub saved : (p : ℕ) (saved : Option Parts) → slice_get c.saved p ≡ Some saved → IsSavedAt c.grammar c.points p saved

-- Some content that meets the conditions has these bytes as its text.
pub record IsSpelling (bytes : List ℕ) : Type 0 where
  pub content : Content
  pub meets : IsContent content
  pub text : text_of_content content ≡ bytes

-- ---- histories
-- what is saved of kept parts, which is nothing where there are no samples
abbrev pub saved_parts : Kept → Option Parts
saved_parts kept = if kept.samples == 0 then None else Some (parts_of kept)

-- what is kept of a point's own samples
abbrev pub compact_form_at : Grammar → List Point → OwnSamples → ℕ → Kept
compact_form_at g ps own p = compact_form_of g (all_vars_of ps p) (own_samples_of ps own p)

-- what the state file of a history says
abbrev pub content_of : Grammar → List Point → Bool → OwnSamples → Content
content_of g ps implicit own = record {
  grammar = g;
  points = ps;
  implicit = implicit;
  saved = map (λ p. saved_parts (compact_form_at g ps own p)) (range_with_len 0 (length ps));
}

-- The table of a history is made by its own declarations. Own samples stand at declared points alone, at most 2^40 at each, and with
-- derived values they are samples of the point's variables; the numbers of their slots are within their types.
pub record CanBeSaved (g : Grammar) (ps : List Point) (own : OwnSamples) : Type 0 where
  pub table : IsOwnTable ps
  pub variables : (p : ℕ) → p < length ps → AreOfPoint (all_vars_of ps p)
  pub samples : (p : ℕ) → AreSamples (all_vars_of ps p) (own_samples_of ps own p)
  pub declared : (p : ℕ) → IsTrue (is_none (decl_at ps p)) → slice_index_or own p [] ≡ []
  pub few : (p : ℕ) → length (slice_index_or own p []) ≤ 2 ^ 40
  pub within : (p : ℕ) → All FitsSlot (compact_form_at g ps own p).slots
