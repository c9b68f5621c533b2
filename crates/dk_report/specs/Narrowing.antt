-- Which variables a row is still asked about, where one engine alone has samples.
use Rattle.std.specs.Prelude.{◌&&◌, ◌||◌, ◌==◌, Bool, true, false, not, List, filter, flat_map, if◌then◌else◌, ◌≡◌, ◌<◌, ℕ, [], ◌∷◌, length, slice_get, slice_index_or, Some, None}
use Rattle.std.specs.List.{list_all, list_any}
use Rattle.std.specs.Option.{option_map_or}
use Rattle.dk_base.specs.Shapes.{var}
use Rattle.dk_base.specs.declared.kinds.VarId.{VarId}
use Rattle.dk_base.specs.declared.kinds.VarInfo.{VarInfo}
use Rattle.dk_classes.specs.Leaders.{own_leaders}
use Rattle.dk_constants.specs.Known.{Entries, known_at}
use Rattle.dk_engine.specs.Reading.Levels.{Whole}
use Rattle.dk_engine.specs.declared.kept.Kept.{Kept}
use Rattle.dk_engine.specs.declared.slots.slot.Slot.{Slot}
use Rattle.dk_filters.specs.Facts.{is_equality}
use Rattle.dk_filters.specs.declared.candidate.Candidate.{Candidate}
use Rattle.dk_hierarchy.specs.Merging.{AreWays, Joint}
use Rattle.dk_hierarchy.specs.declared.way.Way.{Way}
use Rattle.dk_instances.specs.Instances.{are_distinct}
use Rattle.dk_presence.specs.Patterns.{has}
use Rattle.dk_samples.specs.Samples.{is_present}
use Rattle.dk_template.specs.Admitted.{suits}
use Rattle.dk_template.specs.Fitting.{fits}
use Rattle.dk_template.specs.Templates.{arity_of, roles_of, template_of}
use Rattle.dk_template.specs.declared.grammar.RowId.{RowId}
use Rattle.dk_template.specs.declared.templates.Role.{Role}
use Rattle.dk_report.specs.Asked.{candidates_over, candidates_standing, listed_candidates_by}
use Rattle.dk_report.specs.declared.asking.Asking.{Asking}
use Rattle.dk_report.specs.declared.options.Options.{Options}
use Rattle.dk_report.specs.declared.sweeping.Standing.{Standing}

-- it is constant, and there
abbrev pub is_fixed : Entries → VarId → Bool
is_fixed known v = option_map_or is_present (known_at known v) false

-- such variables of those that may stand in an instance of several
abbrev pub fixed_vars : Kept → Standing → List VarId
fixed_vars kept standing = filter (is_fixed kept.known) standing.several

-- a slot of the row that holds, over leaders of which none comes twice
abbrev pub is_of_row : RowId → Slot → Bool
is_of_row row slot = slot.row.0 == row.0 && (fits slot.state && are_distinct slot.leaders)

-- the variable stands in one of the slots
abbrev pub stands_in : List Slot → VarId → Bool
stands_in slots v = list_any (λ slot. has slot.leaders v) slots

-- What is kept may say something of a row over the variable: it is constant, or stands in a slot of the row.
abbrev pub is_left : Kept → RowId → VarId → Bool
is_left kept row v = is_fixed kept.known v || stands_in (filter (is_of_row row) kept.slots) v

-- the row takes several variables, and doesn't say that two are the same
abbrev pub is_narrow : RowId → Bool
is_narrow row = not (is_equality row) && not (arity_of row == 1)

-- none of the variables suits the role, and some role of the row
abbrev pub suits_none : List VarInfo → List VarId → Role → Bool
suits_none infos of role = not (list_any (λ v. suits role (slice_get infos v.0)) of)

abbrev pub lacks_role : RowId → List VarInfo → List VarId → Bool
lacks_role row infos of = list_any (suits_none infos of) (roles_of (template_of row).takes)

-- the candidates of a row over the leaders of its slots
abbrev pub candidates_of_slots : Kept → Asking → RowId → List Candidate
candidates_of_slots kept asking row = flat_map (λ slot. listed_candidates_by asking row slot.leaders) (filter (is_of_row row) kept.slots)

-- Those of a row of several variables, where these are constant: no tuple is of such alone if one of its roles has none. The others have
-- slots, or else are over variables of which something is kept.
abbrev pub candidates_of_kept : Kept → Asking → Standing → List VarId → RowId → List Candidate
candidates_of_kept kept asking standing fixed row =
    if lacks_role row asking.here.now.here.infos fixed then candidates_of_slots kept asking row
    else candidates_over asking row (filter (is_left kept row) standing.several)

-- the candidates of a row, where these variables are constant
abbrev pub candidates_left : Kept → Asking → Standing → List VarId → RowId → List Candidate
candidates_left kept asking standing fixed row =
    if is_narrow row then candidates_of_kept kept asking standing fixed row else candidates_standing asking standing row

-- each of the variables leads its class
abbrev pub all_lead : List VarId → List VarId → Bool
all_lead leaders vars = list_all (has (own_leaders leaders)) vars

-- ---- one way alone
-- the engine that a way leads to has samples
abbrev pub brings_samples : List Whole → Way → Bool
brings_samples engines way = option_map_or (λ (engine : Whole). not (engine.kept.samples == 0)) (slice_get engines way.point.0) true

-- All samples of a merged point come by one way, on one path, from the own samples of this engine. Each variable has itself as its partner
-- there.
pub record IsSole (joint : Joint) (engine : Whole) : Type 0 where
  pub asked : AreWays joint
  pub way : Way
  pub only : filter (brings_samples joint.engines) joint.ways ≡ way ∷ []
  pub there : slice_get joint.engines way.point.0 ≡ Some engine
  pub one_path : way.paths ≡ 1
  pub own : (v : ℕ) → v < length way.partners → slice_index_or way.partners v None ≡ Some (var v)
  pub long : length engine.infos ≡ length joint.here.infos

-- What isn't kept of the engine's samples is dropped: implied instances are, and the variables that may stand in an instance of several
-- lead their classes.
pub record CanNarrow (options : Options) (joint : Joint) (standing : Standing) (engine : Whole) : Type 0 where
  pub sole : IsSole joint engine
  pub implied : options.keep_implied ≡ false
  pub lead : all_lead engine.kept.leaders standing.several ≡ true
