-- Sections of points that have no samples.
use Rattle.std.specs.Prelude.{◌≡◌, ◌<◌, ℕ, Bool, true, false, not, List, [], if◌then◌else◌, length, slice_index_or, refl}
use Rattle.std.proofs.Common.{◌∙◌, ap, arith}
use Rattle.std.proofs.lemmas.List.FromFn.{get_or-map-range_with_len}
use Rattle.dk_base.specs.Pieces.{is_empty}
use Rattle.dk_blocks.specs.History.{History}
use Rattle.dk_core.specs.Sections.{has_samples, have_samples, name_in_history, section_of}
use Rattle.dk_hierarchy.specs.Having.{has_samples as has_samples_in}
use Rattle.dk_hierarchy.specs.Samples.{all_vars_of}
use Rattle.dk_print.specs.Sections.{section_text}
use Rattle.dk_report.specs.Reports.{all_samples_of, answers_of_point, kept_instances, name_in_table, section_of as section_in}
use Rattle.dk_report.specs.declared.options.Options.{Options}

nothing_in : (options : Options) (h : History) (p : ℕ) → has_samples h p ≡ false → section_in h.grammar options h.table h.samples p ≡ []
unfolding section_in
nothing_in options h p none = by (is_empty (all_samples_of h.table h.samples p)) none
  where
    by : (b : Bool) → not b ≡ false
        → (if b then [] else section_text (name_in_table h.table p) ((answers_of_point h.table h.samples p).counted []) (all_vars_of h.table p) (kept_instances h.grammar options h.table h.samples p)) ≡ []
    by true is = refl
    by false is = absurd (cc)

-- a point without samples has no section, whatever its name
pub no_section : (options : Options) (selects : List ℕ → Bool) (h : History) (p : ℕ) → has_samples h p ≡ false → section_of options selects h p ≡ []
unfolding section_of
no_section options selects h p none = by (selects (name_in_history h p))
  where
    by : (b : Bool) → (if b then section_in h.grammar options h.table h.samples p else []) ≡ []
    by true = nothing_in options h p none
    by false = refl

-- the mark of a point
pub mark_at : (h : History) (marks : List Bool) (p : ℕ) (d : Bool) → marks ≡ have_samples h → p < length h.table → slice_index_or marks p d ≡ has_samples h p
mark_at h marks p d is within =
    ap (λ (ms : List Bool). slice_index_or ms p d) is ∙ get_or-map-range_with_len (has_samples_in h.table h.samples) 0 (length h.table) p p d within (omega arith)
