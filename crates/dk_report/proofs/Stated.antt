-- The line of the sizes of what an engine keeps is that of its point's own samples.
use Rattle.std.specs.Prelude.{◌≡◌, ℕ, zero, suc, true, false, not, List, [], ◌∷◌, if◌then◌else◌, length, refl, slice_get, slice_index_or, Option, Some}
use Rattle.std.specs.Option.{option_map_or}
use Rattle.std.proofs.Common.{◌∙◌, ap, arith, sym}
use Rattle.std.proofs.lemmas.List.{length-map}
use Rattle.dk_base.specs.Pieces.{is_empty}
use Rattle.dk_base.specs.declared.values.Value.{Value}
use Rattle.dk_derive.specs.Values.{values_by_form}
use Rattle.dk_engine.specs.Reading.Levels.{Whole}
use Rattle.dk_engine.specs.declared.counts.Counts.{Counts}
use Rattle.dk_graph.proofs.Places.{some-injective}
use Rattle.dk_hierarchy.specs.Samples.{OwnSamples, all_vars_of, own_samples_of}
use Rattle.dk_hierarchy.specs.Standing.{AreEnginesOf, EngineStandsFor, EnginesStandFor}
use Rattle.dk_points.specs.Table.{Point, names}
use Rattle.dk_presence.specs.Patterns.{capped}
use Rattle.dk_print.specs.Sections.{stats_line}
use Rattle.dk_template.specs.declared.grammar.Grammar.{Grammar}
use Rattle.dk_template.specs.declared.grammar.Grammar.TheVariants as grammar
use Rattle.dk_report.proofs.Sized.{sizes_are}
use Rattle.dk_report.specs.Engines.{grammar_at}
use Rattle.dk_report.specs.Reports.{name_in_table}
use Rattle.dk_report.specs.Sizes.{counts_of, has_own_samples, sizes_at, sizes_of, stats_of}

-- the name at a place
pub name_at : (names : List (List ℕ)) (p : ℕ) (name : List ℕ) → slice_get names p ≡ Some name → slice_index_or names p [] ≡ name
name_at [] p name at = absurd (cc)
name_at (n ∷ names) zero name at = some-injective at
name_at (n ∷ names) (suc p) name at = name_at names p name at

pub same_counts : (a b : Counts) → a.samples ≡ b.samples → a.leaders ≡ b.leaders → a.constants ≡ b.constants → a.patterns ≡ b.patterns → a.slots ≡ b.slots → a ≡ b
same_counts a b s l c p k = λ i. record { samples = s i; leaders = l i; constants = c i; patterns = p i; slots = k i }

none-of : (xs : List (List Value)) (n : ℕ) → n ≡ capped (length xs) → n ≡ 0 → is_empty xs ≡ true
none-of [] n is nil = refl
none-of (x ∷ xs) n is nil = absurd (omega (arith, is, nil))

some-of : (xs : List (List Value)) (n : ℕ) → n ≡ capped (length xs) → (n ≡ 0 → ⊥) → is_empty xs ≡ false
some-of [] n is some = absurd (some is)
some-of (x ∷ xs) n is some = refl

module _ (ps : List Point) (engines : List Whole) (are : AreEnginesOf ps engines) (p : ℕ) (engine : Whole) (got : slice_get engines p ≡ Some engine) (own : OwnSamples) (stand : EnginesStandFor engines (own_samples_of ps own)) where
  abbrev base : List (List Value)
  base = slice_index_or own p []

  standing : EngineStandsFor engine (own_samples_of ps own p)
  standing = stand p engine got

  number : engine.kept.samples ≡ capped (length base)
  number = standing.kept_is.number ∙ ap capped (length-map base (values_by_form (all_vars_of ps p)))

  pub none_has : engine.kept.samples ≡ 0 → has_own_samples own p ≡ false
  none_has nil = ap not (none-of base engine.kept.samples number nil)

  pub some_has : (engine.kept.samples ≡ 0 → ⊥) → has_own_samples own p ≡ true
  some_has some = ap not (some-of base engine.kept.samples number some)

  pub none_stats : engine.kept.samples ≡ 0 → stats_of (grammar_at engines p) ps own p ≡ []
  unfolding stats_of
  none_stats nil = ap (λ b. if b then [] else stats_line (name_in_table ps p) (sizes_at (grammar_at engines p) ps own p)) (none-of base engine.kept.samples number nil)

  grammar_is : engine.grammar ≡ grammar_at engines p
  grammar_is = sym (ap (λ (o : Option Whole). option_map_or (λ (e : Whole). e.grammar) o grammar.Two) got)

  sizes : counts_of engine.kept ≡ sizes_at (grammar_at engines p) ps own p
  unfolding sizes_at
  sizes =
      sizes_are engine.grammar engine.infos (own_samples_of ps own p) engine.kept standing.kept_is
      ∙ (ap (λ (g : Grammar). sizes_of g engine.infos (own_samples_of ps own p)) grammar_is
      ∙ ap (λ vs. sizes_of (grammar_at engines p) vs (own_samples_of ps own p)) (are.variables p engine got).0)

  pub some_stats : (engine.kept.samples ≡ 0 → ⊥) → (counts : Counts) → counts ≡ counts_of engine.kept → (name : List ℕ) → slice_get (names ps) p ≡ Some name
      → stats_line name counts ≡ stats_of (grammar_at engines p) ps own p
  unfolding stats_of
  some_stats some counts is name at =
      ap (λ (n : List ℕ). stats_line n counts) (sym (name_at (names ps) p name at))
      ∙ (ap (stats_line (name_in_table ps p)) (is ∙ sizes)
      ∙ sym (ap (λ b. if b then [] else stats_line (name_in_table ps p) (sizes_at (grammar_at engines p) ps own p)) (some-of base engine.kept.samples number some)))
