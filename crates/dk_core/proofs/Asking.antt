-- What is asked of the engines.
use Rattle.std.proofs.Common.{◌≡◌, ◌∙◌, ◌<◌, ◌&&◌, ◌++◌, ℕ, zero, suc, All, Bool, true, false, List, [], ◌∷◌, length, slice_get, Some, None, IfOk, Result, Ok, Err, sym, ap, subst, arith, if◌then◌else◌}
use Rattle.std.proofs.lemmas.List.{append-nil}
use Rattle.std.proofs.lemmas.List.Elements.{All-head, All-tail}
use Rattle.std.specs.Prelude.{OnOk, slice_index_or}
use Rattle.dk_engine.specs.Reading.Levels.{Whole}
use Rattle.dk_hierarchy.specs.Having.{have_samples as have_samples_in}
use Rattle.dk_hierarchy.specs.Samples.{own_samples_of}
use Rattle.dk_hierarchy.specs.Standing.{EnginesStandFor}
use Rattle.dk_points.specs.Table.{Point, names}
use Rattle.dk_report.specs.Engines.{grammar_at}
use Rattle.dk_report.specs.Reports.{has_samples as has_samples_in, section_of as section_in}
use Rattle.dk_report.specs.Sizes.{stats_of as stats_in}
use Rattle.dk_report.specs.declared.options.Options.{Options}
use Rattle.dk_template.specs.declared.grammar.Grammar.{Grammar}
use Rattle.dk_blocks.specs.History.{History}
use Rattle.dk_blocks.specs.Standing.{points_of as points_in}
use Rattle.dk_core.proofs.Taking.{table_of}
use Rattle.dk_core.specs.Keeping.{IsSound, Keeping}
use Rattle.dk_core.specs.Sections.{has_samples, has_section, have_samples, name_in_history, section_of, some_if}
use Rattle.dk_core.specs.Standing.{Stands}

pub if_ok_map : {A E : Type 0} (r : Result A E) (P Q : A → Type 0) → IfOk r P → ((x : A) → P x → Q x) → IfOk r Q
if_ok_map (Ok x) P Q p f = f x p
if_ok_map (Err e) P Q p f = p

pub on_ok_if : {A E : Type 0} (r : Result A E) (P Q : Type 0) → OnOk r P → (P → Q) → IfOk r (λ _. Q)
on_ok_if (Ok x) P Q p f = f p
on_ok_if (Err e) P Q p f = p

pub if_on : {A E : Type 0} (r : Result A E) (P Q : Type 0) → IfOk r (λ _. P) → (P → Q) → OnOk r Q
if_on (Ok x) P Q p f = f p
if_on (Err e) P Q p f = p

grammar_there : (engines : List Whole) (grammar : Grammar) (p : ℕ) → All (λ (e : Whole). e.grammar ≡ grammar) engines → p < length engines → grammar_at engines p ≡ grammar
grammar_there [] grammar p all there = absurd (omega arith)
grammar_there (e ∷ es) grammar zero all there = All-head (λ (x : Whole). x.grammar ≡ grammar) e es all
grammar_there (e ∷ es) grammar (suc p) all there = grammar_there es grammar p (All-tail (λ (x : Whole). x.grammar ≡ grammar) e es all) (omega arith)

-- the grammar of a point's engine is that of all
pub grammar_is : (k : Keeping) (engines : List Whole) (p : ℕ) → IsSound k → engines ≡ k.engines → p < length (points_in k.reader) → grammar_at engines p ≡ k.grammar
grammar_is k engines p sound same within =
    ap (λ (es : List Whole). grammar_at es p) same ∙ grammar_there k.engines k.grammar p sound.grammar (omega (arith, within, sound.engines.long))

-- the engines stand for the own samples in the table as it is kept
pub asked : (k : Keeping) (ps : List Point) (engines : List Whole) (h : History) → Stands k h → ps ≡ points_in k.reader → engines ≡ k.engines → EnginesStandFor engines (own_samples_of ps h.samples)
unfolding Stands
asked k ps engines h stands table same =
    subst (λ (es : List Whole). EnginesStandFor es (own_samples_of ps h.samples)) (sym same)
    (subst (λ (qs : List Point). EnginesStandFor k.engines (own_samples_of qs h.samples)) (sym (table ∙ table_of k.reader h stands.reader)) stands.engines)

pub has_told : (k : Keeping) (ps : List Point) (h : History) (p : ℕ) (some : Bool) → Stands k h → ps ≡ points_in k.reader → some ≡ has_samples_in ps h.samples p → some ≡ has_samples h p
unfolding Stands
has_told k ps h p some stands table says = says ∙ ap (λ (qs : List Point). has_samples_in qs h.samples p) (table ∙ table_of k.reader h stands.reader)

pub have_told : (k : Keeping) (ps : List Point) (h : History) (marks : List Bool) → Stands k h → ps ≡ points_in k.reader → marks ≡ have_samples_in ps h.samples → marks ≡ have_samples h
unfolding Stands
have_told k ps h marks stands table says = says ∙ ap (λ (qs : List Point). have_samples_in qs h.samples) (table ∙ table_of k.reader h stands.reader)

pub section_told : (k : Keeping) (ps : List Point) (h : History) (p : ℕ) (options : Options) (old new : List ℕ) (grammar : Grammar) → Stands k h → ps ≡ points_in k.reader → grammar ≡ k.grammar
    → new ≡ old ++ section_in grammar options ps h.samples p → new ≡ old ++ section_in h.grammar options h.table h.samples p
unfolding Stands
section_told k ps h p options old new grammar stands table is says =
    says ∙ ap (λ (g : Grammar). old ++ section_in g options ps h.samples p) (is ∙ stands.grammar)
    ∙ ap (λ (qs : List Point). old ++ section_in h.grammar options qs h.samples p) (table ∙ table_of k.reader h stands.reader)

pub stats_told : (k : Keeping) (ps : List Point) (h : History) (p : ℕ) (old new : List ℕ) (grammar : Grammar) → Stands k h → ps ≡ points_in k.reader → grammar ≡ k.grammar
    → new ≡ old ++ stats_in grammar ps h.samples p → new ≡ old ++ stats_in h.grammar h.table h.samples p
unfolding Stands
stats_told k ps h p old new grammar stands table is says =
    says ∙ ap (λ (g : Grammar). old ++ stats_in g ps h.samples p) (is ∙ stands.grammar)
    ∙ ap (λ (qs : List Point). old ++ stats_in h.grammar qs h.samples p) (table ∙ table_of k.reader h stands.reader)

-- ---- names

name_there : (ns : List (List ℕ)) (p : ℕ) (name : List ℕ) → slice_get ns p ≡ Some name → slice_index_or ns p [] ≡ name
name_there [] p name is = absurd (cc is)
name_there (n ∷ ns) zero name is = cc is
name_there (n ∷ ns) (suc p) name is = name_there ns p name is

pub name_is : (ps : List Point) (h : History) (p : ℕ) (name : List ℕ) → ps ≡ h.table → slice_get (names ps) p ≡ Some name → name_in_history h p ≡ name
name_is ps h p name table is = ap (λ (qs : List Point). slice_index_or (names qs) p []) (sym table) ∙ name_there (names ps) p name is

-- a point that is not selected, and one that is
pub not_selected : (selects : List ℕ → Bool) (h : History) (p : ℕ) → selects (name_in_history h p) ≡ false → has_section selects h p ≡ false
not_selected selects h p off = ap (λ (b : Bool). b && has_samples h p) off

pub none_written : (options : Options) (selects : List ℕ → Bool) (h : History) (p : ℕ) (text : List ℕ) → selects (name_in_history h p) ≡ false
    → text ≡ text ++ section_of options selects h p
unfolding section_of
none_written options selects h p text off =
    sym (append-nil text) ∙ ap (λ (b : Bool). text ++ (if b then section_in h.grammar options h.table h.samples p else [])) (sym off)

pub selected : (selects : List ℕ → Bool) (h : History) (p : ℕ) → selects (name_in_history h p) ≡ true → has_section selects h p ≡ has_samples h p
selected selects h p on = ap (λ (b : Bool). b && has_samples h p) on

pub all_written : (options : Options) (selects : List ℕ → Bool) (h : History) (p : ℕ) → selects (name_in_history h p) ≡ true
    → section_in h.grammar options h.table h.samples p ≡ section_of options selects h p
unfolding section_of
all_written options selects h p on = ap (λ (b : Bool). if b then section_in h.grammar options h.table h.samples p else []) (sym on)

-- ---- texts of their own

pub some_told : (has is : Bool) (text whole : List ℕ) → has ≡ is → text ≡ [] ++ whole → (if has then Some text else None) ≡ some_if is whole
some_told has is text whole same told = ap (λ (b : Bool). some_if b text) same ∙ ap (λ (t : List ℕ). some_if is t) told
