-- What is kept of a state, and what state is saved of it.
use Rattle.std.proofs.Common.{◌≡◌, ◌∙◌, ◌++◌, [], All, Bool, List, ℕ, Result, Ok, Err, length, refl, sym, ap, subst}
use Rattle.std.proofs.lemmas.List.{length-replicate}
use Rattle.std.specs.Prelude.{OnOk, replicate}
use Rattle.dk_decl.specs.Headers.{is_implicit, with_word}
use Rattle.dk_engine.specs.Reading.Levels.{Whole}
use Rattle.dk_hierarchy.specs.Samples.{OwnSamples, own_samples_of}
use Rattle.dk_hierarchy.specs.Standing.{AreEnginesOf, EnginesStandFor}
use Rattle.dk_points.specs.Table.{Point}
use Rattle.dk_state.proofs.Histories.{content_text, history_meets}
use Rattle.dk_state.specs.Spelling.{IsSpelling, content_of}
use Rattle.dk_state.specs.StateFile.{StandForHistory, state_file_of}
use Rattle.dk_template.specs.declared.grammar.Grammar.{Grammar}
use Rattle.dk_blocks.specs.History.{History}
use Rattle.dk_blocks.specs.Standing.{IsBetweenFiles, ReaderStandsFor, points_of as points_in}
use Rattle.dk_core.specs.Keeping.{IsSound, Keeping}
use Rattle.dk_core.specs.Resuming.{HasTableOfState, IsStart, state_file}
use Rattle.dk_core.specs.Standing.{Stands}
use Rattle.dk_core.specs.declared.kept.SessionParts.{SessionParts}
use Rattle.dk_core.proofs.Asking.{asked}
use Rattle.dk_core.proofs.Taking.{table_of}

pub on_ok : {A E : Type 0} (r : Result A E) (P Q : Type 0) → OnOk r P → (P → Q) → OnOk r Q
on_ok (Ok x) P Q p f = f p
on_ok (Err e) P Q p f = p

pub grammar_told : (k : SessionParts) (h : History) → Stands k h → k.grammar ≡ h.grammar
unfolding Stands
grammar_told k h stands = stands.grammar

-- a history that a state file tells stands between two files
pub between : (h : History) → IsStart h → IsBetweenFiles h
between h start = record { no_calls = start.no_calls; no_word = start.no_word; many = start.many }

-- what is kept of a state file stands for what it tells
pub begins : (k : Keeping) (h : History) (engines : List Whole) → StandForHistory h.grammar h.table engines h.samples → k.engines ≡ engines → k.grammar ≡ h.grammar → ReaderStandsFor k.reader h → Stands k h
unfolding Stands
begins k h engines stands same grammar reader = record {
  reader = reader;
  engines = subst (λ (es : List Whole). EnginesStandFor es (own_samples_of h.table h.samples)) (sym same) stands.standing;
  grammar = grammar;
}

-- what a state file tells is what it is loaded as
pub loaded_as : (h : History) (bytes : List ℕ) (Q : Type 0) → state_file h ≡ bytes → (state_file_of h.grammar h.table (is_implicit h.header) h.samples ≡ bytes → Q) → Q
unfolding state_file
loaded_as h bytes Q is f = f is

-- the state of what is kept
pub state_told : (k : Keeping) (h : History) (ps : List Point) (engines : List Whole) (implicit : Bool) (old new : List ℕ) → IsSound k → Stands k h → ps ≡ points_in k.reader → engines ≡ k.engines → implicit ≡ is_implicit h.header
    → ((own : OwnSamples) → StandForHistory k.grammar ps engines own → new ≡ old ++ state_file_of k.grammar ps implicit own) → new ≡ old ++ state_file h
unfolding Stands state_file
state_told k h ps engines implicit old new sound stands there same word says =
    let table : ps ≡ h.table = there ∙ table_of k.reader h stands.reader in
    says h.samples (record {
      of_table = subst (λ (qs : List Point). AreEnginesOf qs engines) (sym there) (subst (AreEnginesOf (points_in k.reader)) (sym same) sound.engines);
      of_grammar = subst (λ (es : List Whole). All (λ (e : Whole). e.grammar ≡ k.grammar) es) (sym same) sound.grammar;
      standing = asked k ps engines h stands there same;
    })
    ∙ ap (λ (g : Grammar). old ++ state_file_of g ps implicit h.samples) stands.grammar
    ∙ ap (λ (qs : List Point). old ++ state_file_of h.grammar qs implicit h.samples) table
    ∙ ap (λ (b : Bool). old ++ state_file_of h.grammar h.table b h.samples) word

-- such a history has the table and the word of its state file
pub start_has_table : (h : History) → IsStart h → HasTableOfState (state_file h) h
unfolding state_file
start_has_table h start = record {
  between = between h start;
  content = content_of h.grammar h.table (is_implicit h.header) h.samples;
  meets = history_meets h.grammar h.table (is_implicit h.header) h.samples start.saved;
  text = content_text h.grammar h.table (is_implicit h.header) h.samples;
  table = refl;
  word = refl;
}

-- each spelling has a history with its table and word: that without samples
pub spelling_has_history : (bytes : List ℕ) → IsSpelling bytes → (h : History) × HasTableOfState bytes h
spelling_has_history bytes spelling =
    let c = spelling.content in (
      record { table = c.points; samples = replicate (length c.points) []; header = with_word c.implicit; calls = []; grammar = c.grammar },
      record {
        between = record { no_calls = refl; no_word = refl; many = length-replicate (length c.points) [] };
        content = c;
        meets = spelling.meets;
        text = spelling.text;
        table = refl;
        word = refl;
      },
    )

-- bytes of whose table and word there is a history are a spelling
pub table_spelled : (bytes : List ℕ) (h : History) → HasTableOfState bytes h → IsSpelling bytes
table_spelled bytes h from = record { content = from.content; meets = from.meets; text = from.text }
