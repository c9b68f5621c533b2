-- Where `clap` finds no fault, each argument that has to be given has a text.
use Rattle.std.proofs.Common.{◌≡◌, ◌<◌, ◌&&◌, ◌||◌, ◌++◌, ℕ, Bool, true, false, cond, not, refl, subst, List, [], ◌∷◌, get_or, length, map, append_assoc, Some, unwrap_or, arith}
use Rattle.std.specs.Prelude.{find, option_map}
use Rattle.std.specs.List.{All, list_any}
use Rattle.std.specs.Option.{option_map_or}
use Rattle.std.specs.Str.{bytes_eq}
use Rattle.std.proofs.lemmas.List.Elements.{All-cons, All-nil}
use Rattle.clap.specs.Facts.{explicit_source}
use Rattle.clap.specs.Takes.{is_given}
use Rattle.clap.specs.Walk.{Row, Rule, Text, action_of, values_or_missing}
use Rattle.clap.specs.Simple.{filled, filled_from, help_rule, index_after, version_rule, with_index}
use Rattle.clap.specs.declared.builder.action.ArgAction.TheVariants as action
use Rattle.clap.specs.declared.builder.value_parser.Reading.{Reading}
use Rattle.dk_arguments.specs.Commands.{rows_of, rule_by, rule_for}
use Rattle.dk_arguments.specs.Descriptions.{Argument, Command, Form, flag, number, one_of, positional, positionals, text as any_text}
use Rattle.dk_arguments.specs.Given.{texts_at}
use Rattle.dk_arguments.specs.Laws.{IsGivenIfRequired, RequiredAreGiven, is_required}
use Rattle.dk_arguments.proofs.Rows.{FitEach, IsSoundRule, Joins, Sound, SoundCommand, none_wanting, range_fault, rows_fit}

-- a row with a value
abbrev HasValue : Text → Reading → List Text → Type 0
HasValue id how vs = 0 < length vs

joined : Joins HasValue
joined id how other [] ws f g = absurd (omega (arith, f))
joined id how other (v ∷ vs) ws f g = omega arith

used_some : (a : Rule) → (range_fault a [] ≡ [] → ⊥) → (vs : List Text) → range_fault a vs ≡ [] → 0 < length (values_or_missing a vs)
used_some a none [] e = absurd (none e)
used_some a none (v ∷ vs) e = omega arith

-- an argument that takes a value in each use
sound_value : (a : Rule) → (range_fault a [] ≡ [] → ⊥) → (action_of a ≡ action.Count → ⊥) → Sound HasValue a
sound_value a none n = record {
  uses = λ vs acts range e. used_some a none vs range;
  defaults = λ v vs e. omega arith;
  counts = n;
}

flag_used : (name : Text) (i : ℕ) (vs : List Text) → 0 < length (values_or_missing (with_index i (filled (rule_by flag name))) vs)
flag_used name i [] = omega arith
flag_used name i (v ∷ vs) = omega arith

sound_form : (form : Form) (name : Text) → IsSoundRule HasValue (rule_by form name)
sound_form flag name i = record {
  uses = λ vs acts range e. flag_used name i vs;
  defaults = λ v vs e. omega arith;
  counts = λ e. cc;
}
sound_form any_text name i = sound_value (with_index i (filled (rule_by any_text name))) (λ e. cc) (λ e. cc)
sound_form (number low high) name i = sound_value (with_index i (filled (rule_by (number low high) name))) (λ e. cc) (λ e. cc)
sound_form (one_of words) name i = sound_value (with_index i (filled (rule_by (one_of words) name))) (λ e. cc) (λ e. cc)
sound_form positional name i = sound_value (with_index i (filled (rule_by positional name))) (λ e. cc) (λ e. cc)
sound_form (positionals required) name i = sound_value (with_index i (filled (rule_by (positionals required) name))) (λ e. cc) (λ e. cc)

sound : (c : Command) → SoundCommand HasValue c
sound c = record {
  arguments = λ k d lt i. sound_form (get_or c.arguments k d).form (get_or c.arguments k d).name i;
  help = λ i. record { uses = λ vs acts range e. absurd (cc (acts)); defaults = λ v vs e. omega arith; counts = λ e. cc };
  version = λ i. record { uses = λ vs acts range e. absurd (cc (acts)); defaults = λ v vs e. omega arith; counts = λ e. cc };
}

-- an argument that is given has a text
has_text : (id : Text) (rows : List Row) → FitEach HasValue rows → is_given id rows ≡ true → 0 < length (texts_at id rows)
has_text id [] h e = cc
has_text id (r ∷ rs) h e = go (has_text id rs h.1) (bytes_eq r.id id) e
  where
    go : (is_given id rs ≡ true → 0 < length (texts_at id rs)) → (b : Bool)
        → option_map_or (λ q. explicit_source q.source) (cond b (Some r) (find (λ q. bytes_eq q.id id) rs)) false ≡ true
        → 0 < length (unwrap_or (option_map (λ q. q.values) (cond b (Some r) (find (λ q. bytes_eq q.id id) rs))) [])
    go later true e = h.0
    go later false e = later e

abbrev is_wanting : List Row → Rule → Bool
is_wanting rows a = a.required && not (is_given a.id rows)

not_false : (b : Bool) → not b ≡ false → b ≡ true
not_false true e = refl
not_false false e = cc

or_false : (a b : Bool) → (a || b) ≡ false → (a ≡ false) × (b ≡ false)
or_false true b e = cc
or_false false b e = (refl, e)

given_one : (rows : List Row) (form : Form) (name : Text) (i : ℕ) → is_required form ≡ true
    → is_wanting rows (with_index i (filled (rule_by form name))) ≡ false → is_given name rows ≡ true
given_one rows flag name i required e = cc
given_one rows any_text name i required e = cc
given_one rows (number low high) name i required e = cc
given_one rows (one_of words) name i required e = cc
given_one rows positional name i required e = not_false (is_given name rows) e
given_one rows (positionals true) name i required e = not_false (is_given name rows) e
given_one rows (positionals false) name i required e = cc

given_each : (rows : List Row) → FitEach HasValue rows → (arguments : List Argument) (rest : List Rule) (i : ℕ)
    → list_any (is_wanting rows) (filled_from i (map rule_for arguments ++ rest)) ≡ false → All (IsGivenIfRequired rows) arguments
given_each rows fit [] rest i e = All-nil (IsGivenIfRequired rows)
given_each rows fit (a ∷ others) rest i e =
    let more = filled_from (index_after i (filled (rule_for a))) (map rule_for others ++ rest) in
    let parts = or_false (is_wanting rows (with_index i (filled (rule_for a)))) (list_any (is_wanting rows) more) e in
    All-cons (IsGivenIfRequired rows) a others (λ required. has_text a.name rows fit (given_one rows a.form a.name i required parts.0))
    (given_each rows fit others rest (index_after i (filled (rule_for a))) parts.1)

pub required_are_given : RequiredAreGiven
required_are_given c words e =
    given_each (rows_of c words) (rows_fit HasValue joined c words (sound c) e) c.arguments (help_rule ∷ version_rule ∷ []) 1
    (subst (λ (rs : List Rule). list_any (is_wanting (rows_of c words)) (filled_from 1 rs) ≡ false)
    (append_assoc (map rule_for c.arguments) (help_rule ∷ []) (version_rule ∷ []))
    (none_wanting HasValue joined c words (sound c) e))
