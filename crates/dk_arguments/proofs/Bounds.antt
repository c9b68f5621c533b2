-- Where `clap` finds no fault, each number that it matched is within its bounds.
use Rattle.std.proofs.Common.{◌≡◌, ◌∙◌, ◌^◌, ◌&&◌, ◌==◌, ◌++◌, ℕ, Bool, true, false, cond, codes, refl, sym, ap, ap₂, subst, List, [], ◌∷◌, Option, Some, None, IfSome, unwrap_or, nat_le, nat_lt}
use Rattle.std.specs.Prelude.{find, if◌then◌else◌, option_and_then, option_map, slice_get}
use Rattle.std.specs.List.{All, list_all}
use Rattle.std.specs.Str.{bytes_eq}
use Rattle.std.specs.Str.Parse.{digits_value, without_leading_plus}
use Rattle.std.proofs.lemmas.Bool.{eqb-true, false≢true, leb-true}
use Rattle.std.proofs.lemmas.List.Elements.{All-cons, All-nil, All-weaker}
use Rattle.std.proofs.lemmas.Slice.Eq.{bytes_eq-Decides}
use Rattle.clap.specs.Facts.{parser_of_value}
use Rattle.clap.specs.Values.{read_as, refused_kind}
use Rattle.clap.specs.ValueTests.{accepts}
use Rattle.clap.specs.Walk.{Row, Rule, Text, action_of, reading_by, row_text, values_or_missing}
use Rattle.clap.specs.Simple.{filled, help_rule, version_rule, with_index}
use Rattle.clap.specs.Kinds.{value_kinds, values_kinds}
use Rattle.clap.specs.Faults.{values_fault}
use Rattle.clap.specs.declared.builder.action.ArgAction.TheVariants as action
use Rattle.clap.specs.declared.builder.value_parser.Reading.{Reading}
use Rattle.clap.specs.declared.builder.value_parser.Reading.TheVariants as reading
use Rattle.clap.specs.declared.builder.value_parser.ValueParser.{ValueParser}
use Rattle.clap.specs.declared.builder.value_parser.ValueParser.TheVariants as vp
use Rattle.clap.proofs.WalkLemmas.{both}
use Rattle.dk_base.specs.Numbers.{is_numeral, natural_of}
use Rattle.dk_arguments.specs.Commands.{rows_of, rule_by, rule_for}
use Rattle.dk_arguments.specs.Descriptions.{Argument, Command, Form, flag, number, one_of, positional, positionals, text as any_text}
use Rattle.dk_arguments.specs.Given.{number_at}
use Rattle.dk_arguments.specs.Laws.{IsNumbered, IsWithin, NumbersAreWithinBounds, Takes, Wanted}
use Rattle.dk_arguments.proofs.Rows.{FitEach, IsSound, IsSoundRule, Sound, SoundCommand, or_nil, rows_fit, same_text}

abbrev is_named : Wanted → Text → Bool
is_named w id = bytes_eq id w.name

abbrev bounds_of : Wanted → ValueParser
bounds_of w = vp.Unsigned w.low w.high

abbrev Pass : Wanted → List Text → Type 0
Pass w [] = Unit {0}
Pass w (v ∷ vs) = (accepts false (bounds_of w) v ≡ true) × Pass w vs

-- the values of the argument are within its bounds, and are read as they are written
record Fit (w : Wanted) (id : Text) (how : Reading) (vs : List Text) : Type 0 where
  as_written : is_named w id ≡ true → how ≡ reading.AsWritten
  pass : is_named w id ≡ true → Pass w vs

module _ (wanted : Wanted) where
  pass_both : (vs ws : List Text) → Pass wanted vs → Pass wanted ws → Pass wanted (vs ++ ws)
  pass_both [] ws h g = g
  pass_both (v ∷ vs) ws h g = (h.0, pass_both vs ws h.1 g)

  joined : (id : Text) (how other : Reading) (vs ws : List Text) → Fit wanted id how vs → Fit wanted id other ws → Fit wanted id how (vs ++ ws)
  joined id how other vs ws f g = record {
    as_written = f.as_written;
    pass = λ ranged. pass_both vs ws (f.pass ranged) (g.pass ranged);
  }

  sound_by : (a : Rule) → ((vs : List Text) → values_fault a vs ≡ [] → Fit wanted a.id (reading_by a) vs) → (action_of a ≡ action.Count → ⊥)
      → Sound (Fit wanted) a
  sound_by a fits n = record {
    uses = λ vs acts range e. fits (values_or_missing a vs) e;
    defaults = λ v vs e. fits (v ∷ vs) e;
    counts = n;
  }

  accepted : (vs : List Text) → values_kinds false (bounds_of wanted) vs ≡ [] → Pass wanted vs
  accepted [] e = tt
  accepted (v ∷ vs) e =
      let parts = or_nil (value_kinds false (bounds_of wanted) v) (values_kinds false (bounds_of wanted) vs) e in
      (go (accepts false (bounds_of wanted) v) refl parts.0, accepted vs parts.1)
    where
      go : (b : Bool) → accepts false (bounds_of wanted) v ≡ b → cond b [] (refused_kind (bounds_of wanted) ∷ []) ≡ [] → accepts false (bounds_of wanted) v ≡ true
      go true is e = is
      go false is e = cc

  -- an argument without bounds
  free : (a : Rule) → is_named wanted a.id ≡ false → (action_of a ≡ action.Count → ⊥) → Sound (Fit wanted) a
  free a is n = sound_by a (λ vs e. record {
    as_written = λ ranged. absurd (false≢true (sym is ∙ ranged));
    pass = λ ranged. absurd (false≢true (sym is ∙ ranged));
  }) n

  -- an argument with these bounds
  ranged : (a : Rule) → reading_by a ≡ reading.AsWritten → a.ignore_case ≡ false → parser_of_value a.parser ≡ bounds_of wanted → (action_of a ≡ action.Count → ⊥)
      → Sound (Fit wanted) a
  ranged a as_written cased parsed n = sound_by a (λ vs e. record {
    as_written = λ _. as_written;
    pass = λ _. accepted vs (sym ((λ i. values_kinds (cased i) (parsed i) vs)) ∙ e);
  }) n

  -- the rules of a command, filled in
  sound_other : (a : Rule) (i : ℕ) → is_named wanted a.id ≡ false → (action_of (filled a) ≡ action.Count → ⊥) → Sound (Fit wanted) (with_index i (filled a))
  sound_other a i is n = free (with_index i (filled a)) is n

  sound_number : (name : Text) (i : ℕ) → Sound (Fit wanted) (with_index i (filled (rule_for (record { name = name; form = number wanted.low wanted.high }))))
  sound_number name i = ranged (with_index i (filled (rule_for (record { name = name; form = number wanted.low wanted.high })))) refl refl refl (λ e. cc)

  no_count : (form : Form) (name : Text) → action_of (filled (rule_by form name)) ≡ action.Count → ⊥
  no_count flag name e = cc
  no_count any_text name e = cc
  no_count (number low high) name e = cc
  no_count (one_of words) name e = cc
  no_count positional name e = cc
  no_count (positionals required) name e = cc

  id_is : (form : Form) (name : Text) → (rule_by form name).id ≡ name
  id_is flag name = refl
  id_is any_text name = refl
  id_is (number low high) name = refl
  id_is (one_of words) name = refl
  id_is positional name = refl
  id_is (positionals required) name = refl

  sound_argument : (a : Argument) (i : ℕ) → (a.name ≡ wanted.name → a.form ≡ number wanted.low wanted.high) → Sound (Fit wanted) (with_index i (filled (rule_for a)))
  sound_argument a i takes = go (is_named wanted a.name) refl
    where
      go : (b : Bool) → is_named wanted a.name ≡ b → Sound (Fit wanted) (with_index i (filled (rule_for a)))
      go true e = subst (λ (f : Form). Sound (Fit wanted) (with_index i (filled (rule_by f a.name)))) (sym (takes (same_text a.name wanted.name e))) (sound_number a.name i)
      go false e = sound_other (rule_for a) i (ap (is_named wanted) (id_is a.form a.name) ∙ e) (no_count a.form a.name)

  ne_bytes : (id : Text) → (id ≡ wanted.name → ⊥) → is_named wanted id ≡ false
  ne_bytes id other = go (bytes_eq id wanted.name) refl
    where
      go : (b : Bool) → bytes_eq id wanted.name ≡ b → b ≡ false
      go true e = absurd (other (same_text id wanted.name e))
      go false e = refl

  help_sound : (wanted.name ≡ codes "help" → ⊥) → IsSoundRule (Fit wanted) help_rule
  help_sound other i = sound_other help_rule i (ne_bytes (codes "help") (λ e. other (sym e))) (λ e. cc)

  version_sound : (wanted.name ≡ codes "version" → ⊥) → IsSoundRule (Fit wanted) version_rule
  version_sound other i = sound_other version_rule i (ne_bytes (codes "version") (λ e. other (sym e))) (λ e. cc)

  sound : (c : Command) → Takes wanted c → SoundCommand (Fit wanted) c
  sound c takes = record {
    arguments = All-weaker (IsNumbered wanted) (IsSound (Fit wanted)) (λ a numbered i. sound_argument a i numbered) c.arguments takes.arguments;
    help = help_sound takes.no_help;
    version = version_sound takes.no_version;
  }

  natural_within : (word : Text) → accepts false (bounds_of wanted) word ≡ true → IfSome (natural_of (without_leading_plus word)) (IsWithin wanted.low wanted.high)
  unfolding natural_of
  natural_within word e =
      let ds = without_leading_plus word in
      let n = digits_value 10 ds in
      let a = both (is_numeral 10 ds) (nat_lt n (2 ^ 64) && (nat_le wanted.low n && nat_le n wanted.high)) e in
      let b = both (nat_lt n (2 ^ 64)) (nat_le wanted.low n && nat_le n wanted.high) a.1 in
      let d = both (nat_le wanted.low n) (nat_le n wanted.high) b.1 in
      let within : IsWithin wanted.low wanted.high n = (leb-true wanted.low n d.0, leb-true n wanted.high d.1) in
      rw (a.0, b.0) within

  first_within : (how : Reading) (vs : List Text) → how ≡ reading.AsWritten → Pass wanted vs
      → IfSome (option_and_then (λ text. natural_of (without_leading_plus text)) (option_map (read_as how) (slice_get vs 0))) (IsWithin wanted.low wanted.high)
  first_within how [] is h = tt
  first_within how (v ∷ vs) is h = rw is (natural_within v h.0)

  number_within : (rows : List Row) → FitEach (Fit wanted) rows → IfSome (number_at wanted.name rows) (IsWithin wanted.low wanted.high)
  number_within [] h = tt
  number_within (row ∷ rows) h = go (number_within rows h.1) (bytes_eq row.id wanted.name) refl
    where
      go : IfSome (number_at wanted.name rows) (IsWithin wanted.low wanted.high) → (b : Bool) → bytes_eq row.id wanted.name ≡ b
          → IfSome (option_and_then (λ text. natural_of (without_leading_plus text))
          (option_and_then row_text (cond b (Some row) (find (λ q. bytes_eq q.id wanted.name) rows)))) (IsWithin wanted.low wanted.high)
      go later true e = first_within row.reading row.values (h.0.as_written e) (h.0.pass e)
      go later false e = later

pub within_bounds : NumbersAreWithinBounds
within_bounds c wanted words takes e = number_within wanted (rows_of c words) (rows_fit (Fit wanted) (joined wanted) c words (sound wanted c takes) e)

-- ---- that a command takes these numbers, by computing it
abbrev is_number : Wanted → Form → Bool
is_number w (number low high) = low == w.low && high == w.high
is_number w form = false

abbrev pub is_numbered : Wanted → Argument → Bool
is_numbered w a = if is_named w a.name then is_number w a.form else true

number_is : (w : Wanted) (form : Form) → is_number w form ≡ true → form ≡ number w.low w.high
number_is w (number low high) e =
    let parts = both (low == w.low) (high == w.high) e in
    ap₂ number (eqb-true low w.low parts.0) (eqb-true high w.high parts.1)
number_is w flag e = cc
number_is w any_text e = cc
number_is w (one_of words) e = cc
number_is w positional e = cc
number_is w (positionals required) e = cc

numbered : (w : Wanted) (a : Argument) → is_numbered w a ≡ true → IsNumbered w a
numbered w a e same =
    number_is w a.form (sym (ap (λ (b : Bool). if b then is_number w a.form else true) ((bytes_eq-Decides a.name w.name).1 same)) ∙ e)

numbered_each : (w : Wanted) (arguments : List Argument) → list_all (is_numbered w) arguments ≡ true → All (IsNumbered w) arguments
numbered_each w [] e = All-nil (IsNumbered w)
numbered_each w (a ∷ others) e =
    let parts = both (is_numbered w a) (list_all (is_numbered w) others) e in
    All-cons (IsNumbered w) a others (numbered w a parts.0) (numbered_each w others parts.1)

other_text : (a b : Text) → bytes_eq a b ≡ false → a ≡ b → ⊥
other_text a b e same = false≢true (sym e ∙ (bytes_eq-Decides a b).1 same)

pub takes_from : (c : Command) (w : Wanted) → list_all (is_numbered w) c.arguments ≡ true → bytes_eq w.name (codes "help") ≡ false
    → bytes_eq w.name (codes "version") ≡ false → Takes w c
takes_from c w arguments help version = record {
  arguments = numbered_each w c.arguments arguments;
  no_help = other_text w.name (codes "help") help;
  no_version = other_text w.name (codes "version") version;
}

-- a number that is this one where none is given
pub or_default : (low high default : ℕ) (o : Option ℕ) → IsWithin low high default → IfSome o (IsWithin low high) → IsWithin low high (unwrap_or o default)
or_default low high default None is h = is
or_default low high default (Some n) is h = h
