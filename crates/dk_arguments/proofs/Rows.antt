-- What `clap` matched where it finds no fault: what each use of an argument has, each row has.
use Rattle.std.proofs.Common.{◌≡◌, ◌∙◌, ◌&&◌, ◌||◌, ◌++◌, ℕ, zero, suc, Bool, true, false, cond, refl, sym, ap, subst, List, [], ◌∷◌, length, drop, map, not, append_assoc, Option, Some, None, is_some, arith}
use Rattle.std.specs.Prelude.{encode_utf8, find, fold, slice_get}
use Rattle.std.specs.List.{All, list_any}
use Rattle.std.specs.Option.{option_map_or}
use Rattle.std.specs.Str.{bytes_eq, chars}
use Rattle.std.proofs.lemmas.List.Elements.{All-head, All-tail}
use Rattle.std.proofs.lemmas.Bool.{ne_eqb}
use Rattle.std.proofs.lemmas.Slice.Eq.{bytes_eq-Decides}
use Rattle.clap.specs.Lexer.{long_of, short_of}
use Rattle.clap.specs.Facts.{unwrap_or_range}
use Rattle.clap.specs.Walk.{Held, Names, Outcome, Row, Rule, Step, Text, Waiting, Walk, action_of, after_flag, after_step, arg_by_id, arg_by_index, arg_by_long, arg_by_short, attached_value, bundle, bundle_met, bundle_step, default_rows, done, finished, flag_met, has_row, idle, is_empty, is_pending, long_met, long_or_other, most_values, next, nothing_held, option, option_met, option_word, plain, plain_word, positional, reacted, reading_by, refused, rows_after, settled, settled_rows, short_met, short_or_plain, stronger, subcommand, subcommand_met, subcommand_or_other, takes_several, takes_values, to_positional, trailing, used, used_as, used_by_id, value, values_or_missing, waits, walk, walk_from, walked, walked_from, with_default, with_values, without, word_met}
use Rattle.clap.specs.Takes.{is_given}
use Rattle.clap.specs.Simple.{Shape, argument_words, built, entered, filled, filled_from, help_rule, index_after, names_of, version_rule, with_index}
use Rattle.clap.specs.Kinds.{Kinds, check_kinds, or_else, range_kinds, request_kinds}
use Rattle.clap.specs.Faults.{action_fault, bundle_fault, bundle_step_fault, check_fault, default_fault, defaults_fault, entered_fault, flag_word_fault, flags_fault, given_default_fault, level_fault, long_fault, option_fault, other_fault, positional_fault, react_fault, repeat_fault, settle_fault, short_fault, step_fault, stray_fault, turn_fault, use_fault, values_fault, walk_fault, word_fault}
use Rattle.clap.specs.declared.builder.action.ArgAction.{ArgAction}
use Rattle.clap.specs.declared.builder.action.ArgAction.TheVariants as action
use Rattle.clap.specs.declared.builder.value_parser.Reading.{Reading}
use Rattle.clap.specs.declared.error.kind.ErrorKind.TheVariants as kind
use Rattle.clap.specs.declared.parser.matches.ValueSource.{ValueSource}
use Rattle.clap.specs.declared.parser.matches.ValueSource.TheVariants.{CommandLine, DefaultValue}
use Rattle.dk_arguments.specs.Commands.{app_of_command, faults_of, named, rows_of, rule_for}
use Rattle.dk_arguments.specs.Descriptions.{Argument, Command, positional}

-- what each row is to have: of its name, how it is read, and its values
abbrev pub Fitting : Type 1
Fitting = Text → Reading → List Text → Type 0

-- also a row that gets the values of another
abbrev pub Joins : Fitting → Type 0
Joins Fit = (id : Text) (how other : Reading) (vs ws : List Text) → Fit id how vs → Fit id other ws → Fit id how (vs ++ ws)

abbrev pub FitEach : Fitting → List Row → Type 0
FitEach Fit [] = Unit {0}
FitEach Fit (r ∷ rs) = Fit r.id r.reading r.values × FitEach Fit rs

-- too few or too many values in a use of an argument
abbrev pub range_fault : Rule → List Text → Kinds
range_fault a vs = range_kinds (unwrap_or_range a.range).start_inclusive (most_values a) (length vs)

-- a rule whose accepted uses and default values fit, and which doesn't count
pub record Sound (Fit : Fitting) (a : Rule) : Type 0 where
  pub uses : (vs : List Text) → request_kinds (action_of a) ≡ [] → range_fault a vs ≡ [] → values_fault a (values_or_missing a vs) ≡ []
      → Fit a.id (reading_by a) (values_or_missing a vs)
  pub defaults : (v : Text) (vs : List Text) → values_fault a (v ∷ vs) ≡ [] → Fit a.id (reading_by a) (v ∷ vs)
  pub counts : action_of a ≡ action.Count → ⊥

abbrev SoundIfFound : Fitting → Option Rule → Type 0
SoundIfFound Fit None = Unit {0}
SoundIfFound Fit (Some a) = Sound Fit a

abbrev SoundEach : Fitting → List Rule → Type 0
SoundEach Fit [] = Unit {0}
SoundEach Fit (a ∷ rest) = Sound Fit a × SoundEach Fit rest

-- the rule, filled in, at any place among the positionals
abbrev pub IsSoundRule : Fitting → Rule → Type 0
IsSoundRule Fit a = (i : ℕ) → Sound Fit (with_index i (filled a))

abbrev pub IsSound : Fitting → Argument → Type 0
IsSound Fit a = IsSoundRule Fit (rule_for a)

pub record SoundCommand (Fit : Fitting) (c : Command) : Type 0 where
  pub arguments : All (IsSound Fit) c.arguments
  pub help : IsSoundRule Fit help_rule
  pub version : IsSoundRule Fit version_rule

pub same_text : (a b : Text) → bytes_eq a b ≡ true → a ≡ b
same_text a b e = (bytes_eq-Decides a b).0 e

pub or_nil : (a b : Kinds) → or_else a b ≡ [] → (a ≡ []) × (b ≡ [])
or_nil [] b e = (refl, e)
or_nil (k ∷ ks) b e = cc

-- no argument that has to be given is wanting
unwanted : (help sub argument : Bool) → check_kinds help sub argument ≡ [] → argument ≡ false
unwanted true sub argument e = absurd (cc (e))
unwanted false true argument e = absurd (cc (e))
unwanted false false true e = absurd (cc (e))
unwanted false false false e = refl

module _ (Fit : Fitting) (joins : Joins Fit) where
  with_values_fit : (id : Text) (how : Reading) (s : ValueSource) (vs : List Text) (rows : List Row) → Fit id how vs → FitEach Fit rows
      → FitEach Fit (with_values id how s vs rows)
  with_values_fit id how s vs [] f h = (f, tt)
  with_values_fit id how s vs (r ∷ rs) f h = go (with_values_fit id how s vs rs f h.1) (bytes_eq r.id id) refl
    where
      go : FitEach Fit (with_values id how s vs rs) → (b : Bool) → bytes_eq r.id id ≡ b
          → FitEach Fit (cond b (record r { values = r.values ++ vs; source = Some (stronger r.source s) } ∷ rs) (r ∷ with_values id how s vs rs))
      go later true e = (
        joins r.id r.reading how r.values vs h.0 (subst (λ (name : Text). Fit name how vs) (sym (same_text r.id id e)) f),
        h.1,
      )
      go later false e = (h.0, later)

  without_fit : (id : Text) (rows : List Row) → FitEach Fit rows → FitEach Fit (without id rows)
  without_fit id [] h = tt
  without_fit id (r ∷ rs) h = go (without_fit id rs h.1) (bytes_eq r.id id)
    where
      go : FitEach Fit (without id rs) → (b : Bool) → FitEach Fit (cond b rs (r ∷ without id rs))
      go later true = h.1
      go later false = (h.0, later)

  set_fit : (again : Bool) (a : Rule) (vs : List Text) (rows : List Row) → (values_fault a vs ≡ [] → Fit a.id (reading_by a) vs)
      → or_else (repeat_fault again a.id rows) (values_fault a vs) ≡ []
      → FitEach Fit rows → FitEach Fit (with_values a.id (reading_by a) CommandLine vs (without a.id rows))
  set_fit again a vs rows fits e h =
      with_values_fit a.id (reading_by a) CommandLine vs (without a.id rows)
      (fits (or_nil (repeat_fault again a.id rows) (values_fault a vs) e).1) (without_fit a.id rows h)

  acted_fit : (x : ArgAction) (again : Bool) (a : Rule) (vs : List Text) (rows : List Row)
      → (request_kinds x ≡ [] → values_fault a vs ≡ [] → Fit a.id (reading_by a) vs) → (x ≡ action.Count → ⊥)
      → action_fault x again a vs rows ≡ [] → FitEach Fit rows → FitEach Fit (used_as x a.id (reading_by a) vs rows)
  acted_fit action.Set again a vs rows fits n e h = set_fit again a vs rows (fits refl) e h
  acted_fit action.SetTrue again a vs rows fits n e h = set_fit again a vs rows (fits refl) e h
  acted_fit action.SetFalse again a vs rows fits n e h = set_fit again a vs rows (fits refl) e h
  acted_fit action.Append again a vs rows fits n e h = with_values_fit a.id (reading_by a) CommandLine vs rows (fits refl e) h
  acted_fit action.Count again a vs rows fits n e h = absurd (n refl)
  acted_fit action.Help again a vs rows fits n e h = h
  acted_fit action.HelpShort again a vs rows fits n e h = h
  acted_fit action.HelpLong again a vs rows fits n e h = h
  acted_fit action.Version again a vs rows fits n e h = h

  used_fit : (again : Bool) (a : Rule) (vs : List Text) (rows : List Row) → Sound Fit a → use_fault again a vs rows ≡ [] → FitEach Fit rows → FitEach Fit (used a vs rows)
  used_fit again a vs rows s e h =
      let parts = or_nil (range_fault a vs) (action_fault (action_of a) again a (values_or_missing a vs) rows) e in
      acted_fit (action_of a) again a (values_or_missing a vs) rows (λ acts. s.uses vs acts parts.0) s.counts parts.1 h

  found_sound : (c : List Rule) → SoundEach Fit c → (test : Rule → Bool) → SoundIfFound Fit (find test c)
  found_sound [] all test = tt
  found_sound (a ∷ rest) all test = go (found_sound rest all.1 test) (test a)
    where
      go : SoundIfFound Fit (find test rest) → (b : Bool) → SoundIfFound Fit (cond b (Some a) (find test rest))
      go later true = all.0
      go later false = later

  module _ (c : List Rule) (all : SoundEach Fit c) (again : Bool) where
    by_id_fit : (o : Option Rule) (vs : List Text) (rows : List Row) → SoundIfFound Fit o → option_map_or (λ a. use_fault again a vs rows) o [] ≡ []
        → FitEach Fit rows → FitEach Fit (used_by_id o vs rows)
    by_id_fit None vs rows s e h = h
    by_id_fit (Some a) vs rows s e h = used_fit again a vs rows s e h

    pending_fit : (p : Option (Text × List Text)) (rows : List Row)
        → option_map_or (λ q. option_map_or (λ a. use_fault again a q.1 rows) (arg_by_id c q.0) []) p [] ≡ []
        → FitEach Fit rows → FitEach Fit (settled_rows c p rows)
    pending_fit None rows e h = h
    pending_fit (Some q) rows e h = by_id_fit (arg_by_id c q.0) q.1 rows (found_sound c all (λ a. bytes_eq a.id q.0)) e h

    settled_fit : (h : Held) → settle_fault c again h ≡ [] → FitEach Fit h.rows → FitEach Fit (settled c h).rows
    settled_fit h e f = pending_fit h.pending h.rows e f

    reacted_fit : (a : Rule) (vs : List Text) (h : Held) → Sound Fit a → react_fault c again a vs h ≡ [] → FitEach Fit h.rows → FitEach Fit (reacted c a vs h).rows
    reacted_fit a vs h s e f =
        let parts = or_nil (settle_fault c again h) (use_fault again a vs (settled c h).rows) e in
        used_fit again a vs (settled c h).rows s parts.1 (settled_fit h parts.0 f)

    option_fit : (a : Rule) (v : Option Text) (h : Held) → Sound Fit a → option_fault c again a v h ≡ [] → FitEach Fit h.rows → FitEach Fit (option_met c a v h).0.rows
    option_fit a None h s e f = settled_fit h e f
    option_fit a (Some v) h s e f = reacted_fit a (v ∷ []) h s e f

    flag_fit : (a : Rule) (v : Option Text) (h : Held) → Sound Fit a → cond (is_some v) (kind.TooManyValues ∷ []) (react_fault c again a [] h) ≡ []
        → FitEach Fit h.rows → FitEach Fit (flag_met c a v h).0.rows
    flag_fit a None h s e f = reacted_fit a [] h s e f
    flag_fit a (Some v) h s e f = f

    long_fit : (o : Option Rule) (v : Option Text) (h : Held) → SoundIfFound Fit o → long_fault c again o v h ≡ [] → FitEach Fit h.rows → FitEach Fit (long_met c o v h).0.rows
    long_fit None v h s e f = f
    long_fit (Some a) v h s e f = go (takes_values a) e
      where
        go : (b : Bool) → cond b (option_fault c again a v h) (cond (is_some v) (kind.TooManyValues ∷ []) (react_fault c again a [] h)) ≡ []
            → FitEach Fit (cond b (option_met c a v h) (flag_met c a v h)).0.rows
        go true e = option_fit a v h s e f
        go false e = flag_fit a v h s e f

    short_fit : (o : Option Rule) (rest : Text) (h : Held) (more : Held → Kinds) (met : Held → Held × Outcome) → SoundIfFound Fit o
        → ((g : Held) → more g ≡ [] → FitEach Fit g.rows → FitEach Fit (met g).0.rows) → short_fault c again o rest h more ≡ [] → FitEach Fit h.rows
        → FitEach Fit (short_met c o rest h met).0.rows
    short_fit None rest h more met s n e f = f
    short_fit (Some a) rest h more met s n e f = go (takes_values a) e
      where
        go : (b : Bool) → cond b (option_fault c again a (attached_value rest) h) (or_else (react_fault c again a [] h) (more (reacted c a [] h))) ≡ []
            → FitEach Fit (cond b (option_met c a (attached_value rest) h) (met (reacted c a [] h))).0.rows
        go true e = option_fit a (attached_value rest) h s e f
        go false e =
            let parts = or_nil (react_fault c again a [] h) (more (reacted c a [] h)) e in
            n (reacted c a [] h) parts.1 (reacted_fit a [] h s parts.0 f)

    bundle_step_fit : (x : Option ℕ) (flags : Text) (skip : ℕ) (so_far : Outcome) (h : Held) (more : Text → ℕ → Held → Kinds)
        (met : Text → ℕ → Outcome → Held → Held × Outcome)
        → ((rest : Text) (k : ℕ) (o : Outcome) (g : Held) → more rest k g ≡ [] → FitEach Fit g.rows → FitEach Fit (met rest k o g).0.rows)
        → bundle_step_fault c again x flags skip h more ≡ [] → FitEach Fit h.rows → FitEach Fit (bundle_step c x flags skip so_far h met).0.rows
    bundle_step_fit None flags skip so_far h more met n e f = f
    bundle_step_fit (Some x) flags zero so_far h more met n e f =
        let rest = drop (length (encode_utf8 x)) flags in
        short_fit (arg_by_short c x) rest h (more rest 0) (met rest 0 done) (found_sound c all _) (λ g. n rest 0 done g) e f
    bundle_step_fit (Some x) flags (suc skip) so_far h more met n e f = n (drop (length (encode_utf8 x)) flags) skip so_far h e f

    flags_fit : (k : ℕ) (flags : Text) (skip : ℕ) (so_far : Outcome) (h : Held) → flags_fault c again k flags skip h ≡ [] → FitEach Fit h.rows
        → FitEach Fit (bundle_met c k flags skip so_far h).0.rows
    unfolding flags_fault bundle_met
    flags_fit zero flags skip so_far h e f = f
    flags_fit (suc k) flags skip so_far h e f =
        bundle_step_fit (slice_get (chars flags) 0) flags skip so_far h (flags_fault c again k) (bundle_met c k) (flags_fit k) e f

    option_word_fit : (o : Option Rule) (id word : Text) (h : Held) → FitEach Fit h.rows → FitEach Fit (option_word o id word h).0.rows
    option_word_fit None id word h f = f
    option_word_fit (Some a) id word h f = f

    plain_fit : (w : Waiting) (word : Text) (h : Held) → FitEach Fit h.rows → FitEach Fit (plain_word c w word h).0.rows
    plain_fit idle word h f = f
    plain_fit (option id) word h f = option_word_fit (arg_by_id c id) id word h f
    plain_fit positional word h f = f

    after_flag_fit : (w : Waiting) (word : Text) (h : Held) (o : Outcome) → FitEach Fit h.rows → FitEach Fit (after_flag c w word h o).0.rows
    after_flag_fit w word h done f = f
    after_flag_fit w word h (waits id) f = f
    after_flag_fit w word h plain f = plain_fit w word h f
    after_flag_fit w word h refused f = plain_fit w word h f

    short_word_fit : (w : Waiting) (word : Text) (o : Option Text) (h : Held) → option_map_or (λ flags. bundle_fault c again flags h) o [] ≡ []
        → FitEach Fit h.rows → FitEach Fit (short_or_plain c w word o h).0.rows
    short_word_fit w word None h e f = plain_fit w word h f
    short_word_fit w word (Some flags) h e f =
        after_flag_fit w word (bundle c flags h).0 (bundle c flags h).1 (flags_fit (length flags) flags h.skip plain (record h { skip = 0 }) e f)

    flag_word_fit : (w : Waiting) (word : Text) (o : Option (Text × Option Text)) (h : Held) → flag_word_fault c again o word h ≡ []
        → FitEach Fit h.rows → FitEach Fit (long_or_other c w word o h).0.rows
    flag_word_fit w word None h e f = short_word_fit w word (short_of word) h e f
    flag_word_fit w word (Some p) h e f =
        let met = long_met c (arg_by_long c p.0) p.1 h in
        after_flag_fit w word met.0 met.1 (long_fit (arg_by_long c p.0) p.1 h (found_sound c all _) e f)

  module _ (s : Shape) (all : SoundEach Fit s.rules) where
    other_fit : (o : Option Text) (w : Waiting) (position : ℕ) (word : Text) (h : Held) → other_fault s o word h ≡ [] → FitEach Fit h.rows
        → FitEach Fit (subcommand_or_other s.rules o w position word h).0.rows
    other_fit (Some name) w position word h e f = f
    other_fit None w position word h e f = go (bytes_eq word (45 ∷ 45 ∷ [])) e
      where
        go : (b : Bool) → cond b [] (flag_word_fault s.rules s.args_override_self (long_of word) word h) ≡ []
            → FitEach Fit (cond b (h, trailing position) (long_or_other s.rules w word (long_of word) h)).0.rows
        go true e = f
        go false e = flag_word_fit s.rules all s.args_override_self w word (long_of word) h e f

    word_fit : (names : Names) (is_trailing : Bool) (w : Waiting) (position : ℕ) (word : Text) (h : Held) → word_fault s names is_trailing w word h ≡ []
        → FitEach Fit h.rows → FitEach Fit (word_met s.rules names is_trailing w position word h).0.rows
    word_fit names true w position word h e f = f
    word_fit names false w position word h e f = other_fit (subcommand_met names w word) w position word h e f

    positional_fit : (o : Option Rule) (word : Text) (w : Walk) (h : Held) → SoundIfFound Fit o
        → option_map_or (λ a. positional_fault s.rules s.args_override_self a h) o (stray_fault s) ≡ []
        → FitEach Fit h.rows → FitEach Fit (to_positional s.rules o word w h).held.rows
    positional_fit None word w h sound e f = f
    positional_fit (Some a) word w h sound e f = go (is_pending a h.pending && takes_several a) e
      where
        go : (b : Bool) → cond b [] (settle_fault s.rules s.args_override_self h) ≡ [] → FitEach Fit (cond b h (settled s.rules h)).rows
        go true e = f
        go false e = settled_fit s.rules all s.args_override_self h e f

    step_fit : (word : Text) (w : Walk) (h : Held) (step : Step) → step_fault s w.position h step ≡ [] → FitEach Fit h.rows
        → FitEach Fit (after_step s.rules word w h step).held.rows
    step_fit word w h (next waiting) e f = f
    step_fit word w h (trailing position) e f = f
    step_fit word w h (subcommand name) e f = f
    step_fit word w h value e f = positional_fit (arg_by_index s.rules w.position) word w h (found_sound s.rules all _) e f

    turn_fit : (names : Names) (w : Walk) (word : Text) → turn_fault s names w word ≡ [] → FitEach Fit w.held.rows
        → FitEach Fit (walked s.rules names w word).held.rows
    unfolding walked
    turn_fit names w word e f = go w.stopped e
      where
        met : Held × Step
        met = word_met s.rules names w.is_trailing w.waiting w.position word w.held

        go : (o : Option (Text × List Text))
            → cond (is_some o) [] (or_else (word_fault s names w.is_trailing w.waiting word w.held) (step_fault s w.position met.0 met.1)) ≡ []
            → FitEach Fit (walked_from s.rules names o w word).held.rows
        go (Some p) e = f
        go None e =
            let parts = or_nil (word_fault s names w.is_trailing w.waiting word w.held) (step_fault s w.position met.0 met.1) e in
            step_fit word w met.0 met.1 parts.1 (word_fit names w.is_trailing w.waiting w.position word w.held parts.0 f)

    walk_fit : (names : Names) (w : Walk) (words : List Text) → walk_fault s names w words ≡ [] → FitEach Fit w.held.rows
        → FitEach Fit (fold (walked s.rules names) w words).held.rows
    unfolding walk_fault
    walk_fit names w [] e f = f
    walk_fit names w (word ∷ rest) e f =
        let parts = or_nil (turn_fault s names w word) (walk_fault s names (walked s.rules names w word) rest) e in
        walk_fit names (walked s.rules names w word) rest parts.1 (turn_fit names w word parts.0 f)

  default_values_fit : (a : Rule) (ds : List Text) (rows : List Row) → Sound Fit a → cond (is_empty ds) [] (given_default_fault a ds) ≡ [] → FitEach Fit rows
      → FitEach Fit (default_rows a.id (reading_by a) ds rows)
  default_values_fit a [] rows s e f = f
  default_values_fit a (v ∷ vs) rows s e f =
      let given : is_empty (v ∷ vs) ≡ false = ne_eqb (length (v ∷ vs)) 0 (λ z. absurd (omega arith)) in
      let fault : given_default_fault a (v ∷ vs) ≡ [] =
      sym (ap (λ b. cond b [] (given_default_fault a (v ∷ vs))) given) ∙ e in
      with_values_fit a.id (reading_by a) DefaultValue (v ∷ vs) rows
      (s.defaults v vs (or_nil (request_kinds (action_of a)) (values_fault a (v ∷ vs)) fault).1) f

  default_fit : (a : Rule) (rows : List Row) → Sound Fit a → default_fault rows a ≡ [] → FitEach Fit rows → FitEach Fit (with_default rows a)
  default_fit a rows s e f = go (has_row a.id rows) e
    where
      go : (b : Bool) → cond (b || is_empty a.defaults) [] (given_default_fault a a.defaults) ≡ []
          → FitEach Fit (cond b rows (default_rows a.id (reading_by a) a.defaults rows))
      go true e = f
      go false e = default_values_fit a a.defaults rows s e f

  defaults_fit : (c : List Rule) (rows : List Row) → SoundEach Fit c → defaults_fault rows c ≡ [] → FitEach Fit rows → FitEach Fit (fold with_default rows c)
  unfolding defaults_fault
  defaults_fit [] rows all e f = f
  defaults_fit (a ∷ rest) rows all e f =
      let parts = or_nil (default_fault rows a) (defaults_fault (with_default rows a) rest) e in
      defaults_fit rest (with_default rows a) all.1 parts.1 (default_fit a rows all.0 parts.0 f)

  -- and the last checks find no fault in them
  level_fit : (s : Shape) (names : Names) (words : List Text) (has_subcommand : Bool) (below : Kinds) → SoundEach Fit s.rules
      → level_fault s names nothing_held words has_subcommand below ≡ []
      → FitEach Fit (rows_after s.rules names words) × (check_fault s (rows_after s.rules names words) has_subcommand ≡ [])
  level_fit s names words has_subcommand below all e =
      let end = (walk s.rules names nothing_held words).held in
      let rows = (settled s.rules end).rows in
      let checks = check_fault s (finished s.rules end) has_subcommand in
      let a = or_nil (walk_fault s names (walk_from nothing_held) words)
      (or_else below (or_else (settle_fault s.rules s.args_override_self end) (or_else (defaults_fault rows s.rules) checks))) e in
      let b = or_nil below (or_else (settle_fault s.rules s.args_override_self end) (or_else (defaults_fault rows s.rules) checks)) a.1 in
      let d = or_nil (settle_fault s.rules s.args_override_self end) (or_else (defaults_fault rows s.rules) checks) b.1 in
      let g = or_nil (defaults_fault rows s.rules) checks d.1 in (
        defaults_fit s.rules rows all g.0
            (settled_fit s.rules all s.args_override_self end d.0 (walk_fit s all names (walk_from nothing_held) words a.0 tt)),
        g.1,
      )

  sound_rules : (arguments : List Argument) (rest : List Rule) (i : ℕ) → All (IsSound Fit) arguments
      → ((k : ℕ) → SoundEach Fit (filled_from k rest)) → SoundEach Fit (filled_from i (map rule_for arguments ++ rest))
  sound_rules [] rest i all more = more i
  sound_rules (a ∷ others) rest i all more = (
    All-head (IsSound Fit) a others all i,
    sound_rules others rest (index_after i (filled (rule_for a))) (All-tail (IsSound Fit) a others all) more,
  )

  rules_sound : (c : Command) → SoundCommand Fit c → SoundEach Fit (built (app_of_command c)).top.rules
  rules_sound c sound =
      subst (λ (rs : List Rule). SoundEach Fit (filled_from 1 rs)) (sym (append_assoc (map rule_for c.arguments) (help_rule ∷ []) (version_rule ∷ [])))
      (sound_rules c.arguments (help_rule ∷ version_rule ∷ []) 1 sound.arguments
      (λ k. (sound.help k, (sound.version (index_after k (filled help_rule)), tt))))

  -- the rows of a command in which no fault is found fit
  pub rows_fit : (c : Command) (words : List Text) → SoundCommand Fit c → faults_of c words ≡ [] → FitEach Fit (rows_of c words)
  unfolding faults_of rows_of
  rows_fit c words sound e =
      let a = built (app_of_command c) in
      let given = argument_words (app_of_command c) (named c words) in
      let stop = (walk a.top.rules (names_of a) nothing_held given).stopped in
      (level_fit a.top (names_of a) given (is_some (entered a stop)) (entered_fault a stop) (rules_sound c sound) e).0

  -- and each argument that has to be given is given
  pub none_wanting : (c : Command) (words : List Text) → SoundCommand Fit c → faults_of c words ≡ []
      → list_any (λ a. a.required && not (is_given a.id (rows_of c words))) (built (app_of_command c)).top.rules ≡ false
  unfolding faults_of rows_of
  none_wanting c words sound e =
      let a = built (app_of_command c) in
      let given = argument_words (app_of_command c) (named c words) in
      let stop = (walk a.top.rules (names_of a) nothing_held given).stopped in
      unwanted _ _ _ (level_fit a.top (names_of a) given (is_some (entered a stop)) (entered_fault a stop) (rules_sound c sound) e).1
