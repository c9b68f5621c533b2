-- At a command without subcommands `clap` finds one fault at most.
use Rattle.std.proofs.Common.{◌≡◌, ◌&&◌, ◌||◌, ◌==◌, ◌+◌, nat_lt, ℕ, zero, suc, Bool, true, false, not, cond, codes, refl, sym, ap, List, [], ◌∷◌, length, drop, min, Option, Some, None, is_some, inl, inr, true≢false}
use Rattle.std.specs.Prelude.{encode_utf8, slice_get}
use Rattle.std.specs.List.{list_any}
use Rattle.std.specs.Option.{option_map_or}
use Rattle.std.specs.Str.{bytes_eq, chars}
use Rattle.clap.specs.Values.{refused_kind}
use Rattle.clap.specs.ValueTests.{accepts}
use Rattle.clap.specs.Matches.{count_text}
use Rattle.clap.specs.Lexer.{long_of, short_of}
use Rattle.clap.specs.Facts.{explicit_source, parser_of_value, unwrap_or_range}
use Rattle.clap.specs.Walk.{Held, Names, Row, Rule, Step, Text, Waiting, Walk, action_of, arg_by_id, arg_by_index, arg_by_long, arg_by_short, attached_value, count_of, finished, has_row, is_empty, is_pending, most_values, nothing_held, reacted, settled, subcommand, subcommand_met, next, trailing, takes_several, takes_values, value, values_or_missing, walk, walk_from, walked, with_default, word_met}
use Rattle.clap.specs.Simple.{App, Shape, argument_words, built, entered, names_of}
use Rattle.clap.specs.Takes.{is_given}
use Rattle.clap.specs.Kinds.{IsAmong, Kinds, check_kinds, or_else, range_kinds, request_kinds, value_kinds, values_kinds}
use Rattle.clap.specs.Faults.{fault_of, action_fault, built_fault, bundle_fault, bundle_step_fault, count_fault, default_fault, defaults_fault, entered_fault, flag_word_fault, flags_fault, given_default_fault, level_fault, long_fault, option_fault, other_fault, positional_fault, react_fault, repeat_fault, set_fault, settle_fault, short_fault, step_fault, stray_fault, turn_fault, use_fault, values_fault, walk_fault, word_fault}
use Rattle.clap.specs.declared.builder.action.ArgAction.{ArgAction}
use Rattle.clap.specs.declared.builder.action.ArgAction.TheVariants as action
use Rattle.clap.specs.declared.builder.value_parser.ValueParser.{ValueParser}
use Rattle.clap.specs.declared.error.kind.ErrorKind.{ErrorKind}
use Rattle.clap.specs.declared.error.kind.ErrorKind.TheVariants as kind
use Rattle.dk_arguments.specs.Commands.{app_of_command}
use Rattle.dk_arguments.specs.Descriptions.{Command}
use Rattle.dk_arguments.specs.Requests.{request_by, request_for}

abbrev HasOne : Kinds → Type 0
HasOne [] = Unit {0}
HasOne (k ∷ []) = Unit {0}
HasOne (k ∷ l ∷ ks) = ⊥

pub record OneAtMost (ks : Kinds) : Type 0 where
  one : HasOne ks

none : OneAtMost []
none = record { one = tt }

single : (k : ErrorKind) → OneAtMost (k ∷ [])
single k = record { one = tt }

or_one : (a b : Kinds) → OneAtMost a → OneAtMost b → OneAtMost (or_else a b)
or_one [] b h g = g
or_one (k ∷ ks) b h g = h

if_one : (b : Bool) (x y : Kinds) → OneAtMost x → OneAtMost y → OneAtMost (cond b x y)
if_one true x y h g = h
if_one false x y h g = g

-- of an option's value, where there is one
map_one : {A : Type 0} (f : A → Kinds) (o : Option A) → ((x : A) → OneAtMost (f x)) → OneAtMost (option_map_or f o [])
map_one f None h = none
map_one f (Some x) h = h x

value_one : (i : Bool) (p : ValueParser) (text : Text) → OneAtMost (value_kinds i p text)
value_one i p text = if_one (accepts i p text) _ _ none (single (refused_kind p))

values_one : (i : Bool) (p : ValueParser) (vs : List Text) → OneAtMost (values_kinds i p vs)
values_one i p [] = none
values_one i p (v ∷ vs) = or_one (value_kinds i p v) (values_kinds i p vs) (value_one i p v) (values_one i p vs)

range_one : (least most n : ℕ) → OneAtMost (range_kinds least most n)
range_one least most n = if_one (nat_lt 0 least && n == 0) _ _ (single kind.InvalidValue)
    (if_one (least == most) _ _ (if_one (least == n) _ _ none (single kind.WrongNumberOfValues))
    (if_one (nat_lt n least) _ _ (single kind.TooFewValues) (if_one (nat_lt most n) _ _ (single kind.TooManyValues) none)))

check_one : (a b c : Bool) → OneAtMost (check_kinds a b c)
check_one a b c = if_one a _ _ (single kind.DisplayHelpOnMissingArgumentOrSubcommand)
    (if_one b _ _ (single kind.MissingSubcommand) (if_one c _ _ (single kind.MissingRequiredArgument) none))

count_one : (a : Rule) (vs : List Text) (rows : List Row) → OneAtMost (count_fault a vs rows)
count_one a [] rows = value_one a.ignore_case (parser_of_value a.parser) (count_text (min (count_of a.id rows + 1) 255))
count_one a (v ∷ vs) rows = values_one a.ignore_case (parser_of_value a.parser) (v ∷ vs)

values_fault_one : (a : Rule) (vs : List Text) → OneAtMost (values_fault a vs)
values_fault_one a vs = values_one a.ignore_case (parser_of_value a.parser) vs

set_one : (again : Bool) (a : Rule) (vs : List Text) (rows : List Row) → OneAtMost (set_fault again a vs rows)
set_one again a vs rows = or_one (repeat_fault again a.id rows) (values_fault a vs)
    (if_one (has_row a.id rows && not again) _ _ (single kind.ArgumentConflict) none) (values_fault_one a vs)

action_one : (x : ArgAction) (again : Bool) (a : Rule) (vs : List Text) (rows : List Row) → OneAtMost (action_fault x again a vs rows)
action_one action.Set again a vs rows = set_one again a vs rows
action_one action.SetTrue again a vs rows = set_one again a vs rows
action_one action.SetFalse again a vs rows = set_one again a vs rows
action_one action.Append again a vs rows = values_fault_one a vs
action_one action.Count again a vs rows = count_one a vs rows
action_one action.Help again a vs rows = single kind.DisplayHelp
action_one action.HelpShort again a vs rows = single kind.DisplayHelp
action_one action.HelpLong again a vs rows = single kind.DisplayHelp
action_one action.Version again a vs rows = single kind.DisplayVersion

request_one : (x : ArgAction) → OneAtMost (request_kinds x)
request_one action.Set = none
request_one action.SetTrue = none
request_one action.SetFalse = none
request_one action.Append = none
request_one action.Count = none
request_one action.Help = single kind.DisplayHelp
request_one action.HelpShort = single kind.DisplayHelp
request_one action.HelpLong = single kind.DisplayHelp
request_one action.Version = single kind.DisplayVersion

use_one : (again : Bool) (a : Rule) (vs : List Text) (rows : List Row) → OneAtMost (use_fault again a vs rows)
use_one again a vs rows =
    or_one (range_kinds (unwrap_or_range a.range).start_inclusive (most_values a) (length vs)) (action_fault (action_of a) again a (values_or_missing a vs) rows)
    (range_one (unwrap_or_range a.range).start_inclusive (most_values a) (length vs)) (action_one (action_of a) again a (values_or_missing a vs) rows)

module _ (c : List Rule) (again : Bool) where
  settle_one : (h : Held) → OneAtMost (settle_fault c again h)
  settle_one h = map_one (λ p. option_map_or (λ a. use_fault again a p.1 h.rows) (arg_by_id c p.0) []) h.pending
      (λ p. map_one (λ a. use_fault again a p.1 h.rows) (arg_by_id c p.0) (λ a. use_one again a p.1 h.rows))

  react_one : (a : Rule) (vs : List Text) (h : Held) → OneAtMost (react_fault c again a vs h)
  react_one a vs h = or_one (settle_fault c again h) _ (settle_one h) (use_one again a vs (settled c h).rows)

  option_one : (a : Rule) (v : Option Text) (h : Held) → OneAtMost (option_fault c again a v h)
  option_one a None h = settle_one h
  option_one a (Some v) h = react_one a (v ∷ []) h

  long_one : (o : Option Rule) (v : Option Text) (h : Held) → OneAtMost (long_fault c again o v h)
  long_one None v h = single kind.UnknownArgument
  long_one (Some a) v h = if_one (takes_values a) _ _ (option_one a v h) (if_one (is_some v) _ _ (single kind.TooManyValues) (react_one a [] h))

  short_one : (o : Option Rule) (rest : Text) (h : Held) (more : Held → Kinds) → ((g : Held) → OneAtMost (more g)) → OneAtMost (short_fault c again o rest h more)
  short_one None rest h more n = single kind.UnknownArgument
  short_one (Some a) rest h more n = if_one (takes_values a) _ _ (option_one a (attached_value rest) h)
      (or_one (react_fault c again a [] h) (more (reacted c a [] h)) (react_one a [] h) (n (reacted c a [] h)))

  bundle_step_one : (x : Option ℕ) (flags : Text) (skip : ℕ) (h : Held) (more : Text → ℕ → Held → Kinds)
      → ((rest : Text) (k : ℕ) (g : Held) → OneAtMost (more rest k g)) → OneAtMost (bundle_step_fault c again x flags skip h more)
  bundle_step_one None flags skip h more n = none
  bundle_step_one (Some x) flags zero h more n =
      short_one (arg_by_short c x) (drop (length (encode_utf8 x)) flags) h (more (drop (length (encode_utf8 x)) flags) 0)
      (λ g. n (drop (length (encode_utf8 x)) flags) 0 g)
  bundle_step_one (Some x) flags (suc skip) h more n = n (drop (length (encode_utf8 x)) flags) skip h

  flags_one : (k : ℕ) (flags : Text) (skip : ℕ) (h : Held) → OneAtMost (flags_fault c again k flags skip h)
  unfolding flags_fault
  flags_one zero flags skip h = none
  flags_one (suc k) flags skip h = bundle_step_one (slice_get (chars flags) 0) flags skip h (flags_fault c again k) (flags_one k)

  bundle_one : (flags : Text) (h : Held) → OneAtMost (bundle_fault c again flags h)
  bundle_one flags h = flags_one (length flags) flags h.skip (record h { skip = 0 })

  flag_word_one : (o : Option (Text × Option Text)) (word : Text) (h : Held) → OneAtMost (flag_word_fault c again o word h)
  flag_word_one (Some p) word h = long_one (arg_by_long c p.0) p.1 h
  flag_word_one None word h = map_one (λ flags. bundle_fault c again flags h) (short_of word) (λ flags. bundle_one flags h)

  positional_one : (a : Rule) (h : Held) → OneAtMost (positional_fault c again a h)
  positional_one a h = if_one (is_pending a h.pending && takes_several a) _ _ none (settle_one h)

given_default_one : (a : Rule) (vs : List Text) → OneAtMost (given_default_fault a vs)
given_default_one a vs = or_one (request_kinds (action_of a)) _ (request_one (action_of a)) (values_fault_one a vs)

default_one : (rows : List Row) (a : Rule) → OneAtMost (default_fault rows a)
default_one rows a = if_one (has_row a.id rows || is_empty a.defaults) _ _ none (given_default_one a a.defaults)

defaults_one : (rows : List Row) (rules : List Rule) → OneAtMost (defaults_fault rows rules)
unfolding defaults_fault
defaults_one rows [] = none
defaults_one rows (a ∷ rest) = or_one (default_fault rows a) (defaults_fault (with_default rows a) rest) (default_one rows a) (defaults_one (with_default rows a) rest)

module _ (s : Shape) (leaf : s.is_leaf ≡ true) (no_help : s.disable_help_subcommand ≡ true) where
  help_one : (b d : Bool) → d ≡ true → OneAtMost (cond (b && not d) (kind.DisplayHelp ∷ kind.InvalidSubcommand ∷ []) [])
  help_one false d e = none
  help_one true true e = none
  help_one true false e = absurd (true≢false (sym e))

  other_one : (o : Option Text) (word : Text) (h : Held) → OneAtMost (other_fault s o word h)
  other_one (Some name) word h = help_one (bytes_eq name (codes "help")) s.disable_help_subcommand no_help
  other_one None word h = if_one (bytes_eq word (45 ∷ 45 ∷ [])) _ _ none (flag_word_one s.rules s.args_override_self (long_of word) word h)

  word_one : (names : Names) (is_trailing : Bool) (waiting : Waiting) (word : Text) (h : Held) → OneAtMost (word_fault s names is_trailing waiting word h)
  word_one names is_trailing waiting word h = if_one is_trailing _ _ none (other_one (subcommand_met names waiting word) word h)

  stray_one : OneAtMost (stray_fault s)
  stray_one = rw leaf (single kind.UnknownArgument)

  step_one : (position : ℕ) (h : Held) (step : Step) → OneAtMost (step_fault s position h step)
  step_one position h value = go (arg_by_index s.rules position)
    where
      go : (o : Option Rule) → OneAtMost (option_map_or (λ a. positional_fault s.rules s.args_override_self a h) o (stray_fault s))
      go None = stray_one
      go (Some a) = positional_one s.rules s.args_override_self a h
  step_one position h (next w) = none
  step_one position h (trailing n) = none
  step_one position h (subcommand name) = none

  turn_one : (names : Names) (w : Walk) (word : Text) → OneAtMost (turn_fault s names w word)
  turn_one names w word =
      let met = word_met s.rules names w.is_trailing w.waiting w.position word w.held in
      if_one (is_some w.stopped) _ _ none
      (or_one (word_fault s names w.is_trailing w.waiting word w.held) _ (word_one names w.is_trailing w.waiting word w.held) (step_one w.position met.0 met.1))

  walk_one : (names : Names) (w : Walk) (words : List Text) → OneAtMost (walk_fault s names w words)
  unfolding walk_fault
  walk_one names w [] = none
  walk_one names w (word ∷ rest) = or_one (turn_fault s names w word) _ (turn_one names w word) (walk_one names (walked s.rules names w word) rest)

  level_one : (names : Names) (h : Held) (words : List Text) (has_subcommand : Bool) (below : Kinds) → OneAtMost below
      → OneAtMost (level_fault s names h words has_subcommand below)
  level_one names h words has_subcommand below one =
      let end = (walk s.rules names h words).held in
      or_one (walk_fault s names (walk_from h) words) _ (walk_one names (walk_from h) words)
      (or_one below _ one (or_one (settle_fault s.rules s.args_override_self end) _ (settle_one s.rules s.args_override_self end)
      (or_one (defaults_fault (settled s.rules end).rows s.rules) _ (defaults_one (settled s.rules end).rows s.rules) (check_one
      (not has_subcommand && (s.arg_required_else_help && not (list_any (λ r. explicit_source r.source) (finished s.rules end))))
      (not has_subcommand && s.subcommand_required)
      (not (s.subcommand_negates_reqs && has_subcommand) && list_any (λ a. a.required && not (is_given a.id (finished s.rules end))) s.rules)))))

-- no subcommand is entered where there is none
entered_one : (a : App) (stop : Option (Text × List Text)) → a.subs ≡ [] → OneAtMost (entered_fault a stop)
entered_one a None e = none
entered_one a (Some p) e = rw e none

built_one : (a : App) (h : Held) (words : List Text) → a.top.is_leaf ≡ true → a.top.disable_help_subcommand ≡ true → a.subs ≡ []
    → OneAtMost (built_fault a h words)
built_one a h words leaf no_help none =
    let stop = (walk a.top.rules (names_of a) h words).stopped in
    level_one a.top leaf no_help (names_of a) h words (is_some (entered a stop)) (entered_fault a stop) (entered_one a stop none)

is_leaf : (c : Command) → (built (app_of_command c)).top.is_leaf ≡ true
is_leaf c = refl

has_no_help_subcommand : (c : Command) → (built (app_of_command c)).top.disable_help_subcommand ≡ true
has_no_help_subcommand c = refl

has_no_subcommands : (c : Command) → (built (app_of_command c)).subs ≡ []
has_no_subcommands c = refl

-- a command has one fault at most
pub one_at_most : (c : Command) (words : List Text) → OneAtMost (fault_of (app_of_command c) words)
one_at_most c words =
    built_one (built (app_of_command c)) nothing_held (argument_words (app_of_command c) words) (is_leaf c) (has_no_help_subcommand c)
    (has_no_subcommands c)

-- what a fault asks for is what the words ask for
pub asked_by : {A : Type 0} (c : Command) (meant : List Row → Option A) (k : ErrorKind) (ks : Kinds) (rows : List Row) → OneAtMost ks
    → IsAmong k ks → request_by c meant ks rows ≡ request_for k
asked_by c meant k [] rows h among = absurd among
asked_by c meant k (x ∷ []) rows h (inl e) = sym (ap request_for e)
asked_by c meant k (x ∷ []) rows h (inr no_more) = absurd no_more
asked_by c meant k (x ∷ y ∷ ks) rows h among = absurd h.one
