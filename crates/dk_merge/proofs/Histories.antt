-- States of histories.
use Rattle.std.proofs.Common.{◌≡◌, ◌≤◌, ◌<◌, ◌+◌, ◌^◌, ◌⊎◌, inl, inr, ℕ, zero, suc, Bool, List, [], ◌∷◌, ◌++◌, map, length, All, Option, Some, None, Err, refl, sym, ◌∙◌, ap, subst, arith, append_assoc, length-append}
use Rattle.std.proofs.lemmas.Grind.{flat_map-append}
use Rattle.std.proofs.lemmas.List.{append-nil, length-map, map-append}
use Rattle.std.proofs.lemmas.List.Elements.{All-append, All-cons, All-head, All-nil, All-tail}
use Rattle.std.proofs.lemmas.List.Sorted.{length_permutation}
use Rattle.std.proofs.lemmas.List.Sums.{sum_by-append}
use Rattle.std.specs.Prelude.{IsPermutation, IsTrue, flat_map, is_none, slice_index_or}
use Rattle.dk_base.specs.declared.values.Value.{Value}
use Rattle.dk_base.specs.declared.why.Why.{Why}
use Rattle.dk_blocks.specs.History.{History}
use Rattle.dk_core.proofs.Slots.{no_slots, slots_fit}
use Rattle.dk_core.specs.Resuming.{IsStart, state_file}
use Rattle.dk_decl.specs.Headers.{is_implicit}
use Rattle.dk_decl.specs.declared.decls.PointDecl.{PointDecl}
use Rattle.dk_derive.specs.Values.{values_by_form}
use Rattle.dk_engine.specs.Exact.{AreSamples}
use Rattle.dk_events.specs.declared.ended.Ended.{Ended}
use Rattle.dk_events.specs.declared.ended.Ended.TheVariants.{Done, Refused, NoMemory}
use Rattle.dk_instances.specs.Laws.{IsSample}
use Rattle.dk_hierarchy.specs.Samples.{OwnSamples, all_vars_of, own_samples_of}
use Rattle.dk_io.specs.Outside.{Holds}
use Rattle.dk_merging.proofs.EnginesOfBoth.{own_at_both}
use Rattle.dk_merging.proofs.MergedStates.{history_spelled}
use Rattle.dk_merging.specs.Merging.{CanBeMerged, file_of_both, own_of_both}
use Rattle.dk_merging.specs.declared.merging.MergeFault.{MergeFault}
use Rattle.dk_merging.specs.declared.merging.MergeFault.TheVariants as merge
use Rattle.dk_points.specs.Table.{Point, decl_at}
use Rattle.dk_program.specs.Ending.{EndsWithoutRun}
use Rattle.dk_program.specs.Moments.{IsCalm, Outside}
use Rattle.dk_program.specs.Outputs.{Output, texts_followed_by}
use Rattle.dk_state.proofs.SameTexts.{order_of_samples}
use Rattle.dk_state.specs.Compact.{compact_form_of}
use Rattle.dk_state.specs.Fitting.{FitsSlot}
use Rattle.dk_state.specs.Spelling.{CanBeSaved, compact_form_at}
use Rattle.dk_state.specs.StateFile.{state_file_of}
use Rattle.dk_template.specs.declared.grammar.Grammar.{Grammar}
use Rattle.dk_merge.specs.Histories.{HasAllOf, IsAlike, MergesHistories}
use Rattle.dk_merge.specs.Merged.{AreMergedTo, IsNoState, IsRefusedBehind, MergeAnswers, MergesTo, bytes_in, refusal_by, whole_limit}
use Rattle.dk_merge.specs.Outputs.{IsDoneOutput, IsMergedOutput, IsRefusedInTurns, IsRefusedOutput, IsStateOutput, state_output}
use Rattle.dk_merge.specs.Statuses.{EndsAs, IsComplete}
use Rattle.dk_merge_command_line.specs.Requests.{dk_merge}
use Rattle.dk_merge_command_line.specs.declared.command.Command.{Command}
use Rattle.dk_arguments.specs.declared.request.Request.{Request}
use Rattle.dk_arguments.specs.declared.request.Request.TheVariants.{Run, Help, Version}

-- the own samples of a point in all of these
abbrev pub all_at : List OwnSamples → ℕ → List (List Value)
all_at owns p = flat_map (λ own. slice_index_or own p []) owns

-- ---- what both have can be saved
decl_there : (ps : List Point) (p : ℕ) (d : PointDecl) → decl_at ps p ≡ Some d → p < length ps
decl_there [] p d is = absurd (cc is)
decl_there (q ∷ ps) zero d is = omega arith
decl_there (q ∷ ps) (suc p) d is = omega (arith, decl_there ps p d is)

module _ (g : Grammar) (ps : List Point) (own others : OwnSamples) (can : CanBeSaved g ps own) (also : CanBeSaved g ps others) where
  samples_both : (p : ℕ) → AreSamples (all_vars_of ps p) (own_samples_of ps (own_of_both own others) p)
  samples_both p =
      let vars = all_vars_of ps p in
      let same : own_samples_of ps (own_of_both own others) p ≡ own_samples_of ps own p ++ own_samples_of ps others p =
      ap (map (values_by_form vars)) (own_at_both own others p) ∙ map-append (values_by_form vars) (slice_index_or own p []) (slice_index_or others p []) in
      subst (AreSamples vars) (sym same) (All-append (IsSample vars) (own_samples_of ps own p) (own_samples_of ps others p) (can.samples p) (also.samples p))

  none_both : (p : ℕ) → IsTrue (is_none (decl_at ps p)) → slice_index_or (own_of_both own others) p [] ≡ []
  none_both p none = own_at_both own others p ∙ ap (λ (l : List (List Value)). l ++ slice_index_or others p []) (can.declared p none) ∙ also.declared p none

  within_both : (p : ℕ) → All FitsSlot (compact_form_at g ps (own_of_both own others) p).slots
  within_both p = by (decl_at ps p) refl where
    by : (o : Option PointDecl) → decl_at ps p ≡ o → All FitsSlot (compact_form_at g ps (own_of_both own others) p).slots
    by None none =
        let nothing = none_both p (ap is_none none) in
        subst (λ (l : List (List Value)). All FitsSlot (compact_form_of g (all_vars_of ps p) (map (values_by_form (all_vars_of ps p)) l)).slots) (sym nothing) (no_slots g (all_vars_of ps p))
    by (Some d) some = slots_fit g (all_vars_of ps p) (own_samples_of ps (own_of_both own others) p) (can.variables p (decl_there ps p d some)) (samples_both p)

  pub saved_both : ((p : ℕ) → length (slice_index_or own p []) + length (slice_index_or others p []) ≤ 2 ^ 40) → CanBeSaved g ps (own_of_both own others)
  saved_both few = record {
    table = can.table;
    variables = can.variables;
    samples = samples_both;
    declared = none_both;
    few = λ p. omega (arith, few p, ap length (own_at_both own others p), length-append (slice_index_or own p []) (slice_index_or others p []));
    within = within_both;
  }

-- ---- states merged from the left
-- The files come to the state file of a history that has all samples.
record ComesToAll (g : Grammar) (ps : List Point) (implicit : Bool) (own : OwnSamples) (owns : List OwnSamples) (after : Option (List ℕ)) : Type 0 where
  all : OwnSamples
  is : after ≡ Some (state_file_of g ps implicit all)
  has : (p : ℕ) → slice_index_or all p [] ≡ slice_index_or own p [] ++ all_at owns p
  can : CanBeSaved g ps all

module _ (g : Grammar) (ps : List Point) (implicit : Bool) where
  can_merge : (own other : OwnSamples) (rest : List OwnSamples) → CanBeSaved g ps own → CanBeSaved g ps other → ((p : ℕ) → length (slice_index_or own p []) + length (all_at (other ∷ rest) p) ≤ 2 ^ 40)
      → CanBeMerged g ps own other
  can_merge own other rest can also few = record {
    first = can;
    second = also;
    few = λ p. omega (arith, few p, length-append (slice_index_or other p []) (all_at rest p));
  }

  few_more : (own other : OwnSamples) (rest : List OwnSamples) → ((p : ℕ) → length (slice_index_or own p []) + length (all_at (other ∷ rest) p) ≤ 2 ^ 40)
      → (p : ℕ) → length (slice_index_or (own_of_both own other) p []) + length (all_at rest p) ≤ 2 ^ 40
  few_more own other rest few p =
      omega (arith, few p, length-append (slice_index_or other p []) (all_at rest p), ap length (own_at_both own other p), length-append (slice_index_or own p []) (slice_index_or other p []))

  merged_all : (before : List ℕ) (own : OwnSamples) (owns : List OwnSamples) (after : Option (List ℕ)) → state_file_of g ps implicit own ≡ before → CanBeSaved g ps own → All (CanBeSaved g ps) owns
      → ((p : ℕ) → length (slice_index_or own p []) + length (all_at owns p) ≤ 2 ^ 40) → MergesTo (Some before) (map (state_file_of g ps implicit) owns) after → ComesToAll g ps implicit own owns after
  merged_all before own [] after is can cans few merges = record { all = own; is = merges ∙ ap Some (sym is); has = λ p. sym (append-nil (slice_index_or own p [])); can = can }
  merged_all before own (other ∷ owns) after is can cans few (state, answers, rest) =
      let also = All-head (CanBeSaved g ps) other owns cans in
      let merge = can_merge own other owns can also few in
      let made : state ≡ file_of_both g ps implicit own other = answers.both g ps implicit own other merge is refl in
      let more = merged_all state (own_of_both own other) owns after (sym made) (saved_both g ps own other can also merge.few) (All-tail (CanBeSaved g ps) other owns cans) (few_more own other owns few) rest in
      record {
        all = more.all;
        is = more.is;
        has = λ p. more.has p ∙ ap (λ (l : List (List Value)). l ++ all_at owns p) (own_at_both own other p) ∙ append_assoc (slice_index_or own p []) (slice_index_or other p []) (all_at owns p);
        can = more.can;
      }

  -- from no state on
  first_all : (other : OwnSamples) (owns : List OwnSamples) (after : Option (List ℕ)) → All (CanBeSaved g ps) (other ∷ owns)
      → ((p : ℕ) → length (all_at (other ∷ owns) p) ≤ 2 ^ 40) → AreMergedTo (map (state_file_of g ps implicit) (other ∷ owns)) after → ComesToAll g ps implicit other owns after
  first_all other owns after cans few (state, (spelled, same), rest) =
      merged_all state other owns after (sym same) (All-head (CanBeSaved g ps) other owns cans) (All-tail (CanBeSaved g ps) other owns cans)
      (λ p. omega (arith, few p, length-append (slice_index_or other p []) (all_at owns p))) rest

  -- none of them is refused
  not_refused : (fault : MergeFault) (why : Why) (first : List ℕ) (own other : OwnSamples) → state_file_of g ps implicit own ≡ first → CanBeMerged g ps own other → refusal_by fault ≡ Some why
      → MergeAnswers first (state_file_of g ps implicit other) (Err fault) → ⊥
  not_refused merge.BadFirst why first own other is can refused answers = answers.both g ps implicit own other can is refl
  not_refused merge.BadSecond why first own other is can refused answers = answers.both g ps implicit own other can is refl
  not_refused merge.Different why first own other is can refused answers = answers.both g ps implicit own other can is refl
  not_refused merge.Joined why first own other is can refused answers = answers.both g ps implicit own other can is refl
  not_refused merge.NoMemory why first own other is can refused answers = absurd (cc refused)

  none_refused : (owns : List OwnSamples) (other : OwnSamples) (mid : Option (List ℕ)) (why : Why) → All (CanBeSaved g ps) owns → CanBeSaved g ps other
      → ((p : ℕ) → length (all_at owns p) + length (slice_index_or other p []) ≤ 2 ^ 40) → AreMergedTo (map (state_file_of g ps implicit) owns) mid → IsNoState mid (state_file_of g ps implicit other) why → ⊥
  none_refused [] other mid why cans also few merges none =
      let bad = subst (λ (o : Option (List ℕ)). IsNoState o (state_file_of g ps implicit other) why) merges none in
      bad.1 (history_spelled g ps implicit other (state_file_of g ps implicit other) also refl)
  none_refused (own ∷ owns) other mid why cans also few merges none =
      let all = first_all own owns mid cans (λ p. omega (arith, few p)) merges in
      let (fault, refused, answers) = subst (λ (o : Option (List ℕ)). IsNoState o (state_file_of g ps implicit other) why) all.is none in
      not_refused fault why (state_file_of g ps implicit all.all) all.all other refl
      (record {
        first = all.can;
        second = also;
        few = λ p. omega (arith, few p, ap length (all.has p), length-append (slice_index_or own p []) (all_at owns p));
      })
      refused answers

-- ---- histories
record Parted {X : Type 0} (f : X → List ℕ) (xs : List X) (before : List (List ℕ)) (file : List ℕ) : Type 0 where
  front : List X
  own : X
  more : List X
  all : xs ≡ front ++ own ∷ more
  before_is : before ≡ map f front
  file_is : file ≡ f own

parted : {X : Type 0} (f : X → List ℕ) (xs : List X) (before : List (List ℕ)) (file : List ℕ) (behind : List (List ℕ)) → map f xs ≡ before ++ file ∷ behind → Parted f xs before file
parted f [] [] file behind e = absurd (cc e)
parted f [] (b ∷ bs) file behind e = absurd (cc e)
parted f (x ∷ xs) [] file behind e = record { front = []; own = x; more = xs; all = refl; before_is = refl; file_is = sym (cc e) }
parted f (x ∷ xs) (b ∷ bs) file behind e =
    let first : f x ≡ b = cc e in
    let rest : map f xs ≡ bs ++ file ∷ behind = cc e in
    let p = parted f xs bs file behind rest in
    let before_is = p.before_is in
    record { front = x ∷ p.front; own = p.own; more = p.more; all = ap (λ l. x ∷ l) {y = p.front ++ p.own ∷ p.more} p.all; before_is = cc (first, before_is); file_is = p.file_is }

all_front : {X : Type 0} (P : X → Type 0) (xs ys : List X) → All P (xs ++ ys) → All P xs
all_front P [] ys all = All-nil P
all_front P (x ∷ xs) ys all = All-cons P x xs (All-head P x (xs ++ ys) all) (all_front P xs ys (All-tail P x (xs ++ ys) all))

all_behind : {X : Type 0} (P : X → Type 0) (xs ys : List X) → All P (xs ++ ys) → All P ys
all_behind P [] ys all = all
all_behind P (x ∷ xs) ys all = all_behind P xs ys (All-tail P x (xs ++ ys) all)

file_of_history : (h : History) → state_file h ≡ state_file_of h.grammar h.table (is_implicit h.header) h.samples
unfolding state_file
file_of_history h = refl

abbrev owns_of : List History → List OwnSamples
owns_of hs = map (λ (other : History). other.samples) hs

module _ (h : History) where
  -- as the state files of one table, word and grammar
  file_alike : (other : History) → IsAlike h other → state_file other ≡ state_file_of h.grammar h.table (is_implicit h.header) other.samples
  file_alike other alike =
      file_of_history other
      ∙ ap (λ (g : Grammar). state_file_of g other.table (is_implicit other.header) other.samples) alike.grammar
      ∙ ap (λ (ps : List Point). state_file_of h.grammar ps (is_implicit other.header) other.samples) alike.table
      ∙ ap (λ (b : Bool). state_file_of h.grammar h.table b other.samples) alike.word

  files_alike : (hs : List History) → All (IsAlike h) hs → map state_file hs ≡ map (state_file_of h.grammar h.table (is_implicit h.header)) (owns_of hs)
  files_alike [] alike = refl
  files_alike (other ∷ hs) alike =
      let first = file_alike other (All-head (IsAlike h) other hs alike) in
      let rest = files_alike hs (All-tail (IsAlike h) other hs alike) in
      cc (first, rest)

  can_alike : (other : History) → IsStart other → IsAlike h other → CanBeSaved h.grammar h.table other.samples
  can_alike other start alike =
      subst (λ (g : Grammar). CanBeSaved g h.table other.samples) alike.grammar (subst (λ (ps : List Point). CanBeSaved other.grammar ps other.samples) alike.table start.saved)

  cans_alike : (hs : List History) → All IsStart hs → All (IsAlike h) hs → All (CanBeSaved h.grammar h.table) (owns_of hs)
  cans_alike [] starts alike = All-nil (CanBeSaved h.grammar h.table)
  cans_alike (other ∷ hs) starts alike =
      All-cons (CanBeSaved h.grammar h.table) other.samples (owns_of hs)
      (can_alike other (All-head IsStart other hs starts) (All-head (IsAlike h) other hs alike)) (cans_alike hs (All-tail IsStart other hs starts) (All-tail (IsAlike h) other hs alike))

  samples_alike : (hs : List History) (p : ℕ) → flat_map (λ (other : History). slice_index_or other.samples p []) hs ≡ all_at (owns_of hs) p
  samples_alike [] p = refl
  samples_alike (other ∷ hs) p = ap (λ (l : List (List Value)). slice_index_or other.samples p [] ++ l) (samples_alike hs p)

  few_alike : (hs : List History) → HasAllOf h hs → (p : ℕ) → length (all_at (owns_of hs) p) ≤ 2 ^ 40
  few_alike hs has p =
      let few = has.start.saved.few p in
      let long = length_permutation (flat_map (λ (other : History). slice_index_or other.samples p []) hs) (slice_index_or h.samples p []) (has.samples p) in
      omega (arith, few, long, ap length (samples_alike hs p))

  -- they come to the state file of the history
  come_to_all : (hs : List History) → HasAllOf h hs → 0 < length hs → (after : Option (List ℕ)) → AreMergedTo (map state_file hs) after → after ≡ Some (state_file h)
  come_to_all [] has some after merges = absurd (omega (arith, some))
  come_to_all (other ∷ hs) has some after merges =
      let all = first_all h.grammar h.table (is_implicit h.header) other.samples (owns_of hs) after (cans_alike (other ∷ hs) has.starts has.alike) (few_alike (other ∷ hs) has)
      (subst (λ (l : List (List ℕ)). AreMergedTo l after) (files_alike (other ∷ hs) has.alike) merges) in
      let same : state_file_of h.grammar h.table (is_implicit h.header) all.all ≡ state_file h =
      order_of_samples h.grammar h.table (is_implicit h.header) all.all h.samples
      (λ p. subst (λ (l : List (List Value)). IsPermutation l (slice_index_or h.samples p [])) (samples_alike (other ∷ hs) p ∙ sym (all.has p)) (has.samples p))
      ∙ sym (file_of_history h) in
      all.is ∙ ap Some same

  -- and none of them is refused
  none_of_them : (hs : List History) → HasAllOf h hs → (before : List (List ℕ)) (file : List ℕ) (behind : List (List ℕ)) (mid : Option (List ℕ)) (why : Why) → map state_file hs ≡ before ++ file ∷ behind
      → AreMergedTo before mid → IsNoState mid file why → ⊥
  none_of_them hs has before file behind mid why split merges none =
      let owns = owns_of hs in
      let p = parted (state_file_of h.grammar h.table (is_implicit h.header)) owns before file behind (sym (files_alike hs has.alike) ∙ split) in
      let cans = subst (All (CanBeSaved h.grammar h.table)) p.all (cans_alike hs has.starts has.alike) in
      none_refused h.grammar h.table (is_implicit h.header) p.front p.own mid why
      (all_front (CanBeSaved h.grammar h.table) p.front (p.own ∷ p.more) cans)
      (All-head (CanBeSaved h.grammar h.table) p.own p.more (all_behind (CanBeSaved h.grammar h.table) p.front (p.own ∷ p.more) cans))
      (λ q.
      let few = few_alike hs has q in
      let parts : all_at owns q ≡ all_at p.front q ++ all_at (p.own ∷ p.more) q = ap (λ (l : List OwnSamples). all_at l q) p.all ∙ flat_map-append (λ (own : OwnSamples). slice_index_or own q []) p.front (p.own ∷ p.more) in
      omega (arith, few, ap length parts, length-append (all_at p.front q) (all_at (p.own ∷ p.more) q), length-append (slice_index_or p.own q []) (all_at p.more q)))
      (subst (λ (l : List (List ℕ)). AreMergedTo l mid) p.before_is merges)
      (subst (λ (l : List ℕ). IsNoState mid l why) p.file_is none)

-- ---- the run
pub bytes_of_front : (before : List (List ℕ)) (file : List ℕ) (behind : List (List ℕ)) → bytes_in (before ++ file ∷ []) ≤ bytes_in (before ++ file ∷ behind)
bytes_of_front before file behind =
    let whole : bytes_in (before ++ file ∷ behind) ≡ bytes_in (before ++ file ∷ []) + bytes_in behind = ap bytes_in (sym (append_assoc before (file ∷ []) behind)) ∙ sum_by-append length (before ++ file ∷ []) behind in
    omega (arith, whole)

refused_not : (command : Command) (h : History) (hs : List History) (output : Output) → command.turns ≡ None → HasAllOf h hs → bytes_in (map state_file hs) ≤ whole_limit → IsRefusedOutput command (map state_file hs) output → ⊥
refused_not command h hs output none has short refused = by (subst (λ (n : Option ℕ). IsRefusedBehind n refused.before refused.file refused.why) none refused.refused) where
  by : IsRefusedBehind None refused.before refused.file refused.why → ⊥
  by (inl (is, long)) =
      let less = bytes_of_front refused.before refused.file refused.behind in
      omega (arith, less, long, short, ap bytes_in refused.all)
  by (inr (fits, (mid, merges, bad))) = none_of_them h hs has refused.before refused.file refused.behind mid refused.why refused.all merges bad

done_output : (command : Command) (h : History) (hs : List History) (output : Output) → command.turns ≡ None → HasAllOf h hs → 0 < length hs → IsDoneOutput command.turns command.least (map state_file hs) output
    → output ≡ state_output command.least (state_file h) h
done_output command h hs output none has some done =
    let (state, merges, own) = subst (λ (n : Option ℕ). IsDoneOutput n command.least (map state_file hs) output) none done in
    let is : state ≡ Some (state_file h) = come_to_all h hs has some state merges in
    let all : IsStateOutput command.least (state_file h) output = subst (λ (o : Option (List ℕ)). IsMergedOutput command.least o output) is own in
    all.report h has.start refl

histories_of : (command : Command) (before after : Outside) (result : Ended) → 0 < length command.files → (IsCalm before after → IsComplete command before after result)
    → MergesHistories (Some (Run command)) before after result
histories_of command before after result named complete h hs calm none has held short = by ((complete calm).whole (map state_file hs) held) where
  some : 0 < length hs
  some = omega (arith, named, sym (length-map command.files before.file) ∙ ap length held ∙ length-map (map state_file hs) Holds ∙ length-map hs state_file)

  by : EndsAs Done (IsDoneOutput command.turns command.least (map state_file hs)) result before after ⊎ EndsAs Refused (IsRefusedOutput command (map state_file hs)) result before after
      ⊎ EndsAs Refused (IsRefusedInTurns command (map state_file hs)) result before after ⊎ (result ≡ NoMemory)
      → ((result ≡ Done) × (after.written ≡ texts_followed_by before.written (state_output command.least (state_file h) h))) ⊎ (result ≡ NoMemory)
  by (inl (is, (output, done, written))) = inl (is, written ∙ ap (texts_followed_by before.written) (done_output command h hs output none has some done))
  by (inr (inl (is, (output, refused, written)))) = absurd (refused_not command h hs output none has short refused)
  by (inr (inr (inl (is, (output, refused, written))))) = let turns = refused.turns in absurd (cc (none, turns))
  by (inr (inr (inr is))) = inr is

pub histories_say : (asked : Option (Request Command)) (command : Command) (before after : Outside) (result : Ended) → asked ≡ Some (Run command) → 0 < length command.files
    → (IsCalm before after → IsComplete command before after result) → MergesHistories asked before after result
histories_say asked command before after result is named complete = subst (λ (r : Option (Request Command)). MergesHistories r before after result) (sym is) (histories_of command before after result named complete)

-- without a run
pub no_run_merges : (asked : Option (Request Command)) (before after : Outside) (result : Ended) → EndsWithoutRun dk_merge asked before.written after.written before.write_faults after.write_faults result
    → MergesHistories asked before after result
no_run_merges (Some (Run command)) before after result (is, e, calm) = λ h hs quiet none has held short. inr is
no_run_merges (Some Help) before after result ended = tt
no_run_merges (Some Version) before after result ended = tt
no_run_merges None before after result ended = tt
