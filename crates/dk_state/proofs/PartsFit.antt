-- Saved parts can be read.
use Rattle.std.specs.Prelude.{◌≡◌, ◌<◌, ◌≤◌, ◌^◌, ◌+◌, ◌∷◌, [], ℕ, Bool, All, List, filter, length, map, if◌then◌else◌}
use Rattle.std.specs.List.{enumerate_from, fold}
use Rattle.std.specs.Ordering.{is_gt}
use Rattle.std.specs.declared.cmp.Ordering.{Ordering}
use Rattle.std.proofs.Common.{ap, arith, get_or, subst}
use Rattle.std.proofs.lemmas.Bool.{cond_both}
use Rattle.std.proofs.lemmas.List.Elements.{All-cons, All-head, All-map, All-nil, All-tail, Contains-get_or}
use Rattle.dk_base.specs.declared.kinds.VarId.{VarId}
use Rattle.dk_base.specs.declared.kinds.VarInfo.{VarInfo}
use Rattle.dk_classes.proofs.OwnLeaders.{leads_from_own}
use Rattle.dk_classes.specs.Leaders.{own_leaders, var}
use Rattle.dk_constants.proofs.Determined.{entry_found}
use Rattle.dk_engine.specs.Saved.{AreSavedParts}
use Rattle.dk_engine.specs.declared.saved.parts.Parts.{Parts}
use Rattle.dk_presence.specs.Patterns.{counted_by, has_all}
use Rattle.dk_presence.specs.declared.held.Held.{Held}
use Rattle.dk_snapshot.specs.Classes.{classes_of, members_of}
use Rattle.dk_snapshot.specs.Entries.{all_known_of, known_of}
use Rattle.dk_snapshot.specs.Patterns.{pattern_cmp, pattern_of, patterns_of}
use Rattle.dk_snapshot.specs.Sorting.{ascending, put}
use Rattle.dk_template.specs.declared.grammar.Grammar.{Grammar}
use Rattle.dk_state.specs.Fitting.{FitsClass, FitsKnown, FitsParts, FitsPattern, FitsPlace, FitsSlot}

-- ---- classes
members_fit : (test : ℕ × VarId → Bool) (n : ℕ) (xs : List VarId) → n + length xs < 2 ^ 32 → All FitsPlace (map (λ p. var p.0) (filter test (enumerate_from n xs)))
members_fit test n [] small = All-nil FitsPlace
members_fit test n (x ∷ xs) small =
    let others = members_fit test (n + 1) xs (omega (arith, small)) in
    cond_both (test (n, x)) ((n, x) ∷ filter test (enumerate_from (n + 1) xs)) (filter test (enumerate_from (n + 1) xs)) (λ ps. All FitsPlace (map (λ p. var p.0) ps))
    (λ e. All-cons FitsPlace (var n) (map (λ p. var p.0) (filter test (enumerate_from (n + 1) xs))) (omega (arith, small)) others)
    (λ e. others)

classes_fit : (leaders : List VarId) → length leaders < 2 ^ 32 → All FitsClass (classes_of leaders)
classes_fit leaders small = All-map FitsClass (λ v. members_of leaders v.0) (own_leaders leaders) (λ k d l. members_fit _ 0 leaders (omega (arith, small)))

-- ---- patterns
all_put : {X : Type 0} (R : X → X → Ordering) (P : X → Type 0) (x : X) (xs : List X) → P x → All P xs → All P (put R x xs)
all_put R P x [] h all = All-cons P x [] h all
all_put R P x (y ∷ ys) h all =
    cond_both (is_gt (R x y)) (y ∷ put R x ys) (x ∷ y ∷ ys) (All P)
    (λ e. All-cons P y (put R x ys) (All-head P y ys all) (all_put R P x ys h (All-tail P y ys all)))
    (λ e. All-cons P x (y ∷ ys) h all)

all_ascending : {X : Type 0} (R : X → X → Ordering) (P : X → Type 0) (xs : List X) → All P xs → All P (ascending R xs)
all_ascending R P [] all = all
all_ascending R P (x ∷ xs) all = all_put R P x (ascending R xs) (All-head P x xs all) (all_ascending R P xs (All-tail P x xs all))

abbrev IsSmall : ℕ → Held → Type 0
IsSmall n h = h.count ≤ n

counts_small : (n total : ℕ) (held : List Held) → fold (λ a (h : Held). a + (if has_all h.leaders [] then h.count else 0)) total held ≤ n
    → (total ≤ n) × All (IsSmall n) held
counts_small n total [] h = (h, All-nil (IsSmall n))
counts_small n total (x ∷ held) h =
    let later = counts_small n (total + x.count) held h in
    (omega (arith, later.0), All-cons (IsSmall n) x held (omega (arith, later.0)) later.1)

patterns_fit : (leaders : List VarId) (held : List Held) (n : ℕ) → counted_by held [] ≤ n → n ≤ 2 ^ 40 → All FitsPattern (patterns_of leaders held)
patterns_fit leaders held n sum few =
    all_ascending pattern_cmp FitsPattern (map (pattern_of leaders) held)
    (All-map FitsPattern (pattern_of leaders) held (λ k d l. omega (arith, (counts_small n 0 held (omega (arith, sum, few))).1 k d l, few)))

-- ---- all parts
pub parts_fit : (grammar : Grammar) (infos : List VarInfo) (parts : Parts) → length infos < 2 ^ 32 → AreSavedParts grammar infos parts → All FitsSlot parts.slots → FitsParts infos parts
parts_fit grammar infos parts small saved slots =
    let kept = saved.kept in
    let meets = saved.meets in
    let leaders = meets.readable.leaders in
    let long = leaders.long in
    let samples : kept.samples ≡ parts.samples = ap (λ (p : Parts). p.samples) saved.saved in
    let few : kept.samples ≤ 2 ^ 40 = omega (arith, samples, saved.few) in
    let known : All (FitsKnown infos) (all_known_of kept.known) =
    All-map (FitsKnown infos) known_of kept.known (λ k d l.
    let e = get_or kept.known k d in
    let at = entry_found kept.known meets.ascend e.0 e.1 (Contains-get_or kept.known k d l) in
    let leads = (leads_from_own kept.leaders e.0 (meets.constants e.0 e.1 at).leads).0 in
    let own = meets.readable.values e.0 e.1 at in
    record { leader = omega (arith, leads, long); place = omega (arith, leads, long, small); kind = own.kind; written = own.written }) in
    record {
      samples = omega (arith, saved.few);
      classes = subst (λ (p : Parts). All FitsClass p.classes) saved.saved (classes_fit kept.leaders (omega (arith, long, small)));
      patterns = subst (λ (p : Parts). All FitsPattern p.patterns) saved.saved (patterns_fit (own_leaders kept.leaders) kept.held kept.samples (omega (arith, meets.patterns.sum)) few);
      known = subst (λ (p : Parts). All (FitsKnown infos) p.known) saved.saved known;
      slots = slots;
    }
