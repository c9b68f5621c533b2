-- Two engines have one join.
use Rattle.std.specs.Prelude.{◌≡◌, ◌<◌, ◌+◌, ℕ, suc, false, if◌then◌else◌, Contains, List, [], ◌∷◌, length}
use Rattle.std.specs.List.{AllByRecursion, IsDistinct}
use Rattle.std.proofs.Common.{ap, ◌∙◌, arith, inl, inr, subst, sym}
use Rattle.std.proofs.lemmas.Bool.{cases_Bool, true≢false}
use Rattle.std.proofs.lemmas.List.{get_or_default, same_lists}
use Rattle.dk_base.specs.declared.kinds.VarId.{VarId}
use Rattle.dk_base.specs.declared.kinds.VarInfo.{VarInfo}
use Rattle.dk_classes.proofs.Firsts.{one_first}
use Rattle.dk_classes.specs.Leaders.{leader_at, own_leaders, var}
use Rattle.dk_constants.specs.Known.{Entries}
use Rattle.dk_engine.specs.Feeding.{slots_of}
use Rattle.dk_engine.specs.Saved.{parts_of}
use Rattle.dk_engine.specs.declared.kept.Kept.{Kept}
use Rattle.dk_presence.proofs.Sameness.{same_vars-refl, same_vars-true}
use Rattle.dk_presence.proofs.Sums.{count_at}
use Rattle.dk_presence.specs.Patterns.{AreHeld, capped, held_patterns, pattern_count, same_vars}
use Rattle.dk_presence.specs.declared.held.Held.{Held}
use Rattle.dk_snapshot.proofs.PatternOrder.{same_patterns}
use Rattle.dk_snapshot.proofs.Weights.{Apart, In, contains_from, in_from, same_weights}
use Rattle.dk_snapshot.specs.Classes.{classes_of}
use Rattle.dk_snapshot.specs.Entries.{all_known_of}
use Rattle.dk_snapshot.specs.Patterns.{patterns_of}
use Rattle.dk_template.specs.declared.grammar.Grammar.{Grammar}
use Rattle.dk_join.specs.Joined.{AreJoinedLeaders, IsJoinOf, IsLedAlike, joined_known, times_present}
use Rattle.dk_join.specs.Joining.{read_joined}
use Rattle.dk_join.specs.Laws.{JoinedPartsAreDetermined}

-- ---- classes
one_list : (first second leaders others : List VarId) → AreJoinedLeaders first second leaders → AreJoinedLeaders first second others → leaders ≡ others
one_list first second leaders others is also =
    let long : length leaders ≡ length others = is.long ∙ sym also.long in
    same_lists leaders others long (λ k d l.
    let m : k < length others = omega (arith, long, l) in
    get_or_default leaders k d (var 0) l
    ∙ (ap var (one_first (IsLedAlike first second k) (leader_at leaders k) (leader_at others k) (is.each k l) (also.each k m)) ∙ get_or_default others k (var 0) d m))

-- ---- patterns
abbrev held_with : ℕ → List VarId → Held
held_with n ls = record { count = n; leaders = ls }

pattern_there : (held : List Held) (p : List VarId) → 0 < pattern_count held p → Contains held (held_with (pattern_count held p) p)
pattern_there [] p h = absurd (omega (arith, h))
pattern_there (k ∷ held) p h = elim (cases_Bool (same_vars k.leaders p)) [
  | inl e ↦
      let count : pattern_count (k ∷ held) p ≡ k.count = ap (λ b. if b then k.count else pattern_count held p) e in
      (0, omega arith, ap (λ ls. held_with k.count ls) (same_vars-true k.leaders p e) ∙ ap (λ n. held_with n p) (sym count))
  | inr n ↦
      let count : pattern_count (k ∷ held) p ≡ pattern_count held p = ap (λ b. if b then k.count else pattern_count held p) n in
      let rest = pattern_there held p (omega (arith, count, h)) in
      let l = rest.1 in
      subst (λ m. Contains (k ∷ held) (held_with m p)) (sym count) (suc rest.0, omega (arith, l), rest.2)
]

pattern_in : (a b : List Held) → AreHeld a → ((p : List VarId) → pattern_count a p ≡ pattern_count b p) → (h : Held) → Contains a h → Contains b h
pattern_in a b is same h (k, l, e) =
    let at : pattern_count a h.leaders ≡ h.count = subst (λ (x : Held). pattern_count a x.leaders ≡ x.count) e (count_at a is.once k h l) in
    let some : 0 < h.count = subst (λ (x : Held). 0 < x.count) e (is.some k h l) in
    let there : pattern_count b h.leaders ≡ h.count = sym (same h.leaders) ∙ at in
    subst (λ n. Contains b (held_with n h.leaders)) there (pattern_there b h.leaders (omega (arith, there, some)))

differs : (h z : Held) (held : List Held) → AllByRecursion (λ y. same_vars h.leaders y ≡ false) (held_patterns held) → In z held → same_vars h.leaders z.leaders ≡ false
differs h z [] all i = absurd i
differs h z (k ∷ held) all (inl e) = ap (λ (x : Held). same_vars h.leaders x.leaders) (sym e) ∙ all.0
differs h z (k ∷ held) all (inr i) = differs h z held all.1 i

apart_from : (held : List Held) → IsDistinct same_vars (held_patterns held) → Apart held
unfolding IsDistinct
apart_from [] once = tt
apart_from (h ∷ held) once =
    (λ z i e. true≢false (sym (same_vars-refl h.leaders) ∙ (ap (λ (x : Held). same_vars h.leaders x.leaders) e ∙ differs h z held once.0 i)), apart_from held once.1)

pub one_order : (leaders : List VarId) (held others : List Held) → AreHeld held → AreHeld others → ((p : List VarId) → pattern_count held p ≡ pattern_count others p) → patterns_of leaders held ≡ patterns_of leaders others
one_order leaders held others is also same =
    same_patterns leaders held others
    (same_weights held others (apart_from held is.once) (apart_from others also.once)
    (λ z i. in_from others z (pattern_in held others is same z (contains_from held z i))) (λ z i. in_from held z (pattern_in others held also (λ p. sym (same p)) z (contains_from others z i))))

-- ---- all parts
abbrev summed : Kept → Kept → List VarId → List VarId → ℕ
summed first second ls p = capped (times_present first.leaders (own_leaders ls) first.held p + times_present second.leaders (own_leaders ls) second.held p)

one_join : (g : Grammar) (infos : List VarInfo) (first second kept other : Kept) → IsJoinOf g infos first second kept → IsJoinOf g infos first second other → parts_of kept ≡ parts_of other
one_join g infos first second kept other is also =
    let number : kept.samples ≡ other.samples = is.number ∙ sym also.number in
    let leaders : kept.leaders ≡ other.leaders = one_list first.leaders second.leaders kept.leaders other.leaders is.leaders also.leaders in
    let known : kept.known ≡ other.known = is.known ∙ (ap (λ ls. joined_known first second (own_leaders ls)) leaders ∙ sym also.known) in
    let slots : kept.slots ≡ other.slots =
    is.slots
    ∙ (ap (λ ls. slots_of g infos (own_leaders ls) kept.known (read_joined first second)) leaders
    ∙ (ap (λ (k : Entries). slots_of g infos (own_leaders other.leaders) k (read_joined first second)) known ∙ sym also.slots)) in
    let counts : (p : List VarId) → pattern_count kept.held p ≡ pattern_count other.held p =
    λ p. is.held.counted p ∙ (ap (λ ls. summed first second ls p) leaders ∙ sym (also.held.counted p)) in
    let patterns : patterns_of (own_leaders kept.leaders) kept.held ≡ patterns_of (own_leaders other.leaders) other.held =
    ap (λ ls. patterns_of (own_leaders ls) kept.held) leaders ∙ one_order (own_leaders other.leaders) kept.held other.held is.held.form also.held.form counts in
    λ i. record { samples = number i; classes = classes_of (leaders i); patterns = patterns i; known = all_known_of (known i); slots = slots i }

pub joined_parts_are_determined : JoinedPartsAreDetermined
joined_parts_are_determined g infos first second parts others is also =
    sym is.saved ∙ (one_join g infos first second is.kept also.kept is.joined also.joined ∙ also.saved)
