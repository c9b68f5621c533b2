-- The test of states decides equality.
use Rattle.std.specs.Prelude.{◌≡◌, ◌&&◌, Bool, true, false, nat_eq, refl}
use Rattle.std.specs.Bool.{Decides, beq}
use Rattle.std.specs.Cmp.Lexicographic.{bytes_decides, pointwise_decides}
use Rattle.std.specs.Ordering.{int_eq}
use Rattle.std.proofs.Common.{ap, subst}
use Rattle.std.proofs.lemmas.Bool.{and_from, and_parts, false≢true}
use Rattle.std.proofs.lemmas.Bool.Decides.{Decides-eqb, Decides-int_eq}
use Rattle.dk_forms.specs.declared.states.State.{State}
use Rattle.dk_forms.specs.declared.states.State.TheVariants as state
use Rattle.dk_filters.specs.Laws.{SameStatesAreEqual}
use Rattle.dk_filters.specs.Sameness.{same_state}

beq_decides : (a b : Bool) → Decides (beq a b) (a ≡ b)
beq_decides true true = (λ h. refl, λ h. refl)
beq_decides true false = (λ h. cc, λ h. cc)
beq_decides false true = (λ h. cc, λ h. cc)
beq_decides false false = (λ h. refl, λ h. refl)

state-same : (s t : State) → same_state s t ≡ true → s ≡ t
state-same state.Empty state.Empty h = refl
state-same state.Broken state.Broken h = refl
state-same state.Holds state.Holds h = refl
state-same (state.Least k) (state.Least ok) h = ap (λ x. state.Least x) ((Decides-int_eq k ok).0 h)
state-same (state.Greatest k) (state.Greatest ok) h = ap (λ x. state.Greatest x) ((Decides-int_eq k ok).0 h)
state-same (state.Ints ks) (state.Ints oks) h = ap (λ x. state.Ints x) ((pointwise_decides Decides-int_eq ks oks).0 h)
state-same (state.Truth b) (state.Truth ob) h = ap (λ x. state.Truth x) ((beq_decides b ob).0 h)
state-same (state.Code c) (state.Code oc) h = ap (λ x. state.Code x) ((Decides-eqb c oc).0 h)
state-same (state.Texts ts) (state.Texts ots) h = ap (λ x. state.Texts x) ((pointwise_decides bytes_decides ts ots).0 h)
state-same (state.One v) (state.One ov) h = ap (λ x. state.One x) ((Decides-int_eq v ov).0 h)
state-same (state.Modulus m r) (state.Modulus om or) h =
    let h0 = and_parts (nat_eq m om) (nat_eq r or) h in
    let e0 : m ≡ om = (Decides-eqb m om).0 h0.0 in
    let e1 : r ≡ or = (Decides-eqb r or).0 h0.1 in
    λ i. state.Modulus (e0 i) (e1 i)
state-same (state.Spot x y) (state.Spot ox oy) h =
    let h0 = and_parts (int_eq x ox) (int_eq y oy) h in
    let e0 : x ≡ ox = (Decides-int_eq x ox).0 h0.0 in
    let e1 : y ≡ oy = (Decides-int_eq y oy).0 h0.1 in
    λ i. state.Spot (e0 i) (e1 i)
state-same (state.Straight a b c) (state.Straight oa ob oc) h =
    let h0 = and_parts (int_eq a oa) (int_eq b ob && int_eq c oc) h in
    let h1 = and_parts (int_eq b ob) (int_eq c oc) h0.1 in
    let e0 : a ≡ oa = (Decides-int_eq a oa).0 h0.0 in
    let e1 : b ≡ ob = (Decides-int_eq b ob).0 h1.0 in
    let e2 : c ≡ oc = (Decides-int_eq c oc).0 h1.1 in
    λ i. state.Straight (e0 i) (e1 i) (e2 i)
state-same (state.Span x1 y1 z1 x2 y2 z2) (state.Span ox1 oy1 oz1 ox2 oy2 oz2) h =
    let h0 = and_parts (int_eq x1 ox1) (int_eq y1 oy1 && (int_eq z1 oz1 && (int_eq x2 ox2 && (int_eq y2 oy2 && int_eq z2 oz2)))) h in
    let h1 = and_parts (int_eq y1 oy1) (int_eq z1 oz1 && (int_eq x2 ox2 && (int_eq y2 oy2 && int_eq z2 oz2))) h0.1 in
    let h2 = and_parts (int_eq z1 oz1) (int_eq x2 ox2 && (int_eq y2 oy2 && int_eq z2 oz2)) h1.1 in
    let h3 = and_parts (int_eq x2 ox2) (int_eq y2 oy2 && int_eq z2 oz2) h2.1 in
    let h4 = and_parts (int_eq y2 oy2) (int_eq z2 oz2) h3.1 in
    let e0 : x1 ≡ ox1 = (Decides-int_eq x1 ox1).0 h0.0 in
    let e1 : y1 ≡ oy1 = (Decides-int_eq y1 oy1).0 h1.0 in
    let e2 : z1 ≡ oz1 = (Decides-int_eq z1 oz1).0 h2.0 in
    let e3 : x2 ≡ ox2 = (Decides-int_eq x2 ox2).0 h3.0 in
    let e4 : y2 ≡ oy2 = (Decides-int_eq y2 oy2).0 h4.0 in
    let e5 : z2 ≡ oz2 = (Decides-int_eq z2 oz2).0 h4.1 in
    λ i. state.Span (e0 i) (e1 i) (e2 i) (e3 i) (e4 i) (e5 i)
state-same (state.Plane a b c d) (state.Plane oa ob oc od) h =
    let h0 = and_parts (int_eq a oa) (int_eq b ob && (int_eq c oc && int_eq d od)) h in
    let h1 = and_parts (int_eq b ob) (int_eq c oc && int_eq d od) h0.1 in
    let h2 = and_parts (int_eq c oc) (int_eq d od) h1.1 in
    let e0 : a ≡ oa = (Decides-int_eq a oa).0 h0.0 in
    let e1 : b ≡ ob = (Decides-int_eq b ob).0 h1.0 in
    let e2 : c ≡ oc = (Decides-int_eq c oc).0 h2.0 in
    let e3 : d ≡ od = (Decides-int_eq d od).0 h2.1 in
    λ i. state.Plane (e0 i) (e1 i) (e2 i) (e3 i)
state-same (state.Offset k) (state.Offset ok) h = ap (λ x. state.Offset x) ((Decides-int_eq k ok).0 h)
state-same _ _ h = absurd (false≢true h)

state-itself : (s : State) → same_state s s ≡ true
state-itself state.Empty = refl
state-itself state.Broken = refl
state-itself state.Holds = refl
state-itself (state.Least k) = (Decides-int_eq k k).1 refl
state-itself (state.Greatest k) = (Decides-int_eq k k).1 refl
state-itself (state.Ints ks) = (pointwise_decides Decides-int_eq ks ks).1 refl
state-itself (state.Truth b) = (beq_decides b b).1 refl
state-itself (state.Code h) = (Decides-eqb h h).1 refl
state-itself (state.Texts ts) = (pointwise_decides bytes_decides ts ts).1 refl
state-itself (state.One v) = (Decides-int_eq v v).1 refl
state-itself (state.Modulus m r) = and_from (nat_eq m m) (nat_eq r r) ((Decides-eqb m m).1 refl) ((Decides-eqb r r).1 refl)
state-itself (state.Spot x y) = and_from (int_eq x x) (int_eq y y) ((Decides-int_eq x x).1 refl) ((Decides-int_eq y y).1 refl)
state-itself (state.Straight a b c) = and_from (int_eq a a) (int_eq b b && int_eq c c) ((Decides-int_eq a a).1 refl) (and_from (int_eq b b) (int_eq c c) ((Decides-int_eq b b).1 refl) ((Decides-int_eq c c).1 refl))
state-itself (state.Span x1 y1 z1 x2 y2 z2) = and_from (int_eq x1 x1) (int_eq y1 y1 && (int_eq z1 z1 && (int_eq x2 x2 && (int_eq y2 y2 && int_eq z2 z2)))) ((Decides-int_eq x1 x1).1 refl) (and_from (int_eq y1 y1) (int_eq z1 z1 && (int_eq x2 x2 && (int_eq y2 y2 && int_eq z2 z2))) ((Decides-int_eq y1 y1).1 refl) (and_from (int_eq z1 z1) (int_eq x2 x2 && (int_eq y2 y2 && int_eq z2 z2)) ((Decides-int_eq z1 z1).1 refl) (and_from (int_eq x2 x2) (int_eq y2 y2 && int_eq z2 z2) ((Decides-int_eq x2 x2).1 refl) (and_from (int_eq y2 y2) (int_eq z2 z2) ((Decides-int_eq y2 y2).1 refl) ((Decides-int_eq z2 z2).1 refl)))))
state-itself (state.Plane a b c d) = and_from (int_eq a a) (int_eq b b && (int_eq c c && int_eq d d)) ((Decides-int_eq a a).1 refl) (and_from (int_eq b b) (int_eq c c && int_eq d d) ((Decides-int_eq b b).1 refl) (and_from (int_eq c c) (int_eq d d) ((Decides-int_eq c c).1 refl) ((Decides-int_eq d d).1 refl)))
state-itself (state.Offset k) = (Decides-int_eq k k).1 refl

pub same_states_are_equal : SameStatesAreEqual
same_states_are_equal s t = (state-same s t, λ e. subst (λ x. same_state s x ≡ true) e (state-itself s))
